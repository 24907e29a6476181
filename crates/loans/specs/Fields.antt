-- A tagged field: "a tag of one byte, a length of two bytes, high byte first, and a body of that many bytes". What it means is not
-- its concern.
use Rattle.std.specs.Prelude.{ℕ, ◌+◌, Bool, List, ◌∷◌, ◌++◌, length, get_or, take, drop, leb}
use Rattle.iscc.specs.Digits.{digits, value}

pub record Field : Type 0 where
  pub tag : ℕ
  pub body : List ℕ

unfoldable pub field_bytes : Field → List ℕ
field_bytes f = f.tag ∷ (digits 8 2 (length f.body) ++ f.body)

-- of the field that bytes begin with: its size, as its own length bytes tell it, whether it is whole, and the field
unfoldable pub first_size : List ℕ → ℕ
first_size bs = 3 + value 8 (take 2 (drop 1 bs))

unfoldable pub first_is_whole : List ℕ → Bool
first_is_whole bs = leb (first_size bs) (length bs)

unfoldable pub first_field : List ℕ → Field
first_field bs = record { tag = get_or bs 0 0; body = take (value 8 (take 2 (drop 1 bs))) (drop 3 bs) }
