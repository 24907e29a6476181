-- An alphabet of RFC 4648: a character for each digit of so many bits, without padding.
use Rattle.std.specs.Prelude.{ℕ, suc, ◌-◌, ◌^◌, Bool, true, false, ◌&&◌, cond, List, [], ◌∷◌, map, get_or, ltb, leb, eqb}
use Rattle.iscc.specs.Answer.{Answer, ◌>>◌, ◌otherwise◌}
use Rattle.iscc.specs.Refusals.{bad_character}
use Rattle.iscc.specs.Digits.{all_below, to_digits, from_digits}

-- the bits of a digit, the character of each digit, and whether small letters are read as capitals
pub record Alphabet : Type 0 where
  pub bits : ℕ
  pub chars : List ℕ
  pub either_case : Bool

-- a small letter's capital; any other byte is itself
unfoldable pub upper : ℕ → ℕ
upper c = cond (leb 97 c && leb c 122) (c - 32) c

abbrev pub folded : Bool → ℕ → ℕ
folded true c = upper c
folded false c = c

-- the first index of c in a list, or the list's length where it is not there
unfoldable pub index_of : ℕ → List ℕ → ℕ
index_of c [] = 0
index_of c (x ∷ xs) = cond (eqb c x) 0 (suc (index_of c xs))

-- the character of a digit, and the digit of a character: no digit, 2 ^ bits, if it is outside the alphabet
unfoldable pub char_in : Alphabet → ℕ → ℕ
char_in a d = get_or a.chars d 0

unfoldable pub digit_in : Alphabet → ℕ → ℕ
digit_in a c = index_of (folded a.either_case c) a.chars

abbrev pub is_digit : Alphabet → ℕ → Bool
is_digit a c = ltb (digit_in a c) (2 ^ a.bits)

unfoldable pub encode : Alphabet → List ℕ → List ℕ
encode a bs = map (char_in a) (to_digits a.bits bs)

-- 4, then 5, then 6
unfoldable pub decode : Alphabet → List ℕ → Answer (List ℕ)
decode a t = do
  all_below (2 ^ a.bits) (map (digit_in a) t) otherwise bad_character
  from_digits a.bits (map (digit_in a) t)
