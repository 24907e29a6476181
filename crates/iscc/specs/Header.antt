-- The specification, "Varnibbles and raw headers": raw headers, four varnibbles, and a zero nibble if they are odd in number.
use Rattle.std.specs.Prelude.{ℕ, ◌+◌, ◌*◌, ◌/◌, ◌%◌, ◌≤◌, ◌||◌, List, [], ◌∷◌, ◌++◌, get_or, drop, eqb}
use Rattle.iscc.specs.Answer.{Answer, accept, ◌>>=◌, ◌>>◌, ◌otherwise◌, into}
use Rattle.iscc.specs.Refusals.{bad_header}
use Rattle.iscc.specs.Varnibble.{Parsed, varnibble, write_varnibble, read_varnibble}

pub record Header : Type 0 where
  pub main_type : ℕ
  pub subtype : ℕ
  pub version : ℕ
  pub length_number : ℕ

-- the header of four numbers
abbrev pub header_with_numbers : ℕ → ℕ → ℕ → ℕ → Header
header_with_numbers m s v l = record { main_type = m; subtype = s; version = v; length_number = l }

-- four numbers that varnibbles can write
abbrev pub Writable : Header → Type 0
Writable h = (h.main_type ≤ 4679) × (h.subtype ≤ 4679) × (h.version ≤ 4679) × (h.length_number ≤ 4679)

-- bytes as nibbles, and nibbles as bytes, with a zero nibble behind an odd last one
unfoldable pub nibbles : List ℕ → List ℕ
nibbles [] = []
nibbles (b ∷ bs) = b / 16 ∷ b % 16 ∷ nibbles bs

unfoldable pub packed : List ℕ → List ℕ
packed [] = []
packed (a ∷ []) = a * 16 ∷ []
packed (a ∷ b ∷ ns) = (a * 16 + b) ∷ packed ns

unfoldable pub header_bytes : Header → List ℕ
header_bytes h = packed (varnibble h.main_type ++ varnibble h.subtype ++ varnibble h.version ++ varnibble h.length_number)

-- 17 for any of the four, then 15
unfoldable pub raw_header : Header → Answer (List ℕ)
raw_header h = do
  a ← write_varnibble h.main_type
  b ← write_varnibble h.subtype
  c ← write_varnibble h.version
  d ← write_varnibble h.length_number
  accept (packed (a ++ b ++ c ++ d))

abbrev pub write_header : Header → ℕ → Answer (List ℕ)
write_header h area = into area (raw_header h)

-- Four varnibbles; where they end inside a byte, the byte's other nibble is zero.
unfoldable pub read_header : List ℕ → Answer (Parsed Header)
read_header bs = do
  a ← read_varnibble (nibbles bs)
  b ← read_varnibble (drop a.used (nibbles bs))
  c ← read_varnibble (drop (a.used + b.used) (nibbles bs))
  d ← read_varnibble (drop (a.used + b.used + c.used) (nibbles bs))
  let n = a.used + b.used + c.used + d.used
  (eqb (n % 2) 0 || eqb (get_or (nibbles bs) n 0) 0) otherwise bad_header
  accept
      (record {
        result = header_with_numbers a.result b.result c.result d.result;
        used = (n + 1) / 2;
      })
