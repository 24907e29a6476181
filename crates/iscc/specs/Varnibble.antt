-- The specification, "Varnibbles and raw headers": varnibbles, by the table's rows: a row is its count of nibbles, 1 to 4.
--
--   prefix bits   nibbles   data bits   numbers
--   0             1         3           0 to 7
--   10            2         6           8 to 71
--   110           3         9           72 to 583
--   1110          4         12          584 to 4679
--
use Rattle.std.specs.Prelude.{ℕ, ◌+◌, ◌-◌, ◌*◌, ◌%◌, ◌^◌, cond, List, [], ◌∷◌, length, get_or, take, ltb, leb}
use Rattle.iscc.specs.Answer.{Answer, accept, ◌>>◌, ◌otherwise◌}
use Rattle.iscc.specs.Refusals.{bad_header, number_too_large}
use Rattle.iscc.specs.Digits.{digits, value}

-- a row's first number, and its prefix as a number
unfoldable pub first_of : ℕ → ℕ
first_of k = get_or (0 ∷ 0 ∷ 8 ∷ 72 ∷ 584 ∷ []) k 0

unfoldable pub prefix_of : ℕ → ℕ
prefix_of k = get_or (0 ∷ 0b0 ∷ 0b10 ∷ 0b110 ∷ 0b1110 ∷ []) k 0

-- the row of a number, and the row of a first nibble: 0xxx, 10xx, 110x, 1110
unfoldable pub row_of : ℕ → ℕ
row_of n = cond (ltb n 8) 1 (cond (ltb n 72) 2 (cond (ltb n 584) 3 4))

unfoldable pub row_by : ℕ → ℕ
row_by h = cond (ltb h 0b1000) 1 (cond (ltb h 0b1100) 2 (cond (ltb h 0b1110) 3 4))

-- the prefix and then 3 data bits a nibble: the number minus the row's first, high bit first
unfoldable pub varnibble : ℕ → List ℕ
varnibble n = digits 4 (row_of n) (prefix_of (row_of n) * 2 ^ (3 * row_of n) + (n - first_of (row_of n)))

unfoldable pub write_varnibble : ℕ → Answer (List ℕ)
write_varnibble n = do
  leb n 4679 otherwise number_too_large
  accept (varnibble n)

-- a number that was read, and how many nibbles or bytes it took
pub record Parsed (A : Type 0) : Type 0 where
  pub result : A
  pub used : ℕ

abbrev pub parsed : {A : Type 0} → A → ℕ → Parsed A
parsed r n = record { result = r; used = n }

unfoldable pub read_varnibble : List ℕ → Answer (Parsed ℕ)
read_varnibble ns = do
  ltb 0 (length ns) otherwise bad_header
  ltb (get_or ns 0 0) 0b1111 otherwise bad_header
  leb (row_by (get_or ns 0 0)) (length ns) otherwise bad_header
  accept
      (record {
        result = first_of (row_by (get_or ns 0 0)) + value 4 (take (row_by (get_or ns 0 0)) ns) % 2 ^ (3 * row_by (get_or ns 0 0));
        used = row_by (get_or ns 0 0);
      })
