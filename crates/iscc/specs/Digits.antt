-- Numbers as digits of v bits, the high digit first: bits (v = 1), nibbles (4), base32 (5), bytes (8).
use Rattle.std.specs.Prelude.{ℕ, zero, suc, ◌+◌, ◌-◌, ◌*◌, ◌/◌, ◌%◌, ◌^◌, ◌<◌, Bool, true, ◌&&◌, List, [], ◌∷◌, length, ltb, eqb}
use Rattle.iscc.specs.Answer.{Answer, accept, ◌>>◌, ◌otherwise◌}
use Rattle.iscc.specs.Refusals.{bad_count, spare_bits}

-- the n low digits of x
unfoldable pub digits : ℕ → ℕ → ℕ → List ℕ
digits v zero x = []
digits v (suc n) x = x / 2 ^ (v * n) % 2 ^ v ∷ digits v n x

-- the number that digits stand for
unfoldable pub value : ℕ → List ℕ → ℕ
value v [] = 0
value v (d ∷ ds) = d * 2 ^ (v * length ds) + value v ds

-- every element is below b: the statement, and its test
abbrev pub Below : ℕ → List ℕ → Type 0
Below b [] = Unit {0}
Below b (d ∷ ds) = (d < b) × Below b ds

unfoldable pub all_below : ℕ → List ℕ → Bool
all_below b [] = true
all_below b (d ∷ ds) = ltb d b && all_below b ds

-- Bytes as digits of v bits and back (RFC 4648 at v = 4, 5, 6, without padding).
-- n bytes take as many digits as hold 8 n bits, rounded up; the spare low bits of the last digit are zero.
unfoldable pub digit_count : ℕ → ℕ → ℕ
digit_count v n = (8 * n + (v - 1)) / v

unfoldable pub to_digits : ℕ → List ℕ → List ℕ
to_digits v bs = digits v (digit_count v (length bs)) (value 8 bs * 2 ^ (v * digit_count v (length bs) - 8 * length bs))

-- k digits hold v k bits: the whole bytes, and the spare bits behind the last of them
unfoldable pub byte_count : ℕ → ℕ → ℕ
byte_count v k = v * k / 8

unfoldable pub spare_count : ℕ → ℕ → ℕ
spare_count v k = v * k % 8

-- 5: a last digit that holds spare bits alone, so that no whole bytes give this count (at v = 5: 1, 3 or 6 over a multiple
-- of 8, by `proofs/Base32.bad-count`). 6: a spare bit that is not zero.
unfoldable pub from_digits : ℕ → List ℕ → Answer (List ℕ)
from_digits v ds = do
  ltb (spare_count v (length ds)) v otherwise bad_count
  eqb (value v ds % 2 ^ spare_count v (length ds)) 0 otherwise spare_bits
  accept (digits 8 (byte_count v (length ds)) (value v ds / 2 ^ spare_count v (length ds)))
