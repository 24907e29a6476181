-- What reading a text comes to, by the tests in their order, as a reader finds them.
use Prim.Native.Nat.{ℕ, ◌/◌, ◌%◌, ◌^◌, ◌≤◌, ◌<◌}
use mathlib.Core.Path.{◌≡◌, refl}
use mathlib.Core.Bool.{Bool, true, false}
use mathlib.Core.List.{List, map}
use lib.ListN.{length, length-map}
use lib.Dec.{ltb, eqb}
use borrow.Author.Tests.{eq-eqb, ne_eqb}
use Rattle.iscc.specs.Refusals.{bad_character, bad_count, spare_bits}
use Rattle.iscc.specs.Answer.{accept, refuse, ◌>>◌, ◌otherwise◌}
use Rattle.iscc.specs.Digits.{digits, value, all_below, byte_count, spare_count, from_digits}
use Rattle.iscc.specs.Alphabet.{Alphabet, digit_in, decode}
use Rattle.iscc.proofs.Digits.{length_digits}

module _ (a : Alphabet) (t : List ℕ) where
  abbrev ds : List ℕ
  ds = map (digit_in a) t

  -- the spare bits of the text, and its bytes
  abbrev pub spare_of : ℕ
  spare_of = value a.bits ds % 2 ^ spare_count a.bits (length t)

  abbrev pub bytes_of : List ℕ
  bytes_of = digits 8 (byte_count a.bits (length t)) (value a.bits ds / 2 ^ spare_count a.bits (length t))

  pub length-bytes : length bytes_of ≡ byte_count a.bits (length t)
  length-bytes = length_digits 8 (byte_count a.bits (length t)) (value a.bits ds / 2 ^ spare_count a.bits (length t))

  decode-by : {p q s : Bool} → all_below (2 ^ a.bits) ds ≡ p → ltb (spare_count a.bits (length t)) a.bits ≡ q → eqb spare_of 0 ≡ s →
      decode a t ≡ (p otherwise bad_character >> (q otherwise bad_count >> (s otherwise spare_bits >> accept bytes_of)))
  unfolding decode from_digits
  decode-by e f g = rw (length-map t (digit_in a), e, f, g)

  pub refused-4 : all_below (2 ^ a.bits) ds ≡ false → decode a t ≡ refuse bad_character
  refused-4 h = decode-by h refl refl

  module _ (in-alphabet : all_below (2 ^ a.bits) ds ≡ true) where
    pub refused-5 : ltb (spare_count a.bits (length t)) a.bits ≡ false → decode a t ≡ refuse bad_count
    refused-5 e = decode-by in-alphabet e refl

    pub refused-6 : ltb (spare_count a.bits (length t)) a.bits ≡ true → (spare_of ≡ 0 → ⊥) → decode a t ≡ refuse spare_bits
    refused-6 e f = decode-by in-alphabet e (ne_eqb spare_of 0 f)

    pub accepted : ltb (spare_count a.bits (length t)) a.bits ≡ true → spare_of ≡ 0 → decode a t ≡ accept bytes_of
    accepted e f = decode-by in-alphabet e (eq-eqb spare_of 0 f)
