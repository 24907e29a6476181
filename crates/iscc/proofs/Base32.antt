-- The laws of base32.
use Prim.Native.Nat.{ℕ, ◌+◌, ◌*◌, ◌/◌, ◌%◌}
use mathlib.Core.Path.{◌≡◌, refl, ◌∙◌, ap}
use mathlib.Core.Bool.{true, not, ◌||◌, beq}
use native.Mathlib.Nat.{mod-lt, mul-add-mod_self_right}
use native.Mathlib.Omega.{arith}
use lib.Dec.{ltb, eqb, lit<, lit≤}
use borrow.Author.Tests.{eqb-true}
use Rattle.iscc.specs.Digits.{spare_count}
use Rattle.iscc.specs.Alphabet.{upper, index_of, char_in, digit_in}
use Rattle.iscc.specs.Base32.{base32}
use Rattle.iscc.proofs.Booleans.{beq-true}
use Rattle.iscc.proofs.Table.{up_to, at}
use Rattle.iscc.proofs.Alphabet.{Sound}

-- 5, as the specification puts it: 1, 3 or 6 over a multiple of 8
pub bad-count : (k : ℕ) → ltb (spare_count 5 k) 5 ≡ not (eqb (k % 8) 1 || eqb (k % 8) 3 || eqb (k % 8) 6)
unfolding spare_count up_to
bad-count k =
    let r : ℕ = k % 8 in
    let f : 5 * k ≡ 5 * (k / 8) * 8 + 5 * r = omega arith in
    let e : 5 * k % 8 ≡ 5 * r % 8 = ap (λ (j : ℕ). j % 8) f ∙ mul-add-mod_self_right (5 * (k / 8)) 8 (5 * r) in
    let t : beq (ltb (5 * r % 8) 5) (not (eqb r 1 || eqb r 3 || eqb r 6)) ≡ true =
    at 8 (λ j. beq (ltb (5 * j % 8) 5) (not (eqb j 1 || eqb j 3 || eqb j 6))) refl r (mod-lt k (lit< tt)) in
    rw e (beq-true _ _ t)

pub sound32 : Sound base32
unfolding up_to digit_in char_in base32 upper index_of
sound32 =
    record {
      some = lit< tt;
      most = lit≤ tt;
      count = refl;
      back = λ d h. eqb-true (digit_in base32 (char_in base32 d)) d (at 32 (λ j. eqb (digit_in base32 (char_in base32 j)) j) refl d h);
    }
