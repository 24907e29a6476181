-- Nibbles packed into bytes, as digits of one number.
use Prim.Native.Nat.{ℕ, zero, suc, ◌+◌, ◌*◌, ◌/◌, ◌%◌, ◌^◌}
use mathlib.Core.Path.{◌≡◌, refl, sym, ◌∙◌, ap}
use mathlib.Core.List.{List, [], ◌∷◌, ◌++◌}
use native.Mathlib.Omega.{arith}
use lib.Pow.{shr-shr}
use lib.ListN.{length}
use Rattle.iscc.specs.Digits.{digits}
use Rattle.iscc.specs.Header.{packed}
use Rattle.iscc.proofs.Digits.{length_digits, digits-snoc}

pack-even : (k x : ℕ) → packed (digits 4 (k + k) x) ≡ digits 8 k x
unfolding packed digits
pack-even zero x = refl
pack-even (suc k) x =
    let e : suc k + suc k ≡ suc (suc (k + k)) = omega arith in
    let y : ℕ = x / 2 ^ (8 * k) in
    let f : 4 * (k + k) ≡ 8 * k = omega arith in
    let g : 4 * suc (k + k) ≡ 8 * k + 4 = omega arith in
    let s : x / 2 ^ (8 * k + 4) ≡ y / 16 = sym (shr-shr x (8 * k) 4) in
    let b : y / 16 % 16 * 16 + y % 16 ≡ y % 256 = omega arith in
    rw (e, f, g, s, b, pack-even k x)

-- a zero nibble behind an odd count adds no byte
pack-zero : (ns : List ℕ) → (length ns % 2 ≡ 0 → ⊥) → packed (ns ++ (0 ∷ [])) ≡ packed ns
unfolding packed
pack-zero [] h = absurd (h refl)
pack-zero (a ∷ []) h = let e : a * 16 + 0 ≡ a * 16 = omega arith in rw e
pack-zero (a ∷ b ∷ ns) h = rw (pack-zero ns (omega arith))

module _ (n x : ℕ) where
  pub packed-even : n % 2 ≡ 0 → digits 8 (n / 2) x ≡ packed (digits 4 n x)
  packed-even e = let k : n / 2 + n / 2 ≡ n = omega arith in sym (rw k at (pack-even (n / 2) x))

  pub packed-odd : (n % 2 ≡ 0 → ⊥) → digits 8 ((n + 1) / 2) (x * 16) ≡ packed (digits 4 n x)
  packed-odd e =
      let k : (n + 1) / 2 + (n + 1) / 2 ≡ n + 1 = omega arith in
      let q : x * 16 / 2 ^ 4 ≡ x = omega arith in
      let r : x * 16 % 2 ^ 4 ≡ 0 = omega arith in
      let s : digits 4 (n + 1) (x * 16) ≡ digits 4 n x ++ (0 ∷ []) = digits-snoc 4 n (x * 16) ∙ rw (q, r) in
      let o : length (digits 4 n x) % 2 ≡ 0 → ⊥ = rw (length_digits 4 n x) e in
      sym (rw k at (pack-even ((n + 1) / 2) (x * 16))) ∙ ap packed s ∙ pack-zero (digits 4 n x) o
