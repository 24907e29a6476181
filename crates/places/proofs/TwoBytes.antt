-- A count in two bytes, byte by byte.
use Prim.Native.Nat.{ℕ, suc, ◌+◌, ◌*◌, ◌/◌, ◌%◌, ◌≤◌, ◌<◌}
use mathlib.Core.Path.{◌≡◌, ◌∙◌, ap}
use mathlib.Core.List.{List, [], ◌∷◌, ◌++◌, append_assoc}
use native.Mathlib.Nat.{div-one}
use native.Mathlib.Numerals.{add-one}
use native.Mathlib.Omega.{arith}
use lib.ListN.{length, get_or, set, take, drop}
use lib.Seq.{drop-cons, sets-eq}
use Rattle.iscc.specs.Digits.{digits, value}
use Rattle.loans.specs.Moves.{pasted, number_at, with_number}

two_digits : (n : ℕ) → n / 256 % 256 ∷ n % 256 ∷ [] ≡ digits 8 2 n
unfolding digits
two_digits n = rw (div-one n)

module _ (bs : List ℕ) (i : ℕ) (l : length bs ≡ 16) (h : i < 8) where
  two_bytes : take 2 (drop (2 * i) bs) ≡ get_or bs (2 * i) 0 ∷ get_or bs (2 * i + 1) 0 ∷ []
  two_bytes =
      let p : 2 * i < length bs = omega arith in
      let q : suc (2 * i) < length bs = omega arith in
      rw (drop-cons bs (2 * i) 0 p, drop-cons bs (suc (2 * i)) 0 q, ← add-one (2 * i))

  pub number_read : (x y : ℕ) → x ≡ get_or bs (2 * i) 0 → y ≡ get_or bs (2 * i + 1) 0 → x * 256 + y ≡ number_at i bs
  unfolding number_at value
  number_read x y p q = rw (two_bytes, p, q) (omega arith)

  pub number-written : (n : ℕ) → set (set bs (2 * i) (n / 256 % 256)) (2 * i + 1) (n % 256) ≡ with_number i n bs
  unfolding with_number pasted
  number-written n =
      let p : 2 * i + 2 ≤ length bs = omega arith in
      ap (λ (k : ℕ). set (set bs (2 * i) (n / 256 % 256)) k (n % 256)) (add-one (2 * i)) ∙ sets-eq (n / 256 % 256 ∷ n % 256 ∷ []) bs (2 * i) p
      ∙ append_assoc (take (2 * i) bs) (n / 256 % 256 ∷ n % 256 ∷ []) (drop (2 * i + 2) bs)
      ∙ ap (λ (ds : List ℕ). take (2 * i) bs ++ (ds ++ drop (2 * i + length ds) bs)) (two_digits n)
