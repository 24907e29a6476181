-- A list cut into parts of n elements, and parts laid end to end: each undoes the other.
use Prim.Native.Nat.{ℕ, zero, suc, ◌+◌, ◌*◌, ◌<◌}
use mathlib.Core.Path.{◌≡◌, refl, ◌∙◌, ap}
use mathlib.Core.List.{List, [], ◌∷◌, flatten}
use native.Mathlib.Nat.{not-suc-le-zero, le_of_suc-le-suc}
use native.Mathlib.Omega.{arith}
use lib.ListN.{length, take, drop, get_or, length-append, length-drop, take-append-drop}
use lib.Seq.{take_at, drop_at, drop-drop, length-take-le}
use Rattle.iscc.specs.Lists.{All, cut}
use Rattle.iscc.specs.Meaning.{Sized}
use Rattle.iscc.proofs.Digits.{below-append, below-take, below-drop}

module _ (n : ℕ) where
  pub cut-flatten : (xss : List (List ℕ)) → All (Sized n) xss → cut n (length xss) (flatten xss) ≡ xss
  unfolding cut flatten
  cut-flatten [] a = refl
  cut-flatten (xs ∷ xss) a = rw (take_at xs (flatten xss) n a.0.0, drop_at xs (flatten xss) n a.0.0, cut-flatten xss a.1)

  pub flatten-sized : (xss : List (List ℕ)) → All (Sized n) xss → Sized (length xss * n) (flatten xss)
  unfolding flatten
  flatten-sized [] a = (omega arith, tt)
  flatten-sized (xs ∷ xss) a =
      let r : Sized (length xss * n) (flatten xss) = flatten-sized xss a.1 in
      let l : length xs ≡ n = a.0.0 in
      (length-append xs (flatten xss) ∙ omega (arith, r.0), below-append 256 xs (flatten xss) a.0.1 r.1)

  pub length_cut : (k : ℕ) (xs : List ℕ) → length (cut n k xs) ≡ k
  unfolding cut
  length_cut zero xs = refl
  length_cut (suc k) xs = ap suc (length_cut k (drop n xs))

  rest-sized : (k : ℕ) (xs : List ℕ) → Sized (suc k * n) xs → Sized (k * n) (drop n xs)
  rest-sized k xs z = (length-drop n xs ∙ omega (arith, z.0), below-drop 256 n xs z.1)

  pub sized-cut : (k : ℕ) (xs : List ℕ) → Sized (k * n) xs → All (Sized n) (cut n k xs)
  unfolding cut
  sized-cut zero xs z = tt
  sized-cut (suc k) xs z =
      ((length-take-le n xs (omega (arith, z.0)), below-take 256 n xs z.1), sized-cut k (drop n xs) (rest-sized k xs z))

  pub flatten-cut : (k : ℕ) (xs : List ℕ) → Sized (k * n) xs → flatten (cut n k xs) ≡ xs
  unfolding cut flatten
  flatten-cut zero [] z = refl
  flatten-cut zero (x ∷ xs) z = absurd (omega (arith, z.0))
  flatten-cut (suc k) xs z = rw (flatten-cut k (drop n xs) (rest-sized k xs z)) (take-append-drop n xs)

  pub cut_at : (k : ℕ) (xs : List ℕ) (i : ℕ) → i < k → get_or (cut n k xs) i [] ≡ take n (drop (i * n) xs)
  unfolding cut
  cut_at zero xs i h = absurd (not-suc-le-zero h)
  cut_at (suc k) xs zero h = ap (λ (m : ℕ). take n (drop m xs)) (let z : 0 ≡ 0 * n = omega arith in z)
  cut_at (suc k) xs (suc i) h =
      let m : n + i * n ≡ suc i * n = omega arith in
      cut_at k (drop n xs) i (le_of_suc-le-suc h) ∙ ap (take n) (drop-drop (i * n) n xs ∙ ap (λ (j : ℕ). drop j xs) m)
