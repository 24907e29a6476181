-- A rule for every number below n, from one test that antt computes; and the entries of a table that lists a function's values.
use Prim.Native.Nat.{ℕ, zero, suc, ◌+◌, ◌<◌}
use mathlib.Core.Path.{◌≡◌, subst, sym, ap, ◌∙◌}
use mathlib.Core.Bool.{Bool, true, ◌&&◌}
use mathlib.Core.List.{List, [], ◌∷◌}
use lib.ListN.{get_or}
use native.Mathlib.Nat.{add-zero, zero-add, add-suc, suc-add, le_of_suc-le-suc, not-suc-le-zero}
use native.Mathlib.Decide.{ℕ_discrete}
use native.Mathlib.Omega.{arith}
use Rattle.iscc.proofs.Booleans.{both_true}

unfoldable pub up_to : ℕ → (ℕ → Bool) → Bool
up_to zero p = true
up_to (suc n) p = p n && up_to n p

pub at : (n : ℕ) (p : ℕ → Bool) → up_to n p ≡ true → (k : ℕ) → k < n → p k ≡ true
unfolding up_to
at zero p e k h = absurd (not-suc-le-zero h)
at (suc n) p e k h =
    let q = both_true (p n) (up_to n p) e in
    elim (ℕ_discrete k n) [ yes s ↦ subst (λ (j : ℕ). p j ≡ true) (sym s) q.0 | no d ↦ at n p q.1 k (omega arith) ]

-- a table that is a function's values, one after the other: antt computes that it is, and `entry` reads one
module _ {A : Type 0} (f : ℕ → A) (d : A) where
  -- k values from i on
  abbrev pub table : ℕ → ℕ → List A
  table i zero = []
  table i (suc k) = f i ∷ table (suc i) k

  from : (i k n : ℕ) → n < k → get_or (table i k) n d ≡ f (i + n)
  from i zero n h = absurd (not-suc-le-zero h)
  from i (suc k) zero h = ap f (sym (add-zero i))
  from i (suc k) (suc n) h = from (suc i) k n (le_of_suc-le-suc h) ∙ ap f (suc-add i n ∙ sym (add-suc i n))

  pub entry : (k n : ℕ) → n < k → get_or (table 0 k) n d ≡ f n
  entry k n h = from 0 k n h ∙ ap f (zero-add n)
