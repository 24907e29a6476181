-- A test of every element, or of every pair, as a stage: the first element that fails it, or that clashes with one before it, is
-- the first position at which the stage is broken.
use Prim.Native.Nat.{ℕ, zero, suc, ◌<◌}
use mathlib.Core.Path.{◌≡◌, refl, ◌∙◌, ap}
use mathlib.Core.Logic.{inl}
use mathlib.Core.Bool.{Bool, true, false, cond}
use mathlib.Core.List.{List, [], ◌∷◌, ◌++◌, append_assoc, append-nil}
use native.Mathlib.Nat.{not-suc-le-zero, le_of_suc-le-suc}
use lib.ListN.{take, drop}
use Rattle.iscc.specs.Refusals.{Refusal}
use Rattle.iscc.specs.Answer.{Answer, ◌>>◌, ◌otherwise◌}
use Rattle.iscc.specs.Lists.{every, pairwise, first_not, first_clash}
use Rattle.iscc.specs.Item.{Item}
use Rattle.iscc.specs.Exactly.{Rule, rule, head_holds}
use Rattle.iscc.specs.RefusalOrder.{clear_at}
use Rattle.iscc.proofs.Booleans.{both_true, true-false}
use Rattle.iscc.proofs.Lists.{clear, clear-all}
use Rattle.iscc.proofs.Steps.{By, step}

-- a test that holds at every position before k, and fails at k
abbrev pub FailsAt : (ℕ → Bool) → ℕ → Type 0
FailsAt p k = ((j : ℕ) → j < k → p j ≡ true) × (p k ≡ false)

-- one position further: where the first holds, and the test from the next on is known
further : (p q : ℕ → Bool) (b : Bool) (k : ℕ) → p 0 ≡ b → ((j : ℕ) → p (suc j) ≡ q j) → (b ≡ true → FailsAt q k)
    → FailsAt p (cond b (suc k) 0)
further p q true k e f g = ((λ j l. from j l), f k ∙ (g refl).1)
  where
    from : (j : ℕ) → j < suc k → p j ≡ true
    from zero l = e
    from (suc j) l = f j ∙ (g refl).0 j (le_of_suc-le-suc l)
further p q false k e f g = ((λ j l. absurd (not-suc-le-zero l)), e)

-- ---- the first element that fails

module _ {A : Type 0} (p : A → Bool) where
  pub every_holds : (xs : List A) → every p xs ≡ true → (j : ℕ) → head_holds p (drop j xs) ≡ true
  unfolding every
  every_holds [] e zero = refl
  every_holds [] e (suc j) = refl
  every_holds (x ∷ xs) e zero = (both_true (p x) (every p xs) e).0
  every_holds (x ∷ xs) e (suc j) = every_holds xs (both_true (p x) (every p xs) e).1 j

  pub every-broken : (xs : List A) → every p xs ≡ false → FailsAt (λ j. head_holds p (drop j xs)) (first_not p xs)
  unfolding every first_not
  every-broken [] e = absurd (true-false refl e)
  every-broken (x ∷ xs) e =
      further (λ j. head_holds p (drop j (x ∷ xs))) (λ j. head_holds p (drop j xs)) (p x) (first_not p xs) refl (λ j. refl)
      (λ t. every-broken xs (rw t at e))

-- ---- the first element that does not go with one before it

module _ {A : Type 0} (r : A → A → Bool) where
  abbrev clear_in : List A → List A → ℕ → Bool
  clear_in before xs j = head_holds (λ x. every (λ e. r e x) (before ++ take j xs)) (drop j xs)

  next-in : (before xs : List A) (x : A) (j : ℕ) → clear_in before (x ∷ xs) (suc j) ≡ clear_in (before ++ (x ∷ [])) xs j
  next-in before xs x j = rw (append_assoc before (x ∷ []) (take j xs))

  first-in : (before xs : List A) (x : A) → clear_in before (x ∷ xs) 0 ≡ every (λ e. r e x) before
  first-in before xs x = ap (every (λ e. r e x)) (append-nil before)

  clear-holds : (before xs : List A) → clear r before xs ≡ true → (j : ℕ) → clear_in before xs j ≡ true
  unfolding clear
  clear-holds before [] e zero = refl
  clear-holds before [] e (suc j) = refl
  clear-holds before (x ∷ xs) e zero = first-in before xs x ∙ (both_true (every (λ e. r e x) before) _ e).0
  clear-holds before (x ∷ xs) e (suc j) =
      next-in before xs x j ∙ clear-holds (before ++ (x ∷ [])) xs (both_true (every (λ e. r e x) before) _ e).1 j

  clear-broken : (before xs : List A) → clear r before xs ≡ false → FailsAt (clear_in before xs) (first_clash r before xs)
  unfolding clear first_clash
  clear-broken before [] e = absurd (true-false refl e)
  clear-broken before (x ∷ xs) e =
      further (clear_in before (x ∷ xs)) (clear_in (before ++ (x ∷ [])) xs) (every (λ e. r e x) before) (first_clash r (before ++ (x ∷ [])) xs)
      (first-in before xs x) (next-in before xs x) (λ t. clear-broken (before ++ (x ∷ [])) xs (rw t at e))

-- ---- as stages

module _ {B : Type 0} (n : Refusal) (x : Answer B) (ss : List (List Rule)) (rest : By ss x) where
  -- a test b that says whether p holds at every position
  pub step-at : (b : Bool) (p : ℕ → Bool) (k : ℕ) → (b ≡ true → (j : ℕ) → p j ≡ true) → (b ≡ false → FailsAt p k)
      → By (rule n p ∷ ss) (b otherwise n >> x)
  step-at b p k f g = step b n k x (rule n p) ss (λ e j. (f e j, tt)) (λ e. ((λ j l. ((g e).0 j l, tt)), inl (refl, (g e).1))) (λ e. rest)

  pub step-every : {A : Type 0} (p : A → Bool) (xs : List A) → By (rule n (λ j. head_holds p (drop j xs)) ∷ ss) (every p xs otherwise n >> x)
  step-every p xs = step-at (every p xs) _ (first_not p xs) (every_holds p xs) (every-broken p xs)

  pub step-pairs : (r : Item → Item → Bool) (xs : List Item) → By (rule n (clear_at r xs) ∷ ss) (pairwise r xs otherwise n >> x)
  step-pairs r xs =
      step-at (pairwise r xs) (clear_at r xs) (first_clash r [] xs) (λ e. clear-holds r [] xs (clear-all r xs ∙ e))
      (λ e. clear-broken r [] xs (clear-all r xs ∙ e))
