-- The first broken rule is one rule: so an answer that is as its tests say is so exactly.
use Rattle.iscc.specs.Refusals.{refusal_number}
use Prim.Native.Nat.{ℕ, ◌<◌}
use mathlib.Core.Path.{◌≡◌, refl, sym, ◌∙◌, subst}
use mathlib.Core.Logic.{inl, inr}
use mathlib.Core.List.{List, [], ◌∷◌}
use native.Mathlib.Decide.{ℕ_discrete}
use native.Mathlib.Omega.{arith}
use native.Mathlib.Decide.{dec_lt}
use Rattle.iscc.specs.Answer.{Answer, accept, refuse}
use Rattle.iscc.specs.Exactly.{Rule, HoldAt, BrokenAt, First, AllHold, Exactly}
use Rattle.iscc.proofs.Booleans.{true-false}
use Rattle.iscc.proofs.Answer.{never}
use Rattle.iscc.proofs.Steps.{By}

broken-one : (rs : List Rule) (k n m : ℕ) → BrokenAt rs n k → BrokenAt rs m k → n ≡ m
broken-one [] k n m x y = absurd x
broken-one (r ∷ rs) k n m (inl x) (inl y) = sym x.0 ∙ y.0
broken-one (r ∷ rs) k n m (inl x) (inr y) = absurd (true-false y.0 x.1)
broken-one (r ∷ rs) k n m (inr x) (inl y) = absurd (true-false x.0 y.1)
broken-one (r ∷ rs) k n m (inr x) (inr y) = broken-one rs k n m x.1 y.1

holds-broken : (rs : List Rule) (k n : ℕ) → HoldAt rs k → BrokenAt rs n k → ⊥
holds-broken [] k n h x = x
holds-broken (r ∷ rs) k n h (inl x) = true-false h.0 x.1
holds-broken (r ∷ rs) k n h (inr x) = holds-broken rs k n h.1 x.1

first_one : (ss : List (List Rule)) (n k m j : ℕ) → First ss n k → First ss m j → n ≡ m
first_one [] n k m j x y = absurd x
first_one (s ∷ ss) n k m j (inl x) (inl y) =
    elim (dec_lt k j) [
      | yes l ↦ absurd (holds-broken s k n (y.0 k l) x.1)
      | no p ↦
          elim (dec_lt j k) [
            | yes l ↦ absurd (holds-broken s j m (x.0 j l) y.1)
            | no q ↦ broken-one s k n m x.1 (subst (λ (i : ℕ). BrokenAt s m i) (same k j p q) y.1)
          ]
    ]
  where
    same : (k j : ℕ) → (k < j → ⊥) → (j < k → ⊥) → j ≡ k
    same k j p q = elim (ℕ_discrete j k) [ yes e ↦ e | no d ↦ absurd (omega (arith, p, q, d)) ]
first_one (s ∷ ss) n k m j (inl x) (inr y) = absurd (holds-broken s k n (y.0 k) x.1)
first_one (s ∷ ss) n k m j (inr x) (inl y) = absurd (holds-broken s j m (x.0 j) y.1)
first_one (s ∷ ss) n k m j (inr x) (inr y) = first_one ss n k m j x.1 y.1

all_first : (ss : List (List Rule)) (n k : ℕ) → AllHold ss → First ss n k → ⊥
all_first [] n k a x = x
all_first (s ∷ ss) n k a (inl x) = holds-broken s k n (a.0 k) x.1
all_first (s ∷ ss) n k a (inr x) = all_first ss n k a.1 x.1

pub exactly : {A : Type 0} (ss : List (List Rule)) (x : Answer A) → By ss x → Exactly ss x
exactly ss (accept a) y =
    record {
      accepted = ((λ p. y.accepted p.0 p.1), λ h. (a, refl));
      refused = λ n. ((λ p. absurd (never (sym p.1))), λ f. absurd (all_first ss n f.0 (y.accepted a refl) f.1));
    }
exactly ss (refuse q) y =
    let f = y.refused q refl in
    record {
      accepted = ((λ p. absurd (never p.1)), λ h. absurd (all_first ss (refusal_number q) f.0 h f.1));
      refused =
          λ n. (
            (λ p. let g = y.refused p.0 p.1 in (g.0, subst (λ (k : ℕ). First ss k g.0) p.2 g.1)),
            λ g. (q, refl, first_one ss (refusal_number q) f.0 n g.0 f.1 g.1),
          );
    }
