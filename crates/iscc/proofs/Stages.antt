-- Rules on a value: each a stage of its own, and all of them one stage at a position.
use Prim.Native.Nat.{ℕ}
use mathlib.Core.Path.{◌≡◌, ◌∙◌}
use mathlib.Core.Logic.{inl, inr}
use mathlib.Core.Bool.{Bool, true}
use mathlib.Core.List.{List, [], ◌∷◌}
use Rattle.iscc.specs.Exactly.{HoldAt, BrokenAt, First, AllHold, RuleOn, in_turn, together}

module _ {A : Type 0} (at : (A → Bool) → ℕ → Bool) (j : ℕ) where
  -- where no test is reached
  pub hold-all : ((p : A → Bool) → at p j ≡ true) → (rs : List (RuleOn A)) → HoldAt (together at rs) j
  hold-all e [] = tt
  hold-all e (r ∷ rs) = (e r.holds, hold-all e rs)

  -- where the tests are those of the value a
  module _ (a : A) (e : (p : A → Bool) → at p j ≡ p a) where
    pub hold-turn : (rs : List (RuleOn A)) → AllHold (in_turn rs a) → HoldAt (together at rs) j
    hold-turn [] h = tt
    hold-turn (r ∷ rs) h = (e r.holds ∙ (h.0 0).0, hold-turn rs h.1)

    pub broken-turn : (rs : List (RuleOn A)) (n k : ℕ) → First (in_turn rs a) n k → BrokenAt (together at rs) n j
    broken-turn [] n k f = f
    broken-turn (r ∷ rs) n k (inl (h, inl b)) = inl (b.0, e r.holds ∙ b.1)
    broken-turn (r ∷ rs) n k (inl (h, inr b)) = absurd b.1
    broken-turn (r ∷ rs) n k (inr (h, f)) = inr (e r.holds ∙ (h 0).0, broken-turn rs n k f)

  -- where the tests are those of another stage, at a position of that
  module _ (to : (A → Bool) → ℕ → Bool) (i : ℕ) (e : (p : A → Bool) → at p j ≡ to p i) where
    pub hold-moved : (rs : List (RuleOn A)) → HoldAt (together to rs) i → HoldAt (together at rs) j
    hold-moved [] h = tt
    hold-moved (r ∷ rs) h = (e r.holds ∙ h.0, hold-moved rs h.1)

    pub broken-moved : (rs : List (RuleOn A)) (n : ℕ) → BrokenAt (together to rs) n i → BrokenAt (together at rs) n j
    broken-moved [] n b = b
    broken-moved (r ∷ rs) n (inl b) = inl (b.0, e r.holds ∙ b.1)
    broken-moved (r ∷ rs) n (inr b) = inr (e r.holds ∙ b.0, broken-moved rs n b.1)
