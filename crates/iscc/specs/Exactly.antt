-- The specification, "Numbers of refusal and their order": what "given exactly when" means, over any rules in any order. The rules of
-- each call, in their order, stand in RefusalOrder.antt.
use Rattle.iscc.specs.Refusals.{refusal_number}
use Rattle.std.specs.Prelude.{ℕ, ◌<◌, ◌≡◌, Bool, true, false, List, [], ◌∷◌, ◌⊎◌, ◌↔◌}
use Rattle.iscc.specs.Refusals.{Refusal}
use Rattle.iscc.specs.Answer.{Answer, accept, refuse}

-- a rule: its number, and its test at a position (of a character, an item, a main type; a test without a position is the same at all)
pub record Rule : Type 0 where
  pub number : ℕ
  pub holds : ℕ → Bool

-- a stage: rules that are tested at one position, in order, before the next position
abbrev pub HoldAt : List Rule → ℕ → Type 0
HoldAt [] k = Unit {0}
HoldAt (r ∷ rs) k = (r.holds k ≡ true) × HoldAt rs k

-- of these rules, n's is broken at position k, and those before it hold there
abbrev pub BrokenAt : List Rule → ℕ → ℕ → Type 0
BrokenAt [] n k = ⊥
BrokenAt (r ∷ rs) n k = ((r.number ≡ n) × (r.holds k ≡ false)) ⊎ ((r.holds k ≡ true) × BrokenAt rs n k)

-- the stages of a call, in order: in the first that does not hold, n's rule is broken at position k, and everything before that holds
abbrev pub First : List (List Rule) → ℕ → ℕ → Type 0
First [] n k = ⊥
First (s ∷ ss) n k = (((j : ℕ) → j < k → HoldAt s j) × BrokenAt s n k) ⊎ (((j : ℕ) → HoldAt s j) × First ss n k)

abbrev pub AllHold : List (List Rule) → Type 0
AllHold [] = Unit {0}
AllHold (s ∷ ss) = ((j : ℕ) → HoldAt s j) × AllHold ss

-- An answer is as its tests say: it accepts exactly where all of them hold, and it refuses with a number exactly where that
-- number's rule is the first that is broken, at some position.
pub record Exactly {A : Type 0} (ss : List (List Rule)) (x : Answer A) : Type 0 where
  pub accepted : ((a : A) × (x ≡ accept a)) ↔ AllHold ss
  pub refused : (n : ℕ) → ((q : Refusal) × (x ≡ refuse q) × (refusal_number q ≡ n)) ↔ ((k : ℕ) × First ss n k)

-- ---- how a call's stages are written

-- a stage of one rule, tested at each position, or without a position
abbrev pub rule : Refusal → (ℕ → Bool) → List Rule
rule r p = record { number = refusal_number r; holds = p } ∷ []

abbrev pub once : Refusal → Bool → List Rule
once r b = rule r (λ _. b)

-- a test of the first element, if there is one: of the element at position j in `head_holds p (drop j xs)`
abbrev pub head_holds : {A : Type 0} → (A → Bool) → List A → Bool
head_holds p [] = true
head_holds p (x ∷ xs) = p x

-- a rule on a value: its refusal, and its test
pub record RuleOn (A : Type 0) : Type 0 where
  pub refusal : Refusal
  pub holds : A → Bool

abbrev pub rule_on : {A : Type 0} → Refusal → (A → Bool) → RuleOn A
rule_on r p = record { refusal = r; holds = p }

-- such rules on one value, each a stage of its own
abbrev pub in_turn : {A : Type 0} → List (RuleOn A) → A → List (List Rule)
in_turn [] a = []
in_turn (r ∷ rs) a = once r.refusal (r.holds a) ∷ in_turn rs a

-- such rules as one stage: `at p j` is the test p at position j
abbrev pub together : {A : Type 0} → ((A → Bool) → ℕ → Bool) → List (RuleOn A) → List Rule
together at [] = []
together at (r ∷ rs) = record { number = refusal_number r.refusal; holds = at r.holds } ∷ together at rs

-- stages, and a test, that are reached only where an answer accepts
abbrev pub where_accepted : {A : Type 0} → Answer A → (A → List (List Rule)) → List (List Rule)
where_accepted (accept a) f = f a
where_accepted (refuse q) f = []

abbrev pub after : {A : Type 0} → Answer A → (A → Bool) → Bool
after (accept a) p = p a
after (refuse q) p = true
