-- How the answers of a definition's steps make the whole's: a step is a test, or a part whose value the rest takes.
use Rattle.iscc.specs.Refusals.{refusal_number}
use Prim.Native.Nat.{ℕ, ◌<◌}
use mathlib.Core.Path.{◌≡◌, refl, sym, subst}
use mathlib.Core.Logic.{inl, inr}
use mathlib.Core.Bool.{Bool, true, false}
use mathlib.Core.List.{List, [], ◌∷◌, ◌++◌}
use native.Mathlib.Nat.{not-suc-le-zero}
use lib.ListN.{length}
use lib.Dec.{leb}
use Rattle.iscc.specs.Refusals.{Refusal, area_too_short}
use Rattle.iscc.specs.Answer.{Answer, accept, refuse, ◌>>=◌, ◌>>◌, ◌otherwise◌, into}
use Rattle.iscc.specs.Exactly.{Rule, HoldAt, BrokenAt, First, AllHold, once, where_accepted}
use Rattle.iscc.specs.RefusalOrder.{area_stages}
use Rattle.iscc.proofs.Answer.{never, answered, refuse-inj, bind-refused}

-- One direction of `Exactly`, which the steps carry on: an answer accepts only where all hold, and refuses only for the first
-- that does not, at some position. The other direction follows (Exactly.antt).
pub record By {A : Type 0} (ss : List (List Rule)) (x : Answer A) : Type 0 where
  pub accepted : (a : A) → x ≡ accept a → AllHold ss
  pub refused : (q : Refusal) → x ≡ refuse q → (k : ℕ) × First ss (refusal_number q) k

pub done : {A : Type 0} (a : A) → By [] (accept a)
done a = record { accepted = λ b e. tt; refused = λ q e. absurd (never (sym e)) }

-- ---- a test

pub refusing : {A : Type 0} (n : Refusal) (k : ℕ) (s : List Rule) (ss : List (List Rule))
    → ((j : ℕ) → j < k → HoldAt s j) × BrokenAt s (refusal_number n) k → By {A = A} (s ∷ ss) (refuse n)
refusing n k s ss g =
    record {
      accepted = λ a e. absurd (never e);
      refused = λ q e. (k, inl (subst (λ (r : Refusal). ((j : ℕ) → j < k → HoldAt s j) × BrokenAt s (refusal_number r) k) (refuse-inj e) g));
    }

pub holding : {A : Type 0} (s : List Rule) (ss : List (List Rule)) (x : Answer A) → ((j : ℕ) → HoldAt s j) → By ss x → By (s ∷ ss) x
holding s ss x f y =
    record { accepted = λ a e. (f, y.accepted a e); refused = λ q e. let z = y.refused q e in (z.0, inr (f, z.1)) }

-- the stage that it stands for holds where it is true, and is broken at position k where it is false; the rest may lean on it
pub step : {A : Type 0} (b : Bool) (n : Refusal) (k : ℕ) (x : Answer A) (s : List Rule) (ss : List (List Rule))
    → (b ≡ true → (j : ℕ) → HoldAt s j)
    → (b ≡ false → ((j : ℕ) → j < k → HoldAt s j) × BrokenAt s (refusal_number n) k)
    → (b ≡ true → By ss x) → By (s ∷ ss) (b otherwise n >> x)
step true n k x s ss f g y = holding s ss x (f refl) (y refl)
step false n k x s ss f g y = refusing n k s ss (g refl)

-- a test without a position
pub step-known : {A : Type 0} (b : Bool) (n : Refusal) (x : Answer A) (ss : List (List Rule))
    → (b ≡ true → By ss x) → By (once n b ∷ ss) (b otherwise n >> x)
step-known b n x ss y = step b n 0 x (once n b) ss (λ e j. (e, tt)) (λ e. ((λ j l. absurd (not-suc-le-zero l)), inl (refl, e))) y

pub step-once : {A : Type 0} (b : Bool) (n : Refusal) (x : Answer A) (ss : List (List Rule))
    → By ss x → By (once n b ∷ ss) (b otherwise n >> x)
step-once b n x ss y = step-known b n x ss (λ e. y)

-- ---- one part after another

first-left : (ss rs : List (List Rule)) (n k : ℕ) → First ss n k → First (ss ++ rs) n k
first-left [] rs n k f = absurd f
first-left (s ∷ ss) rs n k (inl b) = inl b
first-left (s ∷ ss) rs n k (inr c) = inr (c.0, first-left ss rs n k c.1)

first-right : (ss rs : List (List Rule)) (n k : ℕ) → AllHold ss → First rs n k → First (ss ++ rs) n k
first-right [] rs n k a f = f
first-right (s ∷ ss) rs n k a f = inr (a.0, first-right ss rs n k a.1 f)

all_both : (ss rs : List (List Rule)) → AllHold ss → AllHold rs → AllHold (ss ++ rs)
all_both [] rs a b = b
all_both (s ∷ ss) rs a b = (a.0, all_both ss rs a.1 b)

pub after-part : {A B : Type 0} (ss rs : List (List Rule)) (x : Answer A) (f : A → Answer B)
    → By ss x → ((a : A) → x ≡ accept a → By rs (f a)) → By (ss ++ rs) (x >>= f)
after-part ss rs x f y g =
    record {
      accepted = λ b e. let w = answered x f e in all_both ss rs (y.accepted w.0 w.1) ((g w.0 w.1).accepted b w.2);
      refused =
          λ q e. elim (bind-refused x f e) [
            | inl z ↦ let u = y.refused q z in (u.0, first-left ss rs (refusal_number q) u.0 u.1)
            | inr w ↦
                let u = (g w.0 w.1).refused q w.2 in
                (u.0, first-right ss rs (refusal_number q) u.0 (y.accepted w.0 w.1) u.1)
          ];
    }

-- stages that are reached only where the part accepts
pub behind : {A B : Type 0} (ss : List (List Rule)) (x : Answer A) (f : A → Answer B) (g : A → List (List Rule))
    → By ss x → ((a : A) → x ≡ accept a → By (g a) (f a)) → By (ss ++ where_accepted x g) (x >>= f)
behind ss x f g y h = after-part ss (where_accepted x g) x f y (λ a e. rw e (h a e))

-- what is made of a part's value
pub made_of : {A B : Type 0} (ss : List (List Rule)) (x : Answer A) (f : A → B) → By ss x → By ss (x >>= λ a. accept (f a))
made_of ss x f y =
    record {
      accepted = λ b e. let w = answered x (λ a. accept (f a)) e in y.accepted w.0 w.1;
      refused = λ q e. elim (bind-refused x (λ a. accept (f a)) e) [ inl z ↦ y.refused q z | inr w ↦ absurd (never (sym w.2)) ];
    }

-- what is written to an area
pub into-by : (x : Answer (List ℕ)) (area : ℕ) (ss : List (List Rule)) → By ss x → By (ss ++ area_stages area x) (into area x)
into-by x area ss y =
    behind ss x _ _ y (λ out e. step-once (leb (length out) area) area_too_short (accept out) [] (done out))
