-- Laws of `&&`, `||` and `cond` that the library (`mathlib.Core.Bool`) lacks: it has those of a constant, of order and of grouping.
use mathlib.Core.Path.{◌≡◌, refl, sym, ◌∙◌}
use mathlib.Core.Logic.{◌⊎◌, inl, inr}
use mathlib.Core.Bool.{Bool, true, false, cond, not, ◌&&◌, ◌||◌, beq, false≢true, and_comm, and_assoc}

pub true-false : {b : Bool} → b ≡ true → b ≡ false → ⊥
true-false e f = false≢true (sym f ∙ e)

pub both_true : (a c : Bool) → a && c ≡ true → (a ≡ true) × (c ≡ true)
both_true true c e = (refl, e)
both_true false c e = absurd (true-false e refl)

pub and-swap : (a b c : Bool) → a && (b && c) ≡ b && (a && c)
and-swap true b c = refl
and-swap false true c = refl
and-swap false false c = refl

pub and-four : (a b c d : Bool) → (a && b) && (c && d) ≡ (a && c) && (b && d)
and-four true true c d = refl
and-four true false true d = refl
and-four true false false d = refl
and-four false b c d = refl

pub and_last : (a b c : Bool) → a && (b && c) ≡ (a && c) && b
and_last a b c = rw (and_comm b c) (sym (and_assoc a c b))

pub beq-true : (a b : Bool) → beq a b ≡ true → a ≡ b
beq-true true true p = refl
beq-true true false p = sym p
beq-true false true p = p
beq-true false false p = refl

pub or_left : (a b : Bool) → a ≡ true → a || b ≡ true
or_left a b e = rw e

pub or_right : (a b : Bool) → b ≡ true → a || b ≡ true
or_right true b e = refl
or_right false b e = e

pub or_cases : (a b : Bool) → a || b ≡ true → (a ≡ true) ⊎ (b ≡ true)
or_cases true b e = inl refl
or_cases false b e = inr e

-- r and s are what calls said of the tests a and b
module _ (a b r s : Bool) where
  pub or-first : r ≡ a → r ≡ true → true ≡ a || b
  or-first e t = rw (← e, t)

  pub or-second : r ≡ a → r ≡ false → s ≡ b → s ≡ a || b
  or-second e t f = rw (← e, t, f)

  pub nor-first : r ≡ a → r ≡ true → false ≡ not (a || b)
  nor-first e t = rw (← e, t)

  pub nor-second : r ≡ a → r ≡ false → s ≡ b → not s ≡ not (a || b)
  nor-second e t f = rw (← e, t, f)

module _ {A : Type 0} (a b r s : Bool) (x y z : A) where
  pub cond_both : r ≡ a → r ≡ true → s ≡ b → s ≡ true → x ≡ cond a (cond b x y) z
  cond_both e t f u = rw (← e, t, ← f, u)

  pub cond-first : r ≡ a → r ≡ true → s ≡ b → s ≡ false → y ≡ cond a (cond b x y) z
  cond-first e t f u = rw (← e, t, ← f, u)

  pub cond-none : r ≡ a → r ≡ false → z ≡ cond a (cond b x y) z
  cond-none e t = rw (← e, t)
