-- The order of byte strings is strict and total.
use Prim.Native.Nat.{ℕ, ◌≤◌, ◌<◌}
use mathlib.Core.Path.{◌≡◌, refl, sym, ◌∙◌, ap₂, subst}
use mathlib.Core.Bool.{Bool, true, false, cond, false≢true}
use mathlib.Core.List.{List, [], ◌∷◌}
use native.Mathlib.Omega.{arith}
use lib.Dec.{eqb, ltb}
use borrow.Author.Tests.{eq-eqb, ne_eqb, eqb-true, eqb-false, lt-ltb, ltb-true, ltb-false}
use Rattle.octets.specs.Order.{before}

pub before_same : (x y : ℕ) (xs ys : List ℕ) → x ≡ y → before (x ∷ xs) (y ∷ ys) ≡ before xs ys
unfolding before
before_same x y xs ys e = rw (eq-eqb x y e)

pub before-less : (x y : ℕ) (xs ys : List ℕ) → x < y → before (x ∷ xs) (y ∷ ys) ≡ true
unfolding before
before-less x y xs ys h = rw (ne_eqb x y (λ e. omega arith), lt-ltb x y h)

-- by the first byte, or by the rest
data ByByte (x y : ℕ) (xs ys : List ℕ) : Type 0 where
  here : x < y → ByByte x y xs ys
  there : x ≡ y → before xs ys ≡ true → ByByte x y xs ys

by_byte : (x y : ℕ) (xs ys : List ℕ) → before (x ∷ xs) (y ∷ ys) ≡ true → ByByte x y xs ys
unfolding before
by_byte x y xs ys e = go (eqb x y) refl e
  where
    go : (b : Bool) → eqb x y ≡ b → cond b (before xs ys) (ltb x y) ≡ true → ByByte x y xs ys
    go true q w = there (eqb-true x y q) w
    go false q w = here (ltb-true x y w)

before-irrefl : (c : List ℕ) → before c c ≡ true → ⊥
unfolding before
before-irrefl [] e = false≢true e
before-irrefl (x ∷ xs) e = before-irrefl xs (sym (before_same x x xs xs refl) ∙ e)

pub before-trans : (a b c : List ℕ) → before a b ≡ true → before b c ≡ true → before a c ≡ true
unfolding before
before-trans [] [] c e f = absurd (false≢true e)
before-trans [] (y ∷ ys) [] e f = absurd (false≢true f)
before-trans [] (y ∷ ys) (z ∷ zs) e f = refl
before-trans (x ∷ xs) [] c e f = absurd (false≢true e)
before-trans (x ∷ xs) (y ∷ ys) [] e f = absurd (false≢true f)
before-trans (x ∷ xs) (y ∷ ys) (z ∷ zs) e f = go (by_byte x y xs ys e) (by_byte y z ys zs f) (before-trans xs ys zs)
  where
    go : ByByte x y xs ys → ByByte y z ys zs → (before xs ys ≡ true → before ys zs ≡ true → before xs zs ≡ true) → before (x ∷ xs) (z ∷ zs) ≡ true
    go (here p) (here q) ih = before-less x z xs zs (omega arith)
    go (here p) (there q r) ih = before-less x z xs zs (omega arith)
    go (there p r) (here q) ih = before-less x z xs zs (omega arith)
    go (there p r) (there q t) ih = before_same x z xs zs (omega arith) ∙ ih r t

-- one of two comes first, or they are the same
pub data Compared (a b : List ℕ) : Type 0 where
  lower : before a b ≡ true → Compared a b
  equal : a ≡ b → Compared a b
  higher : before b a ≡ true → Compared a b

pub compared : (a b : List ℕ) → Compared a b
unfolding before
compared [] [] = equal refl
compared [] (y ∷ ys) = lower refl
compared (x ∷ xs) [] = higher refl
compared (x ∷ xs) (y ∷ ys) = go (eqb x y) refl (ltb x y) refl (compared xs ys)
  where
    go : (b : Bool) → eqb x y ≡ b → (d : Bool) → ltb x y ≡ d → Compared xs ys → Compared (x ∷ xs) (y ∷ ys)
    go true q d w (lower r) = lower (before_same x y xs ys (eqb-true x y q) ∙ r)
    go true q d w (equal r) = equal (ap₂ (λ (z : ℕ) (zs : List ℕ). z ∷ zs) (eqb-true x y q) r)
    go true q d w (higher r) = higher (before_same y x ys xs (sym (eqb-true x y q)) ∙ r)
    go false q true w r = lower (before-less x y xs ys (ltb-true x y w))
    go false q false w r =
        let h : y ≤ x = ltb-false x y w in
        let n : x ≡ y → ⊥ = eqb-false x y q in
        higher (before-less y x ys xs (omega arith))

pub before-other : (a b : List ℕ) → before a b ≡ true → a ≡ b → ⊥
before-other a b e p = before-irrefl b (subst (λ (z : List ℕ). before z b ≡ true) p e)

pub before-not : (a b : List ℕ) → before a b ≡ true → before b a ≡ false
before-not a b e = go (before b a) refl
  where
    go : (d : Bool) → before b a ≡ d → before b a ≡ false
    go true w = absurd (before-irrefl a (before-trans a b a e w))
    go false w = w
