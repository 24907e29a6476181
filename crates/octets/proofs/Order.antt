-- The order of two byte strings, and std's.
use Prim.Native.Nat.{ℕ, ◌≤◌, ◌<◌}
use mathlib.Core.Path.{◌≡◌, refl, sym, ◌∙◌}
use mathlib.Core.Bool.{Bool, true, false, cond}
use mathlib.Core.List.{List, [], ◌∷◌}
use native.Mathlib.Omega.{arith}
use lib.Dec.{eqb, ltb}
use borrow.Author.Tests.{eq-eqb, eqb-true, eqb-false, ltb-true, ltb-false}
use Rattle.iscc.specs.Lists.{same_bytes}
use Rattle.iscc.proofs.Demand3.{same_bytes-eq}
use Rattle.octets.specs.Order.{before}
use Rattle.octets.specs.Representation.{order_as}
use Rattle.std.specs.Cmp.Lexicographic.{slice_cmp}
use Rattle.std.specs.Ordering.{nat_cmp, ordering_then}
use Rattle.std.specs.declared.cmp.Ordering.TheVariants.{Less, Equal, Greater}
use Rattle.std.specs.declared.cmp.Ordering.TheVariants.{Less, Equal, Greater}
use Rattle.octets.proofs.Total.{before-less, before-other, before-not}

-- ---- the answer from the order

pub is-before : (a b : List ℕ) → before a b ≡ true → order_as a b ≡ Less
unfolding order_as
is-before a b e = go (same_bytes a b) refl
  where
    go : (s : Bool) → same_bytes a b ≡ s → cond s Equal (cond (before a b) Less Greater) ≡ Less
    go true q = absurd (before-other a b e (same_bytes-eq a b q))
    go false q = rw e

pub is-behind : (a b : List ℕ) → before b a ≡ true → order_as a b ≡ Greater
unfolding order_as
is-behind a b e = go (same_bytes a b) refl
  where
    go : (s : Bool) → same_bytes a b ≡ s → cond s Equal (cond (before a b) Less Greater) ≡ Greater
    go true q = absurd (before-other b a e (sym (same_bytes-eq a b q)))
    go false q = rw (before-not b a e)

-- ---- by std's order

pub first-decides : (x y : ℕ) (xs ys : List ℕ) → x < y → Less ≡ order_as (x ∷ xs) (y ∷ ys)
first-decides x y xs ys h = sym (is-before (x ∷ xs) (y ∷ ys) (before-less x y xs ys h))

pub second-decides : (x y : ℕ) (xs ys : List ℕ) → y < x → Greater ≡ order_as (x ∷ xs) (y ∷ ys)
second-decides x y xs ys h = sym (is-behind (x ∷ xs) (y ∷ ys) (before-less y x ys xs h))

pub same-next : (x y : ℕ) (xs ys : List ℕ) → x ≡ y → order_as (x ∷ xs) (y ∷ ys) ≡ order_as xs ys
unfolding order_as same_bytes before
same-next x y xs ys e = rw (eq-eqb x y e)

pub by_cmp : (xs ys : List ℕ) → slice_cmp nat_cmp xs ys ≡ order_as xs ys
unfolding order_as same_bytes before
by_cmp [] [] = refl
by_cmp [] (y ∷ ys) = refl
by_cmp (x ∷ xs) [] = refl
by_cmp (x ∷ xs) (y ∷ ys) = go (ltb x y) refl (eqb x y) refl (by_cmp xs ys)
  where
    go : (l : Bool) → ltb x y ≡ l → (e : Bool) → eqb x y ≡ e → slice_cmp nat_cmp xs ys ≡ order_as xs ys → ordering_then (cond l Less (cond e Equal Greater)) (slice_cmp nat_cmp xs ys) ≡ order_as (x ∷ xs) (y ∷ ys)
    go true h e k ih = first-decides x y xs ys (ltb-true x y h)
    go false h true k ih = ih ∙ sym (same-next x y xs ys (eqb-true x y k))
    go false h false k ih = second-decides x y xs ys (let l : y ≤ x = ltb-false x y h in let n : x ≡ y → ⊥ = eqb-false x y k in omega (arith, n))
