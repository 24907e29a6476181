-- What the order of two byte strings says of them, by its answer.
use Prim.Native.Nat.{ℕ}
use mathlib.Core.Path.{◌≡◌, refl, sym, ◌∙◌, ap, ap₂}
use mathlib.Core.Bool.{Bool, true, false, cond, ◌&&◌, true≢false}
use mathlib.Core.List.{List, [], ◌∷◌, ◌++◌}
use native.Mathlib.Omega.{arith}
use lib.ListN.{length, take, drop, take-append-drop}
use lib.Seq.{length-take-le}
use lib.Dec.{eqb, ltb, leb}
use borrow.Author.Tests.{leb-true}
use Rattle.iscc.specs.Lists.{same_bytes}
use Rattle.iscc.proofs.Demand3.{same_bytes-refl}
use Rattle.octets.specs.Order.{before}
use Rattle.octets.specs.Representation.{order_as, front_as}
use Rattle.std.specs.declared.cmp.Ordering.{Ordering}
use Rattle.std.specs.declared.cmp.Ordering.TheVariants.{Less, Equal, Greater}
use Rattle.octets.proofs.Total.{Compared, lower, equal, higher, compared}
use Rattle.octets.proofs.Order.{is-before, is-behind}

module _ (a b : List ℕ) where
  pub order_same : order_as a b ≡ Equal → same_bytes a b ≡ true
  unfolding order_as
  order_same e = go (same_bytes a b) (before a b) e
    where
      go : (s l : Bool) → cond s Equal (cond l Less Greater) ≡ Equal → s ≡ true
      go true l w = refl
      go false true w = absurd cc
      go false false w = absurd cc

  pub order-before : order_as a b ≡ Less → (same_bytes a b ≡ false) × (before a b ≡ true)
  unfolding order_as
  order-before e = go (same_bytes a b) (before a b) e
    where
      go : (s l : Bool) → cond s Equal (cond l Less Greater) ≡ Less → (s ≡ false) × (l ≡ true)
      go true l w = absurd cc
      go false true w = (refl, refl)
      go false false w = absurd cc

  pub order-behind : order_as a b ≡ Greater → (same_bytes a b ≡ false) × (before a b ≡ false)
  unfolding order_as
  order-behind e = go (same_bytes a b) (before a b) e
    where
      go : (s l : Bool) → cond s Equal (cond l Less Greater) ≡ Greater → (s ≡ false) × (l ≡ false)
      go true l w = absurd cc
      go false true w = absurd cc
      go false false w = (refl, refl)

-- ---- what is settled by the first four bytes

before-front : (xs ys r s : List ℕ) → length xs ≡ length ys → before xs ys ≡ true → before (xs ++ r) (ys ++ s) ≡ true
unfolding before
before-front [] [] r s l e = absurd (true≢false (sym e))
before-front [] (y ∷ ys) r s l e = absurd (omega (arith, l))
before-front (x ∷ xs) [] r s l e = absurd (omega (arith, l))
before-front (x ∷ xs) (y ∷ ys) r s l e = go (eqb x y) e (before-front xs ys r s (omega (arith, l)))
  where
    go : (b : Bool) → cond b (before xs ys) (ltb x y) ≡ true → (before xs ys ≡ true → before (xs ++ r) (ys ++ s) ≡ true) → cond b (before (xs ++ r) (ys ++ s)) (ltb x y) ≡ true
    go true w ih = ih w
    go false w ih = w

module _ (a b : List ℕ) where
  -- both have four bytes, and their order is told
  front-known : (o : Ordering) → (Equal ≡ o → ⊥) → front_as a b ≡ o → (length (take 4 a) ≡ length (take 4 b)) × (order_as (take 4 a) (take 4 b) ≡ o)
  unfolding front_as
  front-known o n e = go (leb 4 (length a)) refl (leb 4 (length b)) refl e
    where
      go : (s : Bool) → leb 4 (length a) ≡ s → (t : Bool) → leb 4 (length b) ≡ t → cond (s && t) (order_as (take 4 a) (take 4 b)) Equal ≡ o
          → (length (take 4 a) ≡ length (take 4 b)) × (order_as (take 4 a) (take 4 b) ≡ o)
      go true f true g w = (length-take-le 4 a (leb-true 4 (length a) f) ∙ sym (length-take-le 4 b (leb-true 4 (length b) g)), w)
      go true f false g w = absurd (n w)
      go false f t g w = absurd (n w)

  whole : (x y : List ℕ) → before (take 4 x ++ drop 4 x) (take 4 y ++ drop 4 y) ≡ true → before x y ≡ true
  whole x y w = ap₂ before (sym (take-append-drop 4 x)) (sym (take-append-drop 4 y)) ∙ w

  pub front-before : front_as a b ≡ Less → order_as a b ≡ Less
  front-before e =
      let k = front-known Less (λ w. cc) e in
      is-before a b (whole a b (before-front (take 4 a) (take 4 b) (drop 4 a) (drop 4 b) k.0 (order-before (take 4 a) (take 4 b) k.1).1))

  pub front-behind : front_as a b ≡ Greater → order_as a b ≡ Greater
  front-behind e =
      let k = front-known Greater (λ w. cc) e in
      is-behind a b (whole b a (before-front (take 4 b) (take 4 a) (drop 4 b) (drop 4 a) (sym k.0) (later (take 4 a) (take 4 b) k.1)))
    where
      later : (x y : List ℕ) → order_as x y ≡ Greater → before y x ≡ true
      later x y f = go (compared x y)
        where
          go : Compared x y → before y x ≡ true
          go (lower d) = absurd (true≢false (sym d ∙ (order-behind x y f).1))
          go (equal d) = absurd (true≢false (sym (same_bytes-refl x) ∙ ap (same_bytes x) d ∙ (order-behind x y f).0))
          go (higher d) = d
