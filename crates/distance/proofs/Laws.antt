-- The distance by the units that were read.
use Prim.Native.Nat.{ℕ, ◌-◌, ◌≤◌}
use mathlib.Core.Path.{◌≡◌, refl, sym, ◌∙◌, ap, subst}
use mathlib.Core.Bool.{Bool, true, false, not}
use mathlib.Core.Logic.{inl, inr}
use mathlib.Core.List.{List}
use native.Mathlib.Omega.{arith}
use lib.Dec.{lit≤}
use lib.ListN.{length, take, drop, length-drop}
use borrow.Author.Tests.{not-true, not-false}
use Rattle.std.specs.Prelude.{Result, Ok, Err}
use Rattle.iscc.specs.Refusals.{Refusal, no_distance}
use Rattle.iscc.specs.Answer.{Answer, accept, refuse}
use Rattle.iscc.specs.Item.{read_one}
use Rattle.iscc.specs.Distance.{comparable, distance, distance_answer}
use Rattle.iscc.specs.Distance as definition
use Rattle.iscc.proofs.Parts.{rest-is}
use Rattle.iscc.proofs.Distance.{Bounded, bounded}
use Rattle.iscc.proofs.Demands.{demand2}
use Rattle.unit.specs.Representation.{one_read_as}
use Rattle.unit.specs.declared.reader.Unit.{Unit}
use Rattle.unit.specs.Representation.{UnitRead}
use Rattle.unit.proofs.ExactlyOne.{OneIs, one-is, one-not}
use Rattle.distance.specs.declared.answer.Distance.{Distance}
use Rattle.distance.specs.declared.answer.Measured.{Measured}
use Rattle.distance.specs.Representation.{distance_as, measured_as, result_as, measured_from, body_distance, Holds, comparable_as, Exact}

-- ---- two units that were read

module _ (a b : List ℕ) (u v : Unit) (ha : Holds a u) (hb : Holds b v) where
  agree : comparable_as u v ≡ comparable (one-is a u ha).item (one-is b v hb).item
  unfolding comparable
  agree =
      let x : OneIs a u = one-is a u ha in
      let y : OneIs b v = one-is b v hb in
      rw (x.main_type, y.main_type, x.subtype, y.subtype)

  pub not-comparable : (r : Bool) → r ≡ comparable_as u v → not r ≡ true → Err no_distance ≡ result_as (distance a b)
  unfolding distance result_as
  not-comparable r e n =
      let x : OneIs a u = one-is a u ha in
      let y : OneIs b v = one-is b v hb in
      let k : comparable x.item y.item ≡ false = sym agree ∙ sym e ∙ not-true r n in
      rw (x.is, y.is, k)

  pub measured : (r : Bool) (m : Distance) → r ≡ comparable_as u v → not r ≡ false
      → m ≡ distance_as (body_distance (take (length a - u.start) (drop u.start a)) (take (length b - v.start) (drop v.start b))) → Ok m ≡ result_as (distance a b)
  unfolding distance result_as
  measured r m e n f =
      let x : OneIs a u = one-is a u ha in
      let y : OneIs b v = one-is b v hb in
      let k : comparable x.item y.item ≡ true = sym agree ∙ sym e ∙ not-false r n in
      rw (f, x.is, y.is, k, x.body, y.body, rest-is a u.start, rest-is b v.start)

pub starts : (a : List ℕ) (u : Unit) → Holds a u → u.start ≤ length a
starts a u h = let x : OneIs a u = one-is a u h in omega (arith, x.start, x.within)

pub body-short : (a : List ℕ) (u : Unit) → Holds a u → length (take (length a - u.start) (drop u.start a)) ≤ 40
body-short a u h = let x : OneIs a u = one-is a u h in rw (rest-is a u.start) (simp length-drop (omega (arith, x.start, x.most)))

-- ---- by the reader's answers

pub second-refused : (a b : List ℕ) (u : Unit) (r : UnitRead) (q : Refusal) → Holds a u → r ≡ one_read_as b (read_one b) → r ≡ Err q
    → Err q ≡ result_as (distance a b)
unfolding distance result_as
second-refused a b u r q h e f =
    let x : OneIs a u = one-is a u h in
    rw (x.is, one-not b q (sym e ∙ f))

pub second-read : (b : List ℕ) (r : UnitRead) (v : Unit) → r ≡ one_read_as b (read_one b) → r ≡ Ok v → Holds b v
second-read b r v e f = sym e ∙ f

pub first-refused : (a b : List ℕ) (r : UnitRead) (q : Refusal) → r ≡ one_read_as a (read_one a) → r ≡ Err q → Err q ≡ result_as (distance a b)
unfolding distance result_as
first-refused a b r q e f = rw (one-not a q (sym e ∙ f))

-- ---- what holds of every answer

-- the one struct from what was found inside
told : (x : Answer definition.Distance) → measured_from (result_as x) ≡ measured_as x
unfolding result_as measured_as distance_answer
told (accept r) = refl
told (refuse q) = refl

pub answered : (a b : List ℕ) (r : Result Distance Refusal) (m : Measured) → r ≡ result_as (distance a b) → m ≡ measured_from r → m ≡ measured_as (distance a b)
answered a b r m e f = f ∙ ap measured_from e ∙ told (distance a b)

pub bounds : (a b : List ℕ) (m : Measured) → m ≡ measured_as (distance a b) → (m.distance.d ≤ m.distance.n) × (m.distance.n ≤ 256)
unfolding measured_as distance_answer
bounds a b m e = subst (λ (k : Measured). (k.distance.d ≤ k.distance.n) × (k.distance.n ≤ 256)) (sym e) (go (distance a b) refl)
  where
    go : (x : Answer definition.Distance) → distance a b ≡ x → ((measured_as x).distance.d ≤ (measured_as x).distance.n) × ((measured_as x).distance.n ≤ 256)
    go (accept r) f = let w : Bounded r = bounded a b r f in (w.apart, w.most)
    go (refuse q) f = (lit≤ tt, lit≤ tt)

pub exact : (a b : List ℕ) (m : Measured) → m ≡ measured_as (distance a b) → Exact m.distance
unfolding measured_as distance_answer
exact a b m e = subst (λ (k : Measured). Exact k.distance) (sym e) (go (distance a b) refl)
  where
    go : (x : Answer definition.Distance) → distance a b ≡ x → Exact (measured_as x).distance
    go (accept r) f n = let w : Bounded r = bounded a b r f in rw w.ratio (demand2.distance_exact r.n n r.d w.apart)
    go (refuse q) f (inl n) = absurd (omega (arith, n))
    go (refuse q) f (inr (inl n)) = absurd (omega (arith, n))
    go (refuse q) f (inr (inr (inl n))) = absurd (omega (arith, n))
    go (refuse q) f (inr (inr (inr n))) = absurd (omega (arith, n))
