-- Exactly one item, by the reader's answer.
use Rattle.std.specs.Prelude.{Ok, Err}
use Prim.Native.Nat.{ℕ, ◌+◌, ◌-◌, ◌≤◌, ◌<◌}
use mathlib.Core.Path.{◌≡◌, refl, sym, ◌∙◌, ap, subst}
use mathlib.Core.Bool.{true}
use mathlib.Core.List.{List}
use native.Mathlib.Omega.{arith}
use lib.ListN.{length, drop, length-drop}
use lib.Seq.{take_all}
use lib.Dec.{leb}
use borrow.Author.Tests.{le-leb, lt-leb, leb-true}
use Rattle.iscc.specs.Answer.{Answer, accept, refuse}
use Rattle.iscc.specs.Refusals.{Refusal, bytes_left_over}
use Rattle.iscc.specs.Varnibble.{Parsed}
use Rattle.iscc.specs.Permitted.{permits, body_bytes}
use Rattle.iscc.proofs.Answer.{passed, answered, accept-inj}
use Rattle.iscc.specs.Item.{Item, read_item, read_one}
use Rattle.unit.specs.declared.reader.Unit as code
use Rattle.unit.specs.Representation.{UnitRead}
use Rattle.unit.specs.Representation.{unit_as, unit_read_as, one_read_as}
use Rattle.unit.proofs.Bounds.{ItemBounds, item-bounds, UnitIs, unit-is, unit-refused}

-- by the reader's answer r
module _ (bs : List ℕ) (r : UnitRead) (er : r ≡ unit_read_as (read_item bs)) where
  pub one-refused : (q : Refusal) → r ≡ Err q → Err q ≡ one_read_as bs (read_one bs)
  unfolding read_one
  one-refused q e = rw (unit-refused bs er q e)

  pub one-left-over : (u : code.Unit) → r ≡ Ok u → u.used < length bs → Err bytes_left_over ≡ one_read_as bs (read_one bs)
  unfolding read_one
  one-left-over u e l = let w : UnitIs bs u = unit-is bs er u e in rw (w.is, lt-leb (length bs) u.used l)

  pub one_unit : (u : code.Unit) → r ≡ Ok u → length bs ≤ u.used → Ok u ≡ one_read_as bs (read_one bs)
  unfolding read_one
  one_unit u e l = go (read_item bs) refl
    where
      go : (x : Answer (Parsed Item)) → read_item bs ≡ x → Ok u ≡ one_read_as bs (read_one bs)
      go (accept g) f =
          let s : unit_as g ≡ u = cc (ap unit_read_as f) in
          let n : g.used ≡ u.used = ap (λ (v : code.Unit). v.used) s in
          let b : ItemBounds bs g = item-bounds bs g f in
          let k : length bs ≤ g.used = omega arith in
          let m : g.used ≡ length bs = omega (arith, b.within) in
          rw (f, le-leb (length bs) g.used k, ← m) (ap Ok (sym s))
      go (refuse q) f = let z : ◌≡◌ {A = ℕ} 0 1 = cc (ap unit_read_as f) in absurd (omega arith)

-- the one item: a header of two bytes, then its body
pub record OneBounds (bs : List ℕ) (i : Item) : Type 0 where
  pub permitted : permits i.main_type i.subtype i.version i.length_number ≡ true
  pub size : length i.body ≡ body_bytes i.main_type i.subtype i.length_number
  pub whole : length bs ≡ 2 + length i.body
  pub most : length bs ≤ 42
  pub body : i.body ≡ drop 2 bs

pub one-bounds : (bs : List ℕ) (i : Item) → read_one bs ≡ accept i → OneBounds bs i
unfolding read_one
one-bounds bs i f =
    let a = answered (read_item bs) _ f in
    let p = passed (leb (length bs) a.0.used) _ (accept a.0.result) a.2 in
    let b : ItemBounds bs a.0 = item-bounds bs a.0 a.1 in
    let l : length bs ≤ a.0.used = leb-true (length bs) a.0.used p.0 in
    let n : length bs ≡ 2 + length a.0.result.body = omega (arith, b.within, b.front) in
    let k : length (drop 2 bs) ≤ length a.0.result.body = simp length-drop (omega arith) in
    subst (OneBounds bs) (accept-inj p.1)
    (record {
      permitted = b.permitted;
      size = b.size;
      whole = n;
      most = omega (arith, b.most, b.within);
      body = b.body ∙ take_all (length a.0.result.body) (drop 2 bs) k;
    })

-- the one item, by the code's unit: its body is all behind the header
pub record OneIs (bs : List ℕ) (u : code.Unit) : Type 0 where
  pub item : Item
  pub is : read_one bs ≡ accept item
  pub main_type : item.main_type ≡ u.main_type
  pub subtype : item.subtype ≡ u.subtype
  pub length_number : item.length_number ≡ u.length_number
  pub permitted : permits item.main_type item.subtype item.version item.length_number ≡ true
  pub body : item.body ≡ drop u.start bs
  pub start : u.start ≡ 2
  pub whole : length bs ≡ 2 + body_bytes item.main_type item.subtype item.length_number
  pub within : 2 ≤ length bs
  pub most : length bs ≤ 42

pub one-is : (bs : List ℕ) (u : code.Unit) → one_read_as bs (read_one bs) ≡ Ok u → OneIs bs u
unfolding read_one
one-is bs u e = go (read_one bs) refl
  where
    of : (i : Item) → read_one bs ≡ accept i → OneIs bs (unit_as (record { result = i; used = length bs }))
    of i f =
        let b : OneBounds bs i = one-bounds bs i f in
        let s : length bs - length i.body ≡ 2 = omega (arith, b.whole) in
        record {
          item = i;
          is = f;
          main_type = refl;
          subtype = refl;
          length_number = refl;
          permitted = b.permitted;
          body = rw s b.body;
          start = s;
          whole = rw (← b.size) b.whole;
          within = omega (arith, b.whole);
          most = b.most;
        }

    go : (x : Answer Item) → read_one bs ≡ x → OneIs bs u
    go (accept i) f = let s : unit_as (record { result = i; used = length bs }) ≡ u = cc (ap (one_read_as bs) f) in subst (OneIs bs) s (of i f)
    go (refuse q) f = let z : ◌≡◌ {A = ℕ} 0 1 = cc (ap (one_read_as bs) f) in absurd (omega arith)

pub one-not : (bs : List ℕ) (q : Refusal) → one_read_as bs (read_one bs) ≡ Err q → read_one bs ≡ refuse q
unfolding read_one
one-not bs q e = go (read_one bs) refl
  where
    go : (x : Answer Item) → read_one bs ≡ x → read_one bs ≡ refuse q
    go (accept i) f = let z : ◌≡◌ {A = ℕ} 0 1 = cc (ap (one_read_as bs) f) in absurd (omega arith)
    go (refuse p) f = let s : p ≡ q = cc (ap (one_read_as bs) f) in f ∙ ap refuse s
