-- What callers of the reader may count on: the definitions' item behind a unit that was read, and its bounds.
use Rattle.std.specs.Prelude.{Ok, Err}
use Prim.Native.Nat.{ℕ, ◌+◌, ◌-◌, ◌≤◌}
use mathlib.Core.Path.{◌≡◌, refl, ◌∙◌, ap, subst}
use mathlib.Core.Bool.{true}
use mathlib.Core.List.{List}
use native.Mathlib.Omega.{arith}
use lib.ListN.{length, take, drop}
use Rattle.iscc.specs.Answer.{Answer, accept, refuse}
use Rattle.iscc.specs.Refusals.{Refusal}
use Rattle.iscc.specs.Varnibble.{Parsed}
use Rattle.iscc.specs.Header.{Header}
use Rattle.iscc.specs.Permitted.{MainType, permits, body_bytes}
use Rattle.iscc.specs.Item.{Item, read_item}
use Rattle.iscc.proofs.Permitted.{number_small, Small, small, body-most}
use Rattle.iscc.proofs.Item.{Behind, parsed_item, behind-header}
use Rattle.header.proofs.Bounds.{header-bounds}
use Rattle.unit.specs.declared.reader.Unit as code
use Rattle.unit.specs.Representation.{UnitRead}
use Rattle.unit.specs.Representation.{unit_as, unit_read_as}

-- an item that was read: a header of two bytes, then its body
pub record ItemBounds (bs : List ℕ) (g : Parsed Item) : Type 0 where
  pub permitted : permits g.result.main_type g.result.subtype g.result.version g.result.length_number ≡ true
  pub size : length g.result.body ≡ body_bytes g.result.main_type g.result.subtype g.result.length_number
  pub front : g.used ≡ 2 + length g.result.body
  pub within : g.used ≤ length bs
  pub most : g.used ≤ 42
  pub body : g.result.body ≡ take (length g.result.body) (drop 2 bs)

bounds-behind : (bs : List ℕ) (h : Parsed Header) (m : MainType) → Behind bs h m → ItemBounds bs (parsed_item bs h m)
bounds-behind bs h m b =
    let s : Small h.result.subtype h.result.version h.result.length_number = small m h.result.subtype h.result.version h.result.length_number b.permitted in
    let two : h.used ≡ 2 = (header-bounds bs h b.read).short (omega (arith, number_small m, b.main_type)) (omega arith) (omega arith) (omega arith) in
    let n : ℕ = body_bytes m h.result.subtype h.result.length_number in
    let len : length (take n (drop h.used bs)) ≡ n = b.sized in
    let short : n ≤ 40 = body-most m h.result.subtype h.result.version h.result.length_number b.permitted in
    record { permitted = b.permitted; size = len; front = omega arith; within = b.within; most = omega arith; body = rw (len, two) }

pub item-bounds : (bs : List ℕ) (g : Parsed Item) → read_item bs ≡ accept g → ItemBounds bs g
item-bounds bs = behind-header bs (ItemBounds bs) (bounds-behind bs)

-- the definitions' item behind a unit in the code
abbrev pub item_from : List ℕ → code.Unit → Item
item_from bs u =
    record {
      main_type = u.main_type;
      subtype = u.subtype;
      version = u.version;
      length_number = u.length_number;
      body = take (u.used - u.start) (drop u.start bs);
    }

pub record UnitIs (bs : List ℕ) (u : code.Unit) : Type 0 where
  pub is : read_item bs ≡ accept (record { result = item_from bs u; used = u.used })
  pub permitted : permits u.main_type u.subtype u.version u.length_number ≡ true
  pub start : u.start ≡ 2
  pub size : u.used ≡ u.start + body_bytes u.main_type u.subtype u.length_number
  pub within : u.used ≤ length bs
  pub most : u.used ≤ 42

unit-behind : (bs : List ℕ) (g : Parsed Item) → read_item bs ≡ accept g → UnitIs bs (unit_as g)
unit-behind bs g e =
    let b : ItemBounds bs g = item-bounds bs g e in
    let n : ℕ = length g.result.body in
    let s : g.used - n ≡ 2 = omega (arith, b.front) in
    let k : g.used - 2 ≡ n = omega (arith, b.front) in
    record {
      is = rw (s, k, ← b.body) e;
      permitted = b.permitted;
      start = s;
      size = rw (← b.size) (omega (arith, b.front));
      within = b.within;
      most = b.most;
    }

-- by the reader's answer r
module _ (bs : List ℕ) {r : UnitRead} (er : r ≡ unit_read_as (read_item bs)) where
  pub unit-is : (u : code.Unit) → r ≡ Ok u → UnitIs bs u
  unit-is u e = go (read_item bs) refl
    where
      go : (x : Answer (Parsed Item)) → read_item bs ≡ x → UnitIs bs u
      go (accept g) f =
          let s : unit_as g ≡ u = cc (ap unit_read_as f) in
          subst (UnitIs bs) s (unit-behind bs g f)
      go (refuse q) f = let z : ◌≡◌ {A = ℕ} 0 1 = cc (ap unit_read_as f) in absurd (omega arith)

  pub unit-refused : (q : Refusal) → r ≡ Err q → read_item bs ≡ refuse q
  unit-refused q e = go (read_item bs) refl
    where
      go : (x : Answer (Parsed Item)) → read_item bs ≡ x → read_item bs ≡ refuse q
      go (accept g) f = let z : ◌≡◌ {A = ℕ} 0 1 = cc (ap unit_read_as f) in absurd (omega arith)
      go (refuse p) f = let s : p ≡ q = cc (ap unit_read_as f) in f ∙ ap refuse s
