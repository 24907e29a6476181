-- The composite that a list makes, from the numbers of its summary.
use Prim.Native.Nat.{ℕ, ◌+◌, ◌≤◌, ◌<◌}
use mathlib.Core.Path.{◌≡◌, refl, sym, ◌∙◌, ap, ap₂, subst, subst⁻¹}
use mathlib.Core.Bool.{Bool, true, false, cond, ◌||◌, false≢true}
use mathlib.Core.Option as parts
use mathlib.Core.Option.{none, some}
use Rattle.std.specs.Prelude.{Option, Some, None, is_some, unwrap_or}
use mathlib.Core.List.{List, [], ◌∷◌, ◌++◌}
use native.Mathlib.Omega.{arith}
use lib.ListN.{length, take, drop, get_or, replicate, get_or-append}
use lib.Seq.{get_or-take}
use Rattle.std.proofs.lemmas.List.{get_or_default}
use lib.Dec.{lit<}
use borrow.Author.Tests.{eqb-true}
use Rattle.iscc.specs.Lists.{All, every, pairwise}
use Rattle.iscc.specs.Permitted.{Set, set_of, set_length_number, unit_types, unit_count}
use Rattle.iscc.specs.declared.main_type.Name.TheVariants.{Meta, Semantic, Content, Id}
use Rattle.iscc.specs.Meaning.{Meaning, Sized, Permitted, PermittedComposite}
use Rattle.iscc.specs.Item.{Item}
use Rattle.iscc.specs.Items.{has_subtype, shared_subtype, body_in, subtype_in, is_in, bytes_in, has, set_in, bodies_in, subtype_of}
use Rattle.tables.specs.Representation.{unit_set_as}
use Rattle.iscc.specs.declared.main_type.MainType.{MainType}
use Rattle.tables.specs.declared.UnitSet.{UnitSet}
use Rattle.iscc.proofs.Booleans.{both_true}
use Rattle.iscc.proofs.Lists.{all-at, map_at}
use Rattle.iscc.proofs.Permitted.{set_back, count_most, types-count, types-all}
use Rattle.iscc.proofs.Items.{CompositeParts, composite_from-parts}
use Rattle.iscc.proofs.Split.{Bears, subtype-there}
use Rattle.units.specs.declared.summary.Summary.{Summary}
use Rattle.units.specs.Summary.{BodyAt, first_subtype, offset_in, has_offset}
use Rattle.units.proofs.Snoc.{first_subtype-there}
use Rattle.units.proofs.Added.{seen}
use Rattle.composite.specs.Bodies.{parts, filled_bodies, composite_as, Makes, type_at, body_offset, set_of_offsets, summary_subtype}
use Rattle.composite.specs.Code.{InComposite}
use Rattle.composite.proofs.Parts.{filled-same}

pub count-is : (u : UnitSet) (n : ℕ) → u ≡ unit_set_as (set_of n) → u.count ≡ unit_count (set_of n)
unfolding unit_set_as
count-is u n e = ap (λ (x : UnitSet). x.count) e

-- ---- the subtype

-- items that share their subtype have that of the first
bears-like : (x : Item) → has_subtype x ≡ true → (is : List Item) → every (shared_subtype x) is ≡ true → All (Bears x.subtype) is
unfolding every
bears-like x hx [] e = tt
bears-like x hx (i ∷ is) e =
    let w = both_true (shared_subtype x i) (every (shared_subtype x) is) e in
    ((λ hi. sym (eqb-true x.subtype i.subtype (rw (hx, hi) at w.0))), bears-like x hx is w.1)

bears-first : (is : List Item) → pairwise shared_subtype is ≡ true → All (Bears (unwrap_or (first_subtype is) 0)) is
unfolding pairwise first_subtype
bears-first [] e = tt
bears-first (i ∷ is) e = let w = both_true (every (shared_subtype i) is) (pairwise shared_subtype is) e in go (has_subtype i) refl w.0 (bears-first is w.1)
  where
    go : (b : Bool) → has_subtype i ≡ b → every (shared_subtype i) is ≡ true → All (Bears (unwrap_or (first_subtype is) 0)) is → All (Bears (unwrap_or (cond b (Some i.subtype) (first_subtype is)) 0)) (i ∷ is)
    go true h e r = ((λ _. refl), bears-like i h is e)
    go false h e r = ((λ z. absurd (false≢true (sym h ∙ z))), r)

subtype-of : (is : List Item) → pairwise shared_subtype is ≡ true → subtype_of is ≡ unwrap_or (first_subtype is) (cond (has Meta is) 6 5)
unfolding subtype_of
subtype-of is e =
    go (first_subtype is) (has Semantic is) (has Content is) (first_subtype-there is)
    (subtype-there _ Semantic is refl (bears-first is e)) (subtype-there _ Content is refl (bears-first is e))
  where
    go : (o : Option ℕ) (b c : Bool) → is_some o ≡ b || c → (b ≡ true → subtype_in Semantic is ≡ unwrap_or o 0) → (c ≡ true → subtype_in Content is ≡ unwrap_or o 0)
        → cond b (subtype_in Semantic is) (cond c (subtype_in Content is) (cond (has Meta is) 6 5)) ≡ unwrap_or o (cond (has Meta is) 6 5)
    go (Some s) true c q f g = f refl
    go (Some s) false true q f g = g refl
    go (Some s) false false q f g = absurd (false≢true (sym q))
    go None true c q f g = absurd (false≢true q)
    go None false true q f g = absurd (false≢true q)
    go None false false q f g = refl

-- ---- the bodies

-- a body of eight bytes that is there stands at its offset
body-found : (bs : List ℕ) (o : parts.Option (List ℕ)) (at : Option ℕ) → is_in o ≡ true → length (bytes_in o) ≡ 8 → BodyAt bs o at
    → (unwrap_or at 0 + 8 ≤ length bs) × (take 8 (drop (unwrap_or at 0) bs) ≡ bytes_in o)
body-found bs none at h e p = absurd (false≢true h)
body-found bs (some body) at h e (k, q, (z, w, t)) =
    rw q (omega arith, ap (λ (n : ℕ). take n (drop k bs)) (sym e) ∙ t)

-- the table's units are the set's
pub unit-at : (u : Set) (i : ℕ) → i < unit_count u → type_at (unit_set_as u).units i ≡ (get_or (unit_types u) i Id)
unfolding unit_set_as
unit-at u i h =
    let n : length (unit_types u) ≡ unit_count u = types-count u in
    get_or-take 5 (unit_types u ++ replicate 5 Id) i _ (omega (arith, count_most u))
    ∙ get_or-append (unit_types u) (replicate 5 Id) _ i (omega arith)
    ∙ get_or_default (unit_types u) i _ Id (omega arith)

-- a unit's body is there
abbrev There : List ℕ → List (Option ℕ) → MainType → Type 0
There bs offsets m = unwrap_or (offset_in offsets m) 0 + 8 ≤ length bs

-- ---- from the summary

module _ (bs : List ℕ) (l : Summary) (m : Meaning) (k : Makes bs l m) where
  abbrev is : List Item
  is = k.items

  abbrev of : CompositeParts is m
  of = composite_from-parts is m k.composes

  abbrev set : Set
  set = set_in is

  abbrev bodies : List (List ℕ)
  bodies = bodies_in (unit_types set) is

  pub permitted-parts : PermittedComposite (subtype_of is) 0 set bodies
  permitted-parts = subst Permitted (sym of.meaning) k.permitted

  has-it : (t : MainType) → has_offset l.offsets t ≡ has t is
  has-it t = seen bs is l k.summary t

  set_at : set_of_offsets l.offsets ≡ set
  set_at = rw (has-it Meta, has-it Semantic, has-it Content)

  units-are : unit_set_as (set_of (set_length_number (set_of_offsets l.offsets))) ≡ unit_set_as set
  units-are = ap (λ (s : Set). unit_set_as (set_of (set_length_number s))) set_at ∙ ap unit_set_as (set_back set)

  abbrev InList : MainType → Type 0
  InList t = InComposite t × (has t is ≡ true)

  in_list : All InList (unit_types set)
  in_list =
      types-all InList set (λ h. (lit< tt, h)) (λ h. (lit< tt, h)) (λ h. (lit< tt, h)) (lit< tt, of.data_in) (lit< tt, of.instance_in)

  -- the i-th unit's body stands at the offset of its main type
  module _ (i : ℕ) (h : i < unit_count set) where
    abbrev type : MainType
    type = get_or (unit_types set) i Id

    pub type-in : InList type
    type-in = all-at InList (unit_types set) i Id in_list (omega (arith, types-count set))

    pub body_at : (unwrap_or (offset_in l.offsets type) 0 + 8 ≤ length bs) × (take 8 (drop (unwrap_or (offset_in l.offsets type) 0) bs) ≡ get_or bodies i [])
    body_at =
        let b : get_or bodies i [] ≡ bytes_in (body_in type is) = map_at (λ t. bytes_in (body_in t is)) (unit_types set) i Id [] (omega (arith, types-count set)) in
        let z : length (get_or bodies i []) ≡ 8 = (all-at (Sized 8) bodies i [] permitted-parts.sized (omega (arith, permitted-parts.count))).0 in
        let w = body-found bs (body_in type is) (offset_in l.offsets type) type-in.1 (ap length (sym b) ∙ z) (k.summary.offsets type) in
        (w.0, w.1 ∙ sym b)

  pub summary-subtype : summary_subtype l ≡ subtype_of is
  unfolding summary_subtype
  summary-subtype =
      ap₂ unwrap_or k.summary.subtype (ap (λ (b : Bool). cond b 6 5) (has-it Meta)) ∙ sym (subtype-of is of.shared)

  -- what `bodies_at` asks, and what it makes
  module _ (u : UnitSet) (e : u ≡ unit_set_as (set_of (set_length_number (set_of_offsets l.offsets)))) where
    set_is : u ≡ unit_set_as set
    set_is = e ∙ units-are

    count-there : u.count ≡ unit_count set
    unfolding unit_set_as
    count-there = ap (λ (x : UnitSet). x.count) set_is

    unit-there : (i : ℕ) (h : i < unit_count set) → type_at u.units i ≡ (type i h)
    unit-there i h = ap (λ (x : UnitSet). type_at x.units i) set_is ∙ unit-at set i h

    pub units-there : (i : ℕ) → i < u.count → There bs l.offsets (type_at u.units i)
    units-there i h =
        let g : i < unit_count set = omega (arith, count-there) in
        subst⁻¹ (There bs l.offsets) (unit-there i g) (body_at i g).0

    pub summary-composite : (r : List (List ℕ)) → r ≡ filled_bodies (λ i. take 8 (drop (body_offset l.offsets u.units i) bs)) u.count 5
        → parts (set_length_number (set_of_offsets l.offsets)) (summary_subtype l) r ≡ composite_as m
    unfolding composite_as
    summary-composite r q =
        let w : r ≡ filled_bodies (λ i. get_or bodies i []) (unit_count set) 5 =
        q ∙ ap (λ (n : ℕ). filled_bodies (λ i. take 8 (drop (body_offset l.offsets u.units i) bs)) n 5) count-there
        ∙ filled-same _ _ (unit_count set) 5 (λ i h. ap (λ (x : MainType). take 8 (drop (unwrap_or (offset_in l.offsets x) 0) bs)) (unit-there i h) ∙ (body_at i h).1) in
        ap (λ (n : ℕ). parts n (summary_subtype l) r) (ap set_length_number set_at) ∙ rw (summary-subtype, w) (ap composite_as of.meaning)
