-- A composite as its units.
use Prim.Native.Nat.{ℕ, ◌+◌, ◌-◌, ◌*◌, ◌≤◌, ◌<◌}
use mathlib.Core.Path.{◌≡◌, refl, sym, ◌∙◌, ap, ap₂, subst, subst⁻¹}
use mathlib.Core.Bool.{Bool, true, false, cond, false≢true, or-true}
use mathlib.Core.List.{List, [], ◌∷◌, ◌++◌, map, flatten, append-nil}
use native.Mathlib.Omega.{arith}
use lib.ListN.{length, take, drop, get_or, length-drop, length-map, drop_of_length-le}
use lib.Seq.{take_all, drop-drop}
use lib.Dec.{lit<}
use borrow.Author.Tests.{le-leb}
use Rattle.iscc.specs.Refusals.{Refusal, not_permitted}
use Rattle.iscc.specs.Answer.{accept, refuse, ◌>>=◌, area_after}
use Rattle.iscc.specs.Digits.{Below}
use Rattle.iscc.specs.Permitted.{MainType, is_unit, Set, set_of, set_length_number, unit_types, unit_count, composite_subtype, is_wide, row, permits, body_bytes}
use Rattle.iscc.specs.declared.main_type.Name.TheVariants.{Meta, Semantic, Content, Data, Instance, Iscc, Id}
use Rattle.iscc.specs.Meaning.{composite, Permitted}
use Rattle.iscc.specs.Item.{Item, item_bytes, read_one, write_unit, composite_of, wide_of, meaning_as, meaning_of}
use Rattle.iscc.specs.Lists.{All}
use Rattle.iscc.specs.Items.{takes_subtype, unit64, unit_with, units_of, items_bytes, split_bytes}
use Rattle.tables.specs.Representation.{unit_set_as}
use Rattle.tables.specs.declared.UnitSet.{UnitSet}
use Rattle.iscc.proofs.Lists.{all-at, map_at, zip-at}
use Rattle.iscc.proofs.Cut.{cut_at}
use Rattle.iscc.proofs.Permitted.{unit-or-composite, set_length_number-back, set_back, count_most, small, subtype-low, types-count, types-all}
use Rattle.iscc.proofs.Item.{PermittedItem}
use Rattle.iscc.proofs.Split.{units, units-count, one-read}
use Rattle.iscc.proofs.Meaning.{unit-means, meant-item}
use Rattle.unit.specs.Representation.{header_with}
use Rattle.unit.specs.declared.reader.Unit.{Unit}
use Rattle.unit.proofs.ExactlyOne.{OneIs}
use Rattle.composite.specs.Bodies.{Parts, Sound, parts, filled_bodies, laid, composite_as, type_at}
use Rattle.composite.specs.Code.{InComposite, unit_of, unit_at, split_into}
use Rattle.iscc.proofs.Parts.{rest-is}
use Rattle.composite.proofs.Parts.{laid-length, laid_same, laid-flat, filled_at, filled-same}
use Rattle.composite.proofs.FromSummary.{unit-at}
use Rattle.composite.specs.Wide.{wide_units}
use Rattle.composite.proofs.OneUnit.{unit_size, unit-over}
use Rattle.composite.proofs.Bytes.{sound-of}

-- ---- one unit of 64 bits

-- the table's row of a unit that a composite has
pub record UnitRow (m : MainType) (s : ℕ) : Type 0 where
  pub single : is_unit m ≡ true
  pub permitted : permits m (cond (takes_subtype m) s 0) 0 1 ≡ true
  pub eight : body_bytes m (cond (takes_subtype m) s 0) 1 ≡ 8

unit-there : (s : ℕ) (m : MainType) → InComposite m → (takes_subtype m ≡ true → s ≤ 4) → UnitRow m s
unfolding row body_bytes
unit-there s Meta h f = record { single = refl; permitted = refl; eight = refl }
unit-there s Semantic h f = record { single = refl; permitted = rw (le-leb s 4 (f refl)); eight = refl }
unit-there s Content h f = record { single = refl; permitted = rw (le-leb s 4 (f refl)); eight = refl }
unit-there s Data h f = record { single = refl; permitted = refl; eight = refl }
unit-there s Instance h f = record { single = refl; permitted = refl; eight = refl }
unit-there s Iscc h f = absurd (omega arith)
unit-there s Id h f = absurd (omega arith)

module _ (m : MainType) (s : ℕ) (body d : List ℕ) (h : InComposite m) (f : takes_subtype m ≡ true → s ≤ 4) (l : length body ≡ 8) where
  abbrev own : ℕ
  own = cond (takes_subtype m) s 0

  abbrev there : UnitRow m s
  there = unit-there s m h f

  sized : length body ≡ body_bytes m own 1
  sized = l ∙ sym there.eight

  pub unit-length : length (item_bytes (unit_of m s body)) ≡ 10
  unit-length = unit_size (unit_of m s body) there.single there.permitted sized ∙ omega (arith, l)

  -- what the unit writer leaves of a part that holds the unit
  pub unit-written : 10 ≤ length d → area_after (write_unit (header_with m own 0 1) body (length d)) d ≡ item_bytes (unit_of m s body) ++ drop 10 d
  unit-written g =
      unit-over (unit_of m s body) there.single there.permitted sized d (omega (arith, l))
      ∙ ap (λ (k : ℕ). item_bytes (unit_of m s body) ++ drop k d) unit-length

-- a unit is put at an offset of an area
pub unit-put : (m : MainType) (s k : ℕ) (body out e : List ℕ) (offset : ℕ) → k ≡ cond (takes_subtype m) s 0 → InComposite m → (takes_subtype m ≡ true → s ≤ 4) → length body ≡ 8
    → offset + 10 ≤ length out
    → e ≡ area_after (write_unit (header_with m k 0 1) body (length (take (length out - offset) (drop offset out)))) (take (length out - offset) (drop offset out))
    → take offset out ++ (e ++ drop (length out - offset) (drop offset out)) ≡ take offset out ++ (item_bytes (unit_of m s body) ++ drop (offset + 10) out)
unit-put m s k body out e offset ek h f l g ee =
    let d : List ℕ = drop offset out in
    let u : List ℕ = item_bytes (unit_of m s body) in
    let n : length d ≡ length out - offset = length-drop offset out in
    let e' : e ≡ u ++ drop 10 d =
    ee ∙ ap (λ (x : List ℕ). area_after (write_unit (header_with m k 0 1) body (length x)) x) (rest-is out offset)
    ∙ ap (λ (x : ℕ). area_after (write_unit (header_with m x 0 1) body (length d)) d) ek
    ∙ unit-written m s body d h f l (omega arith) in
    let z : drop (length out - offset) d ≡ [] = drop_of_length-le d {i = length out - offset} (omega arith) in
    ap₂ (λ (x y : List ℕ). take offset out ++ (x ++ y)) e' z ∙ ap (λ (x : List ℕ). take offset out ++ x) (append-nil (u ++ drop 10 d) ∙ ap (λ (x : List ℕ). u ++ x) (drop-drop 10 offset out))

-- ---- the units of a sound composite

-- the bytes of the i-th, by a set's main types, the composite's subtype and its bodies
abbrev pub unit_in : List MainType → ℕ → List (List ℕ) → ℕ → List ℕ
unit_in units s bodies i = item_bytes (unit_of (type_at units i) s (get_or bodies i []))

abbrev Fits : ℕ → MainType → Type 0
Fits s m = InComposite m × (takes_subtype m ≡ true → s ≤ 4)

no : (s : ℕ) → false ≡ true → s ≤ 4
no s e = absurd (false≢true e)

all-ok : (s : ℕ) (u : Set) → composite_subtype (set_length_number u) s ≡ true → All (λ t. Fits s t) (unit_types u)
all-ok s u e =
    types-all (λ t. Fits s t) u (λ h. (lit< tt, no s)) (λ h. (lit< tt, λ _. subtype-low s u e (rw h)))
    (λ h. (lit< tt, λ _. subtype-low s u e (rw h (or-true u.semantic)))) (lit< tt, no s) (lit< tt, no s)

module _ (c : Parts) (ok : Sound c) where
  abbrev set : Set
  set = set_of c.length_number

  unit_ok : (i : ℕ) → i < unit_count set → Fits c.subtype (type_at (unit_set_as set).units i)
  unit_ok i h =
      subst⁻¹ (Fits c.subtype) (unit-at set i h)
      (all-at (λ t. Fits c.subtype t) (unit_types set) i Id
      (all-ok c.subtype set (ap (λ (l : ℕ). composite_subtype l c.subtype) (set_length_number-back c.length_number ok.number) ∙ ok.subtype)) (omega (arith, types-count set)))

  pub unit-long : (i : ℕ) → i < unit_count set → length (item_bytes (unit_at c i)) ≡ 10
  unfolding unit_at
  unit-long i h =
      let m : unit_count set ≤ 5 = count_most set in
      let k = unit_ok i h in
      unit-length (type_at (unit_set_as set).units i) c.subtype (get_or c.bodies i []) [] k.0 k.1 (ok.bodies i (omega arith))

  pub split-length : length (split_into c) ≡ unit_count set * 10
  unfolding split_into
  split-length = laid-length (λ i. item_bytes (unit_at c i)) 10 (unit_count set) unit-long

  -- with the table's set and the bodies in the code's hands
  module _ (u : UnitSet) (eu : u ≡ unit_set_as set) (rs : List (List ℕ)) (er : rs ≡ c.bodies) where
    count_of : u.count ≡ unit_count set
    unfolding unit_set_as
    count_of = ap (λ (x : UnitSet). x.count) eu

    pub code_ok : (i : ℕ) → i < u.count → Fits c.subtype (type_at u.units i)
    code_ok i h = subst⁻¹ (λ (x : UnitSet). Fits c.subtype (type_at x.units i)) eu (unit_ok i (omega (arith, count_of)))

    pub same-unit : (i : ℕ) → unit_in u.units c.subtype rs i ≡ item_bytes (unit_at c i)
    unfolding unit_at
    same-unit i =
        ap (λ (x : UnitSet). unit_in x.units c.subtype rs i) eu
        ∙ ap (λ (x : List (List ℕ)). unit_in (unit_set_as set).units c.subtype x i) er

    pub code-long : (i : ℕ) → i < u.count → length (unit_in u.units c.subtype rs i) ≡ 10
    code-long i h = ap length (same-unit i) ∙ unit-long i (omega (arith, count_of))

    pub code-units : (d area : List ℕ) → area ≡ laid (unit_in u.units c.subtype rs) u.count ++ drop (u.count * 10) d
        → area ≡ laid (λ i. item_bytes (unit_at c i)) u.count ++ drop (u.count * 10) d
    code-units d area e = e ∙ ap (λ (x : List ℕ). x ++ drop (u.count * 10) d) (laid_same _ _ same-unit u.count)

    pub split-size : length (split_into c) ≡ u.count * 10
    split-size = split-length ∙ ap (λ (k : ℕ). k * 10) (sym count_of)

    pub split-area : (d area : List ℕ) → area ≡ laid (λ i. item_bytes (unit_at c i)) u.count ++ drop (u.count * 10) d → area ≡ area_after (accept (split_into c)) d
    unfolding split_into
    split-area d area e =
        e ∙ ap (λ (k : ℕ). laid (λ i. item_bytes (unit_at c i)) k ++ drop (k * 10) d) count_of
        ∙ ap (λ (k : ℕ). laid (λ i. item_bytes (unit_at c i)) (unit_count set) ++ drop k d) (sym (laid-length (λ i. item_bytes (unit_at c i)) 10 (unit_count set) unit-long))

-- ---- of a composite c whose fields are v

module _ (v c : Parts) (q : v ≡ c) (ok : Sound v) (u : UnitSet) where
  module _ (eu : u ≡ unit_set_as (set_of v.length_number)) where
    set-same : u ≡ unit_set_as (set_of c.length_number)
    set-same = eu ∙ ap (λ (p : Parts). unit_set_as (set_of p.length_number)) q

    pub units_size : length (split_into c) ≡ u.count * 10
    units_size = split-size c (subst Sound q ok) u set-same c.bodies refl

    pub units_area : (d area : List ℕ) → area ≡ laid (λ i. item_bytes (unit_at c i)) u.count ++ drop (u.count * 10) d → area ≡ area_after (accept (split_into c)) d
    units_area = split-area c (subst Sound q ok) u set-same c.bodies refl

  module _ (eu : u ≡ unit_set_as (set_of c.length_number)) where
    set-back : u ≡ unit_set_as (set_of v.length_number)
    set-back = eu ∙ ap (λ (p : Parts). unit_set_as (set_of p.length_number)) (sym q)

    pub put_ok : (i : ℕ) → i < u.count → Fits v.subtype (type_at u.units i)
    put_ok = code_ok v ok u set-back v.bodies refl

    pub put-long : (i : ℕ) → i < u.count → length (unit_in u.units v.subtype v.bodies i) ≡ 10
    put-long = code-long v ok u set-back v.bodies refl

    pub put-units : (d area : List ℕ) → area ≡ laid (unit_in u.units v.subtype v.bodies) u.count ++ drop (u.count * 10) d
        → area ≡ laid (λ i. item_bytes (unit_at c i)) u.count ++ drop (u.count * 10) d
    put-units d area e =
        subst (λ (p : Parts). area ≡ laid (λ i. item_bytes (unit_at p i)) u.count ++ drop (u.count * 10) d) q (code-units v ok u set-back v.bodies refl d area e)

-- ---- a composite's bytes as its units

items-flat : (is : List Item) → flatten (map item_bytes is) ≡ items_bytes is
unfolding items_bytes flatten
items-flat [] = refl
items-flat (i ∷ is) = rw (items-flat is)

module _ (s v : ℕ) (u : Set) (bodies : List (List ℕ)) (p : Permitted (composite s v u bodies)) where
  abbrev us : List Item
  us = units s v u bodies p

  us-count : length us ≡ unit_count u
  us-count = units-count s v u bodies p

  unit-is : (i : ℕ) → i < unit_count u → unit_at (composite_as (composite s v u bodies)) i ≡ get_or us i (unit64 Id 0 [])
  unfolding unit_at composite_as
  unit-is i h =
      let n : type_at (unit_set_as (set_of (set_length_number u))).units i ≡ (get_or (unit_types u) i Id) = rw (set_back u) (unit-at u i h) in
      let r : get_or (filled_bodies (λ j. get_or bodies j []) (unit_count u) 5) i [] ≡ get_or bodies i [] = filled_at (λ j. get_or bodies j []) (unit_count u) 5 i h (omega (arith, count_most u)) in
      rw (n, r) (sym (zip-at (unit_with s) (unit_types u) bodies i Id [] _ (omega (arith, types-count u)) (omega (arith, p.count))))

  abbrev value : Parts
  value = composite_as (composite s v u bodies)

  bytes-is : (i : ℕ) → i < length (map item_bytes us) → item_bytes (unit_at value i) ≡ get_or (map item_bytes us) i []
  bytes-is i h =
      let l : i < length us = omega (arith, length-map us item_bytes) in
      ap item_bytes (unit-is i (omega (arith, us-count))) ∙ sym (map_at item_bytes us i (unit64 Id 0 []) [] l)

  split-laid : items_bytes us ≡ split_into value
  unfolding split_into composite_as
  split-laid =
      let n : length (map item_bytes us) ≡ unit_count (set_of (set_length_number u)) = length-map us item_bytes ∙ us-count ∙ ap unit_count (sym (set_back u)) in
      sym (items-flat us) ∙ sym (laid-flat (λ i. item_bytes (unit_at value i)) (map item_bytes us) bytes-is) ∙ ap (laid (λ i. item_bytes (unit_at value i))) n

-- the bodies behind a composite's header
bodies-in : (s v : ℕ) (u : Set) (bs : List ℕ) → composite_as (composite_of s v u bs) ≡ parts (set_length_number u) s (filled_bodies (λ i. take 8 (drop (i * 8) bs)) (unit_count u) 5)
unfolding composite_as composite_of
bodies-in s v u bs = ap (parts (set_length_number u) s) (filled-same _ _ (unit_count u) 5 (λ i h. cut_at 8 (unit_count u) bs i h))

-- ---- split

other-type : (s v l : ℕ) (body : List ℕ) (m : MainType) → (m ≡ Iscc → ⊥) → units_of (meaning_as m s v l body) ≡ refuse not_permitted
unfolding units_of
other-type s v l body =
    unit-or-composite (λ m. (m ≡ Iscc → ⊥) → units_of (meaning_as m s v l body) ≡ refuse not_permitted)
    (λ m u _. rw (unit-means m s v l body u)) (λ f. absurd (f refl))

-- the composite of an item's numbers and its body, by value; and the units that it is split into
abbrev item_value : ℕ → ℕ → List ℕ → Parts
item_value s l body = parts l s (filled_bodies (λ i. take 8 (drop (i * 8) body)) (unit_count (set_of l)) 5)

module _ (s v l : ℕ) (body : List ℕ) (n : is_wide s l ≡ false) (p : PermittedItem (record { main_type = Iscc; subtype = s; version = v; length_number = l; body = body })) where
  abbrev item : Item
  item = record { main_type = Iscc; subtype = s; version = v; length_number = l; body = body }

  small-number : l ≤ 7
  small-number = (small Iscc s v l p.header).length_number

  as-value : composite_as (composite_of s v (set_of l) body) ≡ item_value s l body
  as-value =
      bodies-in s v (set_of l) body
      ∙ ap (λ (n : ℕ). parts n s (filled_bodies (λ i. take 8 (drop (i * 8) body)) (unit_count (set_of l)) 5)) (set_length_number-back l small-number)

  means-bodies : meaning_of item ≡ composite_of s v (set_of l) body
  unfolding meaning_as
  means-bodies = rw n

  bodies-permitted : Permitted (composite_of s v (set_of l) body)
  bodies-permitted = subst Permitted means-bodies (meant-item item p)

  pub value-sound : Sound (item_value s l body)
  unfolding composite_of
  value-sound = subst Sound as-value (sound-of s v (set_of l) _ bodies-permitted)

  units-laid : (units_of (meaning_of item) >>= λ is. accept (items_bytes is)) ≡ accept (split_into (composite_as (composite_of s v (set_of l) body)))
  unfolding composite_of units_of
  units-laid = rw means-bodies (ap accept (split-laid s v (set_of l) _ bodies-permitted))

  pub value-units : (units_of (meaning_of item) >>= λ is. accept (items_bytes is)) ≡ accept (split_into (item_value s l body))
  value-units = units-laid ∙ ap (λ (c : Parts). accept (split_into c)) as-value

-- a wide composite's body, and the units that it is split into
wide-units : (s v l : ℕ) (body bs : List ℕ) → is_wide s l ≡ true → body ≡ drop 2 bs → length bs ≡ 34
    → (units_of (meaning_as Iscc s v l body) >>= λ is. accept (items_bytes is)) ≡ accept (wide_units bs)
unfolding meaning_as wide_of units_of items_bytes wide_units
wide-units s v l body bs w e z =
    let n : length (drop 18 bs) ≤ 16 = omega (arith, length-drop 18 bs) in
    let d : drop 16 (drop 2 bs) ≡ take 16 (drop 18 bs) = drop-drop 16 2 bs ∙ sym (take_all 16 (drop 18 bs) n) in
    rw (w, e, d, append-nil)

pub split-unread : (bs : List ℕ) (q : Refusal) → read_one bs ≡ refuse q → split_bytes bs ≡ refuse q
unfolding split_bytes
split-unread bs q e = rw e

as-composite : (i : Item) (s l : ℕ) → i.main_type ≡ Iscc → i.subtype ≡ s → i.length_number ≡ l → i ≡ record { main_type = Iscc; subtype = s; version = i.version; length_number = l; body = i.body }
as-composite i s l a b c = rw (← a, ← b, ← c)

module _ (bs : List ℕ) (u : Unit) (w : OneIs bs u) where
  pub split-other : (u.main_type ≡ Iscc → ⊥) → split_bytes bs ≡ refuse not_permitted
  unfolding split_bytes
  split-other f =
      let i : Item = w.item in
      rw w.is (rw (other-type i.subtype i.version i.length_number i.body i.main_type (λ e. f (sym w.main_type ∙ e))))

  module _ (composed : u.main_type ≡ Iscc) where
    type-is : w.item.main_type ≡ Iscc
    type-is = w.main_type ∙ composed

    whole-size : length bs ≡ 2 + cond (is_wide u.subtype u.length_number) 32 (unit_count (set_of u.length_number) * 8)
    unfolding body_bytes
    whole-size = rw (type-is, w.subtype, w.length_number) at w.whole

    body_is : w.item.body ≡ drop 2 bs
    body_is = w.body ∙ ap (λ (k : ℕ). drop k bs) w.start

    abbrev whole : Item
    whole = record { main_type = Iscc; subtype = u.subtype; version = w.item.version; length_number = u.length_number; body = w.item.body }

    whole_is : w.item ≡ whole
    whole_is = as-composite w.item u.subtype u.length_number type-is w.subtype w.length_number

    -- a wide one
    module _ {t : Bool} (e : t ≡ is_wide u.subtype u.length_number) (y : t ≡ true) where
      pub wide_room : length bs ≡ 34
      wide_room = rw (← e, y) at whole-size

      pub wide-whole : split_bytes bs ≡ accept (wide_units bs)
      unfolding split_bytes
      wide-whole =
          rw w.is (ap (λ (i : Item). units_of (meaning_of i) >>= λ is. accept (items_bytes is)) whole_is)
          ∙ wide-units u.subtype w.item.version u.length_number w.item.body bs (sym e ∙ y) body_is wide_room

    abbrev split_value : Parts
    split_value = parts u.length_number u.subtype (filled_bodies (λ i. take 8 (drop (2 + i * 8) bs)) (unit_count (set_of u.length_number)) 5)

    same-value : item_value u.subtype u.length_number w.item.body ≡ split_value
    same-value =
        ap (parts u.length_number u.subtype)
        (filled-same _ _ (unit_count (set_of u.length_number)) 5 (λ i h. ap (take 8) (ap (drop (i * 8)) body_is ∙ drop-drop (i * 8) 2 bs)))

    -- one of 64 bits a unit
    module _ {t : Bool} (q : t ≡ is_wide u.subtype u.length_number) (x : t ≡ false) where
      pub code-room : 2 + unit_count (set_of u.length_number) * 8 ≤ length bs
      code-room = omega (arith, rw (← q, x) at whole-size)

    module _ {t : Bool} (q : t ≡ is_wide u.subtype u.length_number) (x : t ≡ false) (k : Below 256 bs) where
      permitted-is : PermittedItem whole
      permitted-is = subst PermittedItem whole_is (one-read bs w.item k w.is).0

      pub split-sound : (c : Parts) → c ≡ split_value → Sound c
      split-sound c e = subst⁻¹ Sound (e ∙ sym same-value) (value-sound u.subtype w.item.version u.length_number w.item.body (sym q ∙ x) permitted-is)

      pub split-whole : (c : Parts) → c ≡ split_value → split_bytes bs ≡ accept (split_into c)
      unfolding split_bytes
      split-whole c e =
          rw w.is (ap (λ (i : Item). units_of (meaning_of i) >>= λ is. accept (items_bytes is)) whole_is)
          ∙ value-units u.subtype w.item.version u.length_number w.item.body (sym q ∙ x) permitted-is
          ∙ ap (λ (x : Parts). accept (split_into x)) (same-value ∙ sym e)
