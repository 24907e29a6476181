-- A composite split into its units, and joined again.
use Prim.Native.Nat.{ℕ, ◌≤◌}
use mathlib.Core.Path.{◌≡◌, refl, sym, ◌∙◌, ap, ap₂, subst}
use mathlib.Core.Bool.{Bool, true, false, cond, not, ◌&&◌, ◌||◌, or-true}
use mathlib.Core.Option.{some}
use mathlib.Core.List.{List, [], ◌∷◌, map, zip_with, map-id, append-nil}
use native.Mathlib.Nat.{le_refl}
use native.Mathlib.Omega.{arith}
use lib.ListN.{length, length-map}
use lib.Seq.{take_all}
use lib.Dec.{eqb, leb}
use borrow.Author.Tests.{le-leb, leb-true, eq-eqb, not-true}
use Rattle.iscc.specs.Answer.{accept, refuse}
use Rattle.iscc.specs.Refusals.{not_64_bits, lacks_data_or_instance}
use Rattle.iscc.specs.Digits.{Below}
use Rattle.iscc.specs.Lists.{All, every, pairwise}
use Rattle.iscc.specs.Permitted.{MainType, number, Set, unit_types, unit_count, is_wide, row, body_bytes}
use Rattle.iscc.specs.declared.main_type.Name.TheVariants.{Meta, Semantic, Content, Data, Instance}
use Rattle.iscc.specs.Meaning.{Meaning, composite, wide, Sized, Permitted}
use Rattle.iscc.specs.Item.{Item, item_bytes, read_item, read_one, item_of}
use Rattle.iscc.specs.Items.{read_items, same_type, joinable, is_64_bits, other_type, takes_subtype, has_subtype, shared_subtype, body_in, subtype_in, is_in, has, set_in, bodies_in, subtype_of, composite_from, joined_meaning, joined_bytes, unit128, unit_with, units_of, items_bytes, split_bytes}
use Rattle.iscc.specs.Demands.{JoinBack}
use Rattle.iscc.proofs.Answer.{passed, answered, accept-inj, never}
use Rattle.iscc.proofs.Booleans.{both_true}
use Rattle.iscc.proofs.Lists.{every-all, pairwise_map, all-imp, all-zip, map-zip-left, map-zip-right}
use Rattle.iscc.proofs.Permitted.{subtype-low, subtype-fixed, types-count, types-all, among, types-set, types-whole}
use Rattle.iscc.proofs.Item.{PermittedItem, read-item, ReadItem, item-read}
use Rattle.iscc.proofs.Meaning.{meaning-back, item-permitted}
use Rattle.iscc.proofs.Items.{AllPermitted, two-or-more, read-items, items-read, found_in, composite_from-permitted}
use Rattle.iscc.proofs.Order.{eqb_comm}

-- ---- exactly one item reads back

pub read_one-is : (i : Item) → PermittedItem i → read_one (item_bytes i) ≡ accept i
unfolding read_one
read_one-is i p =
    let e : read_item (item_bytes i) ≡ accept (record { result = i; used = length (item_bytes i) }) = ap read_item (sym (append-nil (item_bytes i))) ∙ read-item i [] p in
    rw (e, le-leb (length (item_bytes i)) (length (item_bytes i)) (le_refl (length (item_bytes i))))

-- ---- units by their main types and bodies

-- a main type stands in a list of items if it is among theirs
has-among : (m : MainType) (is : List Item) → has m is ≡ among m (map (λ i. i.main_type) is)
unfolding body_in every
has-among m [] = refl
has-among m (i ∷ is) = go (same_type m i.main_type) (has-among m is)
  where
    go : (b : Bool) → has m is ≡ among m (map (λ i. i.main_type) is)
        → is_in (cond b (some i.body) (body_in m is)) ≡ not (not b && every (λ k. not (same_type m k)) (map (λ i. i.main_type) is))
    go true ih = refl
    go false ih = ih

-- with no main type twice, the bodies of the items' main types are the items' bodies
bodies-behind : (i : Item) (is js : List Item) → every (other_type i) js ≡ true → bodies_in (map (λ j. j.main_type) js) (i ∷ is) ≡ bodies_in (map (λ j. j.main_type) js) is
unfolding body_in every
bodies-behind i is [] e = refl
bodies-behind i is (j ∷ js) e =
    let w = both_true (other_type i j) (every (other_type i) js) e in
    let n : same_type j.main_type i.main_type ≡ false = eqb_comm (number j.main_type) (number i.main_type) ∙ not-true (same_type i.main_type j.main_type) w.0 in
    rw (n, bodies-behind i is js w.1)

bodies-back : (is : List Item) → pairwise other_type is ≡ true → bodies_in (map (λ i. i.main_type) is) is ≡ map (λ i. i.body) is
unfolding body_in pairwise
bodies-back [] e = refl
bodies-back (i ∷ is) e =
    let w = both_true (every (other_type i) is) (pairwise other_type is) e in
    let b : bodies_in (map (λ j. j.main_type) is) (i ∷ is) ≡ map (λ j. j.body) is = bodies-behind i is is w.0 ∙ bodies-back is w.1 in
    let h : same_type i.main_type i.main_type ≡ true = eq-eqb (number i.main_type) _ refl in
    ap₂ (λ (x : List ℕ) (xs : List (List ℕ)). x ∷ xs) (rw h) b

-- a unit that goes with the subtype s
abbrev pub Bears : ℕ → Item → Type 0
Bears s i = has_subtype i ≡ true → i.subtype ≡ s

bears-all : (s : ℕ) (is : List Item) → All (Bears s) is → pairwise shared_subtype is ≡ true
unfolding pairwise
bears-all s [] a = refl
bears-all s (i ∷ is) a = rw (every-all (shared_subtype i) is (one is a.1), bears-all s is a.1)
  where
    pair : (j : Item) (b c : Bool) → (b ≡ true → i.subtype ≡ s) → (c ≡ true → j.subtype ≡ s) → not (b && c) || eqb i.subtype j.subtype ≡ true
    pair j true true f g = eq-eqb i.subtype j.subtype (f refl ∙ sym (g refl))
    pair j true false f g = refl
    pair j false c f g = refl

    one : (js : List Item) → All (Bears s) js → All (λ j. shared_subtype i j ≡ true) js
    one [] b = tt
    one (j ∷ js) b = (pair j (has_subtype i) (has_subtype j) a.0 b.0, one js b.1)

pub subtype-there : (s : ℕ) (m : MainType) (is : List Item) → takes_subtype m ≡ true → All (Bears s) is → has m is ≡ true → subtype_in m is ≡ s
subtype-there s m is t a h = let r = found_in (Bears s) m is a h in r.subtype ∙ r.holds (ap takes_subtype (sym r.named) ∙ t)

-- ---- the units of a permitted composite

module _ (s v : ℕ) (u : Set) (bodies : List (List ℕ)) (p : Permitted (composite s v u bodies)) where
  abbrev pub units : List Item
  units = zip_with (unit_with s) (unit_types u) bodies

  same_count : length (unit_types u) ≡ length bodies
  same_count = types-count u ∙ sym p.count

  pub units-types : map (λ i. i.main_type) units ≡ unit_types u
  units-types = map-zip-left (unit_with s) (λ i. i.main_type) (λ m. m) (λ m b. refl) (unit_types u) bodies same_count ∙ map-id (unit_types u)

  pub units-count : length units ≡ unit_count u
  units-count = sym (length-map units (λ i. i.main_type)) ∙ ap length units-types ∙ types-count u

  pub units-subtypes : map (λ i. i.subtype) units ≡ map (λ m. cond (takes_subtype m) s 0) (unit_types u)
  units-subtypes = map-zip-left (unit_with s) (λ i. i.subtype) (λ m. cond (takes_subtype m) s 0) (λ m b. refl) (unit_types u) bodies same_count

  pub units-bodies : map (λ i. i.body) units ≡ bodies
  units-bodies = map-zip-right (unit_with s) (λ i. i.body) (λ b. b) (λ m b. refl) (unit_types u) bodies same_count ∙ map-id bodies

  -- each is permitted, and passes the tests of a list
  record Part (i : Item) : Type 0 where
    pub permitted : PermittedItem i
    pub joins : joinable i ≡ true
    pub has_64_bits : is_64_bits i ≡ true
    pub bears : Bears s i

  abbrev IsPart : MainType → Type 0
  IsPart m = (body : List ℕ) → Sized 8 body → Part (unit_with s m body)

  part : (m : MainType) → joinable (unit_with s m []) ≡ true → body_bytes m (cond (takes_subtype m) s 0) 1 ≡ 8 → row m (cond (takes_subtype m) s 0) 1 ≡ true → IsPart m
  part m j n r body z =
      record { permitted = record { header = r; body = (z.0 ∙ sym n, z.1) }; joins = j; has_64_bits = eq-eqb (length body) 8 z.0; bears = λ h. rw h }

  low : (u.semantic || u.content) ≡ true → leb s 4 && leb 1 7 ≡ true
  low h = rw (le-leb s 4 (subtype-low s u p.subtype h))

  units-parts : All Part units
  unfolding row body_bytes
  units-parts =
      all-zip (unit_with s) IsPart (Sized 8) Part (λ m body f. f body) (unit_types u) bodies
      (types-all IsPart u (λ h. part Meta refl refl refl) (λ h. part Semantic refl refl (low (rw h))) (λ h. part Content refl refl (low (rw h (or-true u.semantic))))
      (part Data refl refl refl) (part Instance refl refl refl))
      p.sized

  pub units-permitted : AllPermitted units
  units-permitted = all-imp Part (λ i k. k.permitted) units units-parts

  -- joined again, they make the composite
  bears : All (Bears s) units
  bears = all-imp Part (λ i k. k.bears) units units-parts

  whole : (among Data (unit_types u) && among Instance (unit_types u) ≡ true) × (pairwise (λ m k. not (same_type m k)) (unit_types u) ≡ true)
  whole = both_true (among Data (unit_types u) && among Instance (unit_types u)) _ (types-whole u)

  others : pairwise other_type units ≡ true
  others = sym (pairwise_map (λ i. i.main_type) (λ m k. not (same_type m k)) units) ∙ ap (pairwise (λ m k. not (same_type m k))) units-types ∙ whole.1

  in-set : (m : MainType) → has m units ≡ among m (unit_types u)
  in-set m = has-among m units ∙ ap (among m) units-types

  set_is : set_in units ≡ u
  set_is = rw (in-set Meta, in-set Semantic, in-set Content) (types-set u)

  subtype-is : subtype_of units ≡ s
  unfolding subtype_of
  subtype-is = go (has Semantic units) (has Content units) (subtype-there s Semantic units refl bears) (subtype-there s Content units refl bears)
      (λ h. subtype-fixed s u p.subtype (ap (λ (x : Set). x.semantic || x.content) (sym set_is) ∙ h) ∙ ap (λ (x : Set). cond x.meta 6 5) (sym set_is))
    where
      go : (b c : Bool) → (b ≡ true → subtype_in Semantic units ≡ s) → (c ≡ true → subtype_in Content units ≡ s) → ((b || c) ≡ false → s ≡ cond (has Meta units) 6 5)
          → cond b (subtype_in Semantic units) (cond c (subtype_in Content units) (cond (has Meta units) 6 5)) ≡ s
      go true c f g h = f refl
      go false true f g h = g refl
      go false false f g h = sym (h refl)

  units-make : composite_from units ≡ accept (composite s 0 u bodies)
  unfolding composite_from
  units-make =
      let d : has Data units && has Instance units ≡ true = rw (in-set Data, in-set Instance) whole.0 in
      let b : bodies_in (unit_types (set_in units)) units ≡ bodies =
      ap (λ (ms : List MainType). bodies_in ms units) (ap unit_types set_is ∙ sym units-types) ∙ bodies-back units others ∙ units-bodies in
      let j : every joinable units ≡ true = every-all joinable units (all-imp Part (λ i k. k.joins) units units-parts) in
      let e : every is_64_bits units ≡ true = every-all is_64_bits units (all-imp Part (λ i k. k.has_64_bits) units units-parts) in
      rw (j, e, others, d, bears-all s units bears, subtype-is, b, set_is)

-- ---- the laws of split

read_all : (is : List Item) → 2 ≤ length is → AllPermitted is → read_items (items_bytes is) ≡ accept is
read_all is h p = two-or-more (λ is. AllPermitted is → read_items (items_bytes is) ≡ accept is) (λ i j is. read-items i (j ∷ is)) is h p

pub joined-two : (is : List Item) → 2 ≤ length is → joined_meaning is ≡ composite_from is
unfolding joined_meaning
joined-two = two-or-more (λ is. joined_meaning is ≡ composite_from is) (λ i j is. refl)

-- A permitted composite's bytes: split writes its units, in the composite's own order; they are read one by one as they went
-- in; and joined they are the composite's bytes again.
module _ (s v : ℕ) (u : Set) (bodies : List (List ℕ)) (p : Permitted (composite s v u bodies)) where
  abbrev us : List Item
  us = units s v u bodies p

  pub split_parts : split_bytes (item_bytes (item_of (composite s v u bodies))) ≡ accept (items_bytes us)
  unfolding split_bytes units_of
  split_parts = rw (read_one-is (item_of (composite s v u bodies)) (item-permitted (composite s v u bodies) p), meaning-back (composite s v u bodies) p)

  two-units : 2 ≤ length us
  two-units = omega (arith, units-count s v u bodies p)

  pub split-read : read_items (items_bytes us) ≡ accept us
  split-read = read_all us two-units (units-permitted s v u bodies p)

  pub split-joined : joined_bytes (items_bytes us) ≡ accept (item_bytes (item_of (composite s v u bodies)))
  unfolding joined_bytes
  split-joined = rw (split-read, joined-two us two-units, units-make s v u bodies p, p.version)

-- A permitted wide composite's bytes: split writes two units of 128 bits, which are read one by one as they went in, and are 11
-- for join.
module _ (s v : ℕ) (da ins : List ℕ) (p : Permitted (wide s v da ins)) where
  abbrev pub two_units : List Item
  two_units = unit128 Data da ∷ unit128 Instance ins ∷ []

  pub wide-item : is_wide s 0 ≡ true
  unfolding is_wide
  wide-item = rw p.subtype

  pub wide-parts : split_bytes (item_bytes (item_of (wide s v da ins))) ≡ accept (items_bytes two_units)
  unfolding split_bytes units_of
  wide-parts = rw (read_one-is (item_of (wide s v da ins)) (item-permitted (wide s v da ins) p), meaning-back (wide s v da ins) p)

  both-permitted : AllPermitted two_units
  unfolding row body_bytes
  both-permitted = (record { header = refl; body = p.data_sized }, (record { header = refl; body = p.instance_sized }, tt))

  pub wide_read : read_items (items_bytes two_units) ≡ accept two_units
  wide_read = read-items (unit128 Data da) (unit128 Instance ins ∷ []) both-permitted

  pub wide-joined : joined_bytes (items_bytes two_units) ≡ refuse not_64_bits
  unfolding joined_bytes joined_meaning composite_from every
  wide-joined = rw (wide_read, p.data_sized.0)

-- ---- what exactly-one and join accept

pub one-read : (bs : List ℕ) (i : Item) → Below 256 bs → read_one bs ≡ accept i → PermittedItem i × (item_bytes i ≡ bs)
unfolding read_one
one-read bs i k e =
    let r = answered (read_item bs) _ e in
    let p = passed (leb (length bs) r.0.used) _ (accept r.0.result) r.2 in
    let g : ReadItem bs r.0 = item-read bs r.0 k r.1 in
    subst (λ (j : Item). PermittedItem j × (item_bytes j ≡ bs)) (accept-inj p.1)
    (g.permitted, g.again ∙ take_all r.0.used bs (leb-true (length bs) r.0.used p.0))

joined-permitted : (is : List Item) (m : Meaning) → AllPermitted is → joined_meaning is ≡ accept m → Permitted m
unfolding joined_meaning
joined-permitted [] m p e = absurd (never e)
joined-permitted (i ∷ []) m p e = absurd (never (passed (joinable i) _ (refuse lacks_data_or_instance) e).1)
joined-permitted (i ∷ j ∷ is) m p e = composite_from-permitted (i ∷ j ∷ is) m p e

pub join-makes : (bs out : List ℕ) → Below 256 bs → joined_bytes bs ≡ accept out → JoinBack bs out
unfolding joined_bytes
join-makes bs out k e =
    let r = answered (read_items bs) _ e in
    let q = answered (joined_meaning r.0) (λ m. accept (item_bytes (item_of m))) r.2 in
    let p : Permitted q.0 = joined-permitted r.0 q.0 (items-read bs r.0 k r.1).permitted q.1 in
    subst (JoinBack bs) (accept-inj q.2)
    (record { items = r.0; from = r.1; meaning = q.0; joins = q.1; permitted = p; read = read_one-is (item_of q.0) (item-permitted q.0 p); bytes = refl })
