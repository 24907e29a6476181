-- Items laid end to end, and the composite that a list makes.
use Prim.Native.Nat.{ℕ, zero, suc, ◌≤◌, ◌<◌}
use mathlib.Core.Path.{◌≡◌, refl, sym, ◌∙◌, ap, subst}
use mathlib.Core.Bool.{Bool, true, false, cond, ◌&&◌, ◌||◌, false≢true}
use mathlib.Core.Option.{Option, some}
use mathlib.Core.List.{List, [], ◌∷◌, ◌++◌, append-nil}
use native.Mathlib.Nat.{not-suc-le-zero, le_of_suc-le-suc}
use native.Mathlib.Omega.{arith}
use lib.ListN.{length, drop, length-append, length-map, take-append-drop}
use lib.Seq.{drop-append_seam, take_all}
use lib.Dec.{eqb, leb, lit≤}
use borrow.Author.Tests.{le-leb, lt-leb, leb-true, eqb-true, eq-eqb}
use Rattle.iscc.specs.Answer.{Answer, accept, ◌>>=◌}
use Rattle.iscc.specs.Digits.{Below}
use Rattle.iscc.specs.Varnibble.{Parsed}
use Rattle.iscc.specs.Permitted.{MainType, number, main_type_of, Set, set_length_number, unit_types, composite_subtype, row}
use Rattle.iscc.specs.declared.main_type.Name.TheVariants.{Meta, Semantic, Content, Data, Instance}
use Rattle.iscc.specs.Meaning.{Meaning, composite, Sized, Permitted}
use Rattle.iscc.specs.Item.{Item, item_bytes, read_item, meaning_of}
use Rattle.iscc.specs.Lists.{All, every, pairwise}
use Rattle.iscc.specs.Items.{read_up_to, read_items, same_type, joinable, is_64_bits, other_type, shared_subtype, body_in, subtype_in, is_in, bytes_in, has, set_in, bodies_in, subtype_of, composite_from, meaning_of_items, items_bytes}
use Rattle.iscc.proofs.Answer.{passed, answered, never, accept-inj}
use Rattle.iscc.proofs.Booleans.{both_true}
use Rattle.iscc.proofs.Digits.{below-drop}
use Rattle.iscc.proofs.Lists.{all_map, all_both}
use Rattle.iscc.proofs.Permitted.{main_type_of-number, types-count, types-all, subtype-by-set}
use Rattle.iscc.proofs.Item.{PermittedItem, read-item, ReadItem, item-read, length-item}
use Rattle.iscc.proofs.Meaning.{meant-item}

abbrev pub AllPermitted : List Item → Type 0
AllPermitted is = All PermittedItem is

-- ---- what is read is permitted, and laid end to end again it is the same bytes

pub record ReadAll (bs : List ℕ) (is : List Item) : Type 0 where
  pub permitted : AllPermitted is
  pub again : items_bytes is ≡ bs

module _ (bs : List ℕ) (g : Parsed Item) (rest : Answer (List Item)) (is : List Item) where
  one_more : ReadItem bs g → ((js : List Item) → rest ≡ accept js → ReadAll (drop g.used bs) js)
      → (b : Bool) → leb (length bs) g.used ≡ b → cond b (accept (g.result ∷ [])) (rest >>= λ js. accept (g.result ∷ js)) ≡ accept is → ReadAll bs is
  unfolding items_bytes
  one_more r ih true t q =
      subst (ReadAll bs) (accept-inj q)
      (record {
        permitted = (r.permitted, tt);
        again = append-nil (item_bytes g.result) ∙ r.again ∙ take_all g.used bs (leb-true (length bs) g.used t);
      })
  one_more r ih false t q =
      let w = answered rest (λ js. accept (g.result ∷ js)) q in
      let z = ih w.0 w.1 in
      subst (ReadAll bs) (accept-inj w.2)
      (record {
        permitted = (r.permitted, z.permitted);
        again = rw (r.again, z.again) (take-append-drop g.used bs);
      })

up_to : (n : ℕ) (bs : List ℕ) (is : List Item) → Below 256 bs → read_up_to n bs ≡ accept is → ReadAll bs is
unfolding read_up_to
up_to zero bs is k e = absurd (never e)
up_to (suc n) bs is k e =
    let r = answered (read_item bs) _ e in
    one_more bs r.0 (read_up_to n (drop r.0.used bs)) is (item-read bs r.0 k r.1)
    (λ js. up_to n (drop r.0.used bs) js (below-drop 256 r.0.used bs k)) (leb (length bs) r.0.used) refl r.2

pub items-read : (bs : List ℕ) (is : List Item) → Below 256 bs → read_items bs ≡ accept is → ReadAll bs is
unfolding read_items
items-read bs is k e = up_to (suc (length bs)) bs is k e

-- what holds of every two items with more behind them holds of a list of two or more
pub two-or-more : (P : List Item → Type 0) → ((i j : Item) (is : List Item) → P (i ∷ j ∷ is)) → (is : List Item) → 2 ≤ length is → P is
two-or-more P f [] h = absurd (omega (arith, h))
two-or-more P f (i ∷ []) h = absurd (omega (arith, h))
two-or-more P f (i ∷ j ∷ is) h = f i j is

-- ---- what a list makes is permitted

pub same_type-eq : (a b : MainType) → same_type a b ≡ true → a ≡ b
same_type-eq a b e =
    let n : number a ≡ number b = eqb-true (number a) (number b) e in
    let x : main_type_of (number a) ≡ accept a = main_type_of-number a in
    let y : main_type_of (number b) ≡ accept b = main_type_of-number b in
    cc

-- the first unit of a main type in a list, by its body and subtype: what holds of each item holds of it
pub record Found (P : Item → Type 0) (m : MainType) (o : Option (List ℕ)) (s : ℕ) : Type 0 where
  pub item : Item
  pub holds : P item
  pub named : m ≡ item.main_type
  pub body : bytes_in o ≡ item.body
  pub subtype : s ≡ item.subtype

pub found_in : (P : Item → Type 0) (m : MainType) (is : List Item) → All P is → has m is ≡ true → Found P m (body_in m is) (subtype_in m is)
unfolding body_in subtype_in
found_in P m [] a h = absurd (false≢true h)
found_in P m (i ∷ is) a h = go (same_type m i.main_type) refl (found_in P m is a.1) h
  where
    go : (b : Bool) → same_type m i.main_type ≡ b → (has m is ≡ true → Found P m (body_in m is) (subtype_in m is))
        → is_in (cond b (some i.body) (body_in m is)) ≡ true → Found P m (cond b (some i.body) (body_in m is)) (cond b i.subtype (subtype_in m is))
    go true e f h = record { item = i; holds = a.0; named = same_type-eq m i.main_type e; body = refl; subtype = refl }
    go false e f h = f h

-- its body is of eight bytes, and a SEMANTIC's or CONTENT's subtype is 0 to 4
sized-in : (m : MainType) (is : List Item) → AllPermitted is → every is_64_bits is ≡ true → has m is ≡ true → Sized 8 (bytes_in (body_in m is))
sized-in m is p e h =
    let r = found_in (λ i. PermittedItem i × (is_64_bits i ≡ true)) m is (all_both PermittedItem is_64_bits is p e) h in
    rw r.body (eqb-true (length r.item.body) 8 r.holds.1, r.holds.0.body.1)

subtype-in : (m : MainType) → ((s l : ℕ) → row m s l ≡ leb s 4 && leb l 7) → (is : List Item) → AllPermitted is → has m is ≡ true → subtype_in m is ≤ 4
subtype-in m f is p h =
    let r = found_in PermittedItem m is p h in
    let s : ℕ = r.item.subtype in
    let l : ℕ = r.item.length_number in
    let e : row m s l ≡ true = ap (λ (k : MainType). row k s l) r.named ∙ (both_true (eqb r.item.version 0) (row r.item.main_type s l) r.holds.header).1 in
    rw r.subtype (leb-true s 4 (both_true (leb s 4) (leb l 7) (sym (f s l) ∙ e)).0)

-- a list that makes a composite: its tests
pub record CompositeParts (is : List Item) (m : Meaning) : Type 0 where
  pub data_in : has Data is ≡ true
  pub instance_in : has Instance is ≡ true
  pub all_64_bits : every is_64_bits is ≡ true
  pub shared : pairwise shared_subtype is ≡ true
  pub meaning : composite (subtype_of is) 0 (set_in is) (bodies_in (unit_types (set_in is)) is) ≡ m

pub composite_from-parts : (is : List Item) (m : Meaning) → composite_from is ≡ accept m → CompositeParts is m
unfolding composite_from
composite_from-parts is m e =
    let e₁ = passed (every joinable is) _ _ e in
    let e₂ = passed (every is_64_bits is) _ _ e₁.1 in
    let e₃ = passed (pairwise other_type is) _ _ e₂.1 in
    let e₄ = passed (has Data is && has Instance is) _ _ e₃.1 in
    let e₅ = passed (pairwise shared_subtype is) _ _ e₄.1 in
    let d = both_true (has Data is) (has Instance is) e₄.0 in
    record { data_in = d.0; instance_in = d.1; all_64_bits = e₂.0; shared = e₅.0; meaning = accept-inj e₅.1 }

-- the subtype of a list is one that the rules allow for its set
subtype-allowed : (u : Set) (x y : ℕ) → (u.semantic ≡ true → x ≤ 4) → (u.content ≡ true → y ≤ 4)
    → composite_subtype (set_length_number u) (cond u.semantic x (cond u.content y (cond u.meta 6 5))) ≡ true
subtype-allowed u x y f g = subtype-by-set _ u ∙ go u.semantic u.content f g
  where
    go : (b c : Bool) → (b ≡ true → x ≤ 4) → (c ≡ true → y ≤ 4)
        → cond (b || c) (leb (cond b x (cond c y (cond u.meta 6 5))) 4) (eqb (cond b x (cond c y (cond u.meta 6 5))) (cond u.meta 6 5)) ≡ true
    go true c f g = le-leb x 4 (f refl)
    go false true f g = le-leb y 4 (g refl)
    go false false f g = eq-eqb (cond u.meta 6 5) _ refl

pub composite_from-permitted : (is : List Item) (m : Meaning) → AllPermitted is → composite_from is ≡ accept m → Permitted m
unfolding subtype_of row
composite_from-permitted is m p e =
    let k : CompositeParts is m = composite_from-parts is m e in
    let body : (t : MainType) → has t is ≡ true → Sized 8 (bytes_in (body_in t is)) = λ t. sized-in t is p k.all_64_bits in
    subst Permitted k.meaning
    (record {
      subtype = subtype-allowed (set_in is) (subtype_in Semantic is) (subtype_in Content is) (subtype-in Semantic (λ s l. refl) is p) (subtype-in Content (λ s l. refl) is p);
      version = refl;
      count = length-map (unit_types (set_in is)) (λ t. bytes_in (body_in t is)) ∙ types-count (set_in is);
      sized =
          all_map (Sized 8) (λ t. bytes_in (body_in t is)) (unit_types (set_in is))
          (types-all (λ t. Sized 8 (bytes_in (body_in t is))) (set_in is) (body Meta) (body Semantic) (body Content) (body Data k.data_in) (body Instance k.instance_in));
    })

pub means-permitted : (is : List Item) (m : Meaning) → AllPermitted is → meaning_of_items is ≡ accept m → Permitted m
unfolding meaning_of_items
means-permitted [] m p e = absurd (never e)
means-permitted (i ∷ []) m p e = let same : meaning_of i ≡ m = cc in subst Permitted same (meant-item i p.0)
means-permitted (i ∷ j ∷ is) m p e = composite_from-permitted (i ∷ j ∷ is) m p e

-- ---- items laid end to end are read one by one as they went in

some_bytes : (i : Item) (rest : List ℕ) → PermittedItem i → 0 < length (item_bytes i ++ rest)
some_bytes i rest p = let l = length-item i p in simp length-append (omega arith)

longer : (xs ys : List ℕ) → 0 < length ys → length xs < length (xs ++ ys)
longer xs ys h = simp length-append (omega arith)

up-to-back : (n : ℕ) (i : Item) (is : List Item) → length (i ∷ is) ≤ n → AllPermitted (i ∷ is) → read_up_to n (items_bytes (i ∷ is)) ≡ accept (i ∷ is)
unfolding read_up_to items_bytes
up-to-back zero i is h p = absurd (not-suc-le-zero h)
up-to-back (suc n) i [] h p =
    let l : length (item_bytes i ++ []) ≤ length (item_bytes i) = simp length-append (omega arith) in
    rw (read-item i [] p.0, le-leb (length (item_bytes i ++ [])) (length (item_bytes i)) l)
up-to-back (suc n) i (j ∷ is) h p =
    let rest : List ℕ = items_bytes (j ∷ is) in
    let z : 0 < length rest = some_bytes j (items_bytes is) p.1.0 in
    let l : length (item_bytes i) < length (item_bytes i ++ rest) = longer (item_bytes i) rest z in
    rw (read-item i rest p.0, lt-leb (length (item_bytes i ++ rest)) (length (item_bytes i)) l, drop-append_seam (item_bytes i) rest, up-to-back n j is (le_of_suc-le-suc h) p.1)

many : (is : List Item) → AllPermitted is → length is ≤ length (items_bytes is)
unfolding items_bytes
many [] p = lit≤ tt
many (i ∷ is) p =
    let l = length-item i p.0 in
    let m : length is ≤ length (items_bytes is) = many is p.1 in
    simp length-append (omega arith)

pub read-items : (i : Item) (is : List Item) → AllPermitted (i ∷ is) → read_items (items_bytes (i ∷ is)) ≡ accept (i ∷ is)
unfolding read_items
read-items i is p =
    let m : length (i ∷ is) ≤ length (items_bytes (i ∷ is)) = many (i ∷ is) p in
    up-to-back (suc (length (items_bytes (i ∷ is)))) i is (omega arith) p
