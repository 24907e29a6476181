-- A list's order does not matter to the composite that it makes, nor to the number with which it is refused.
use Prim.Native.Nat.{ℕ, suc}
use mathlib.Core.Path.{◌≡◌, refl, sym, ◌∙◌, ap, fun_ext}
use mathlib.Core.Bool.{Bool, true, false, not, cond, ◌&&◌, ◌||◌}
use mathlib.Core.Option.{some}
use mathlib.Core.List.{List, [], ◌∷◌}
use native.Mathlib.Decide.{ℕ_discrete}
use native.Mathlib.Omega.{arith}
use lib.ListN.{length}
use lib.Dec.{eqb}
use borrow.Author.Tests.{eq-eqb, ne_eqb}
use Rattle.iscc.specs.Permitted.{MainType, number}
use Rattle.iscc.specs.declared.main_type.Name.TheVariants.{Meta, Semantic, Content, Data, Instance}
use Rattle.iscc.specs.Answer.{Answer}
use Rattle.iscc.specs.Meaning.{Meaning}
use Rattle.iscc.specs.Item.{Item}
use Rattle.iscc.specs.Lists.{every, pairwise, Reordered, nil, keep, swap, then}
use Rattle.iscc.specs.Items.{same_type, joinable, is_64_bits, other_type, has_subtype, shared_subtype, body_in, subtype_in, bytes_in, subtype_of, composite_from, meaning_of_items, joined_meaning}
use Rattle.iscc.proofs.Booleans.{both_true, and-swap, and-four}
use Rattle.iscc.proofs.Items.{same_type-eq}

pub eqb_comm : (x y : ℕ) → eqb x y ≡ eqb y x
eqb_comm x y = elim (ℕ_discrete x y) [ yes e ↦ rw e | no d ↦ ne_eqb x y d ∙ sym (ne_eqb y x (λ e. d (sym e))) ]

pub every-reordered : {A : Type 0} (p : A → Bool) {is js : List A} → Reordered is js → every p is ≡ every p js
unfolding every
every-reordered p nil = refl
every-reordered p (keep i r) = rw (every-reordered p r)
every-reordered p (swap i j is) = and-swap (p i) (p j) (every p is)
every-reordered p (then r q) = every-reordered p r ∙ every-reordered p q

-- a relation that does not look at the order
pub pairwise-reordered : {A : Type 0} (r : A → A → Bool) → ((i j : A) → r i j ≡ r j i) → {is js : List A} → Reordered is js → pairwise r is ≡ pairwise r js
unfolding pairwise every
pairwise-reordered r c nil = refl
pairwise-reordered r c (keep i q) = rw (pairwise-reordered r c q, every-reordered (r i) q)
pairwise-reordered r c (swap i j is) = rw (c i j) (and-four (r j i) (every (r i) is) (every (r j) is) (pairwise r is))
pairwise-reordered r c (then p q) = pairwise-reordered r c p ∙ pairwise-reordered r c q

type-comm : (i j : Item) → other_type i j ≡ other_type j i
type-comm i j = ap not (eqb_comm (number i.main_type) (number j.main_type))

subtype-comm : (i j : Item) → shared_subtype i j ≡ shared_subtype j i
subtype-comm i j = rw (eqb_comm i.subtype j.subtype) (go (has_subtype i) (has_subtype j))
  where
    go : (a b : Bool) → not (a && b) || eqb j.subtype i.subtype ≡ not (b && a) || eqb j.subtype i.subtype
    go true true = refl
    go true false = refl
    go false true = refl
    go false false = refl

abbrev distinct : List Item → Bool
distinct is = pairwise other_type is

distinct-same : {is js : List Item} → Reordered is js → distinct is ≡ distinct js
distinct-same r = pairwise-reordered other_type type-comm r

-- the first of a main type, in a list that has no main type twice
first-same : {X : Type 0} (m i j : MainType) (x y z : X) → not (same_type i j) ≡ true → cond (same_type m i) x (cond (same_type m j) y z) ≡ cond (same_type m j) y (cond (same_type m i) x z)
first-same m i j x y z d = go (same_type m i) (same_type m j) refl refl
  where
    go : (a b : Bool) → same_type m i ≡ a → same_type m j ≡ b → cond a x (cond b y z) ≡ cond b y (cond a x z)
    go true true p q =
        let e : i ≡ j = sym (same_type-eq m i p) ∙ same_type-eq m j q in
        let t : same_type i j ≡ true = eq-eqb (number i) (number j) (ap number e) in
        let f : not (same_type i j) ≡ false = rw t in
        let n : ◌≡◌ {A = ℕ} 0 1 = cc in
        absurd (omega arith)
    go true false p q = refl
    go false true p q = refl
    go false false p q = refl

abbrev others : Item → List Item → Bool
others i is = every (other_type i) is

distinct_tail : (i : Item) (is : List Item) → distinct (i ∷ is) ≡ true → distinct is ≡ true
unfolding pairwise
distinct_tail i is d = (both_true (others i is) (distinct is) d).1

distinct-pair : (i j : Item) (is : List Item) → distinct (i ∷ j ∷ is) ≡ true → not (same_type i.main_type j.main_type) ≡ true
unfolding pairwise every
distinct-pair i j is d = (both_true (not (same_type i.main_type j.main_type)) (others i is) (both_true (others i (j ∷ is)) (distinct (j ∷ is)) d).0).0

body_in-same : (m : MainType) {is js : List Item} → Reordered is js → distinct is ≡ true → body_in m is ≡ body_in m js
unfolding body_in
body_in-same m nil d = refl
body_in-same m (keep i {xs} r) d = let t : distinct xs ≡ true = distinct_tail i xs d in rw (body_in-same m r t)
body_in-same m (swap i j is) d = first-same m i.main_type j.main_type (some i.body) (some j.body) (body_in m is) (distinct-pair i j is d)
body_in-same m (then r q) d = body_in-same m r d ∙ body_in-same m q (sym (distinct-same r) ∙ d)

subtype_in-same : (m : MainType) {is js : List Item} → Reordered is js → distinct is ≡ true → subtype_in m is ≡ subtype_in m js
unfolding subtype_in
subtype_in-same m nil d = refl
subtype_in-same m (keep i {xs} r) d = let t : distinct xs ≡ true = distinct_tail i xs d in rw (subtype_in-same m r t)
subtype_in-same m (swap i j is) d = first-same m i.main_type j.main_type i.subtype j.subtype (subtype_in m is) (distinct-pair i j is d)
subtype_in-same m (then r q) d = subtype_in-same m r d ∙ subtype_in-same m q (sym (distinct-same r) ∙ d)

pub composite_from-same : {is js : List Item} → Reordered is js → composite_from is ≡ composite_from js
unfolding composite_from subtype_of
composite_from-same {is} {js} r = go (distinct is) refl
  where
    go : (b : Bool) → distinct is ≡ b → composite_from is ≡ composite_from js
    go true d =
        let f : (m : MainType) → body_in m is ≡ body_in m js = λ m. body_in-same m r d in
        let b : ◌≡◌ {A = MainType → List ℕ} (λ m. bytes_in (body_in m is)) (λ m. bytes_in (body_in m js)) = fun_ext (λ m. ap bytes_in (f m)) in
        let g : (m : MainType) → subtype_in m is ≡ subtype_in m js = λ m. subtype_in-same m r d in
        rw (every-reordered joinable r, every-reordered is_64_bits r, distinct-same r, pairwise-reordered shared_subtype subtype-comm r, b, f Meta, f Semantic, f Content, f Data, f Instance, g Semantic, g Content)
    go false d =
        let d' : distinct js ≡ false = sym (distinct-same r) ∙ d in
        rw (every-reordered joinable r, every-reordered is_64_bits r, d, d')

pub length-reordered : {A : Type 0} {is js : List A} → Reordered is js → length is ≡ length js
length-reordered nil = refl
length-reordered (keep i r) = ap suc (length-reordered r)
length-reordered (swap i j is) = refl
length-reordered (then r q) = length-reordered r ∙ length-reordered q

-- what takes two or more items to `composite_from` gives the same answer for any order of them
module _ (f : List Item → Answer Meaning) (two : (i j : Item) (is : List Item) → f (i ∷ j ∷ is) ≡ composite_from (i ∷ j ∷ is)) where
  kept_same : (i : Item) (is js : List Item) → Reordered is js → f (i ∷ is) ≡ f (i ∷ js)
  kept_same i [] [] r = refl
  kept_same i [] (k ∷ js) r = let l : 0 ≡ suc (length js) = length-reordered r in absurd (omega arith)
  kept_same i (j ∷ is) [] r = let l : suc (length is) ≡ 0 = length-reordered r in absurd (omega arith)
  kept_same i (j ∷ is) (k ∷ js) r = two i j is ∙ composite_from-same (keep i r) ∙ sym (two i k js)

  any_order : {is js : List Item} → Reordered is js → f is ≡ f js
  any_order nil = refl
  any_order (keep i {xs} {ys} r) = kept_same i xs ys r
  any_order (swap i j is) = two i j is ∙ composite_from-same (swap i j is) ∙ sym (two j i is)
  any_order (then r q) = any_order r ∙ any_order q

-- what a list means, or the refusal, is the same whatever its order; so is what join makes of it
pub means-same : {is js : List Item} → Reordered is js → meaning_of_items is ≡ meaning_of_items js
unfolding meaning_of_items
means-same r = any_order meaning_of_items (λ i j is. refl) r

pub joined_same : {is js : List Item} → Reordered is js → joined_meaning is ≡ joined_meaning js
unfolding joined_meaning
joined_same r = any_order joined_meaning (λ i j is. refl) r
