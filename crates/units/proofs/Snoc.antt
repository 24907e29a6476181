-- A list of items with one more behind: what its tests and its searches say.
use Prim.Native.Nat.{ℕ}
use mathlib.Core.Path.{◌≡◌, refl, ◌∙◌}
use mathlib.Core.Bool.{Bool, true, false, cond, not, ◌&&◌, ◌||◌, or-true}
use mathlib.Core.Option.{none, some}
use mathlib.Core.List.{List, [], ◌∷◌, ◌++◌}
use lib.Dec.{eqb}
use borrow.Author.Tests.{eqb-true}
use Rattle.iscc.specs.Permitted.{MainType, number}
use Rattle.iscc.specs.declared.main_type.Name.TheVariants.{Meta, Semantic, Content, Data, Instance, Iscc, Id}
use Rattle.iscc.specs.Item.{Item}
use Rattle.iscc.specs.Lists.{every, pairwise}
use Rattle.iscc.specs.Items.{same_type, other_type, has_subtype, shared_subtype, body_in, is_in, has}
use Rattle.iscc.proofs.Booleans.{both_true}
use Rattle.iscc.proofs.Order.{eqb_comm}
use Rattle.iscc.proofs.Lists.{every_true, every-same, every_append}
use Rattle.units.specs.Summary.{first_subtype, shares, subtype_after}
use Rattle.std.specs.Prelude.{Option, Some, None, is_some}

pub pairwise-snoc : {A : Type 0} (r : A → A → Bool) (xs : List A) (y : A) → pairwise r (xs ++ (y ∷ [])) ≡ pairwise r xs && every (λ e. r e y) xs
unfolding pairwise every
pairwise-snoc r [] y = refl
pairwise-snoc r (x ∷ xs) y = rw (every_append (r x) xs y, pairwise-snoc r xs y) (go (every (r x) xs) (r x y) (pairwise r xs) (every (λ e. r e y) xs))
  where
    go : (a b c d : Bool) → (a && b) && (c && d) ≡ (a && c) && (b && d)
    go true true c d = refl
    go true false true d = refl
    go true false false d = refl
    go false b c d = refl

pub body_in-snoc : (m : MainType) (is : List Item) (i : Item)
    → body_in m (is ++ (i ∷ [])) ≡ cond (has m is) (body_in m is) (cond (same_type m i.main_type) (some i.body) none)
unfolding body_in
body_in-snoc m [] i = refl
body_in-snoc m (x ∷ is) i = go (same_type m x.main_type) (body_in-snoc m is i)
  where
    go : (b : Bool) → body_in m (is ++ (i ∷ [])) ≡ cond (has m is) (body_in m is) (cond (same_type m i.main_type) (some i.body) none)
        → cond b (some x.body) (body_in m (is ++ (i ∷ [])))
        ≡ cond (is_in (cond b (some x.body) (body_in m is))) (cond b (some x.body) (body_in m is)) (cond (same_type m i.main_type) (some i.body) none)
    go true ih = refl
    go false ih = ih

-- an item is of another main type than each before it, if none of its main type is there
pub others : (is : List Item) (i : Item) → every (λ e. other_type e i) is ≡ not (has i.main_type is)
unfolding every body_in
others [] i = refl
others (x ∷ is) i = rw (eqb_comm (number x.main_type) (number i.main_type), others is i) (go (same_type i.main_type x.main_type))
  where
    go : (b : Bool) → not b && not (has i.main_type is) ≡ not (is_in (cond b (some x.body) (body_in i.main_type is)))
    go true = refl
    go false = refl

-- ---- SEMANTIC and CONTENT units

abbrev pub subtyped : List Item → Bool
subtyped is = has Semantic is || has Content is

-- m is in a list with an item of main type n in front
abbrev in_front : Item → List Item → MainType → MainType → Bool
in_front i is m n = is_in (cond (same_type m n) (some i.body) (body_in m is))

pub subtyped-cons : (i : Item) (is : List Item) → subtyped (i ∷ is) ≡ has_subtype i || subtyped is
unfolding body_in
subtyped-cons i is = go i.main_type
  where
    go : (n : MainType) → in_front i is Semantic n || in_front i is Content n ≡ (same_type n Semantic || same_type n Content) || subtyped is
    go Meta = refl
    go Semantic = refl
    go Content = or-true (has Semantic is)
    go Data = refl
    go Instance = refl
    go Iscc = refl
    go Id = refl

pub first_subtype-snoc : (is : List Item) (i : Item) → first_subtype (is ++ (i ∷ [])) ≡ subtype_after (first_subtype is) i.main_type i.subtype
unfolding first_subtype subtype_after
first_subtype-snoc [] i = refl
first_subtype-snoc (x ∷ is) i = go (has_subtype x) (first_subtype-snoc is i)
  where
    go : (b : Bool) → first_subtype (is ++ (i ∷ [])) ≡ subtype_after (first_subtype is) i.main_type i.subtype
        → cond b (Some x.subtype) (first_subtype (is ++ (i ∷ []))) ≡ subtype_after (cond b (Some x.subtype) (first_subtype is)) i.main_type i.subtype
    go true ih = refl
    go false ih = ih

-- there is a first one where there is one
pub first_subtype-there : (is : List Item) → is_some (first_subtype is) ≡ subtyped is
unfolding first_subtype body_in
first_subtype-there [] = refl
first_subtype-there (x ∷ is) = rw (subtyped-cons x is) (go (has_subtype x) (first_subtype-there is))
  where
    go : (b : Bool) → is_some (first_subtype is) ≡ subtyped is → is_some (cond b (Some x.subtype) (first_subtype is)) ≡ b || subtyped is
    go true ih = refl
    go false ih = ih

every-imp : {A : Type 0} (p q : A → Bool) → ((x : A) → p x ≡ true → q x ≡ true) → (xs : List A) → every p xs ≡ true → every q xs ≡ true
unfolding every
every-imp p q f [] e = refl
every-imp p q f (x ∷ xs) e = let w = both_true (p x) (every p xs) e in rw (f x w.0, every-imp p q f xs w.1)

-- whether e goes with an item of subtype s, that is a SEMANTIC or CONTENT unit or not
abbrev goes_with : Bool → ℕ → Item → Bool
goes_with h s e = not (has_subtype e && h) || eqb e.subtype s

no-subtype : (s : ℕ) (e : Item) → goes_with false s e ≡ true
no-subtype s e = go (has_subtype e)
  where
    go : (b : Bool) → not (b && false) || eqb e.subtype s ≡ true
    go true = refl
    go false = refl

-- x, which has a subtype, goes with e, and its subtype is s: then e goes with s
same-subtype : (x : Item) (s : ℕ) → has_subtype x ≡ true → x.subtype ≡ s → (e : Item) → shared_subtype x e ≡ true → goes_with true s e ≡ true
same-subtype x s h q e = rw (h, q, eqb_comm s e.subtype) (go (has_subtype e))
  where
    go : (b : Bool) → not b || eqb e.subtype s ≡ true → not (b && true) || eqb e.subtype s ≡ true
    go true z = z
    go false z = refl

-- the subtype s is that of the first, if there is one
abbrev is_first : Option ℕ → ℕ → Bool
is_first None s = true
is_first (Some t) s = eqb t s

all_go : (s : ℕ) (is : List Item) → pairwise shared_subtype is ≡ true → every (goes_with true s) is ≡ is_first (first_subtype is) s
unfolding every pairwise first_subtype
all_go s [] e = refl
all_go s (x ∷ is) e =
    let w = both_true (every (shared_subtype x) is) (pairwise shared_subtype is) e in
    go (has_subtype x) refl w.0 (all_go s is w.1)
  where
    here : (b : Bool) → has_subtype x ≡ true → eqb x.subtype s ≡ b → every (shared_subtype x) is ≡ true → b && every (goes_with true s) is ≡ b
    here true h q f = every-imp (shared_subtype x) (goes_with true s) (same-subtype x s h (eqb-true x.subtype s q)) is f
    here false h q f = refl

    go : (b : Bool) → has_subtype x ≡ b → every (shared_subtype x) is ≡ true → every (goes_with true s) is ≡ is_first (first_subtype is) s
        → (not (b && true) || eqb x.subtype s) && every (goes_with true s) is ≡ is_first (cond b (Some x.subtype) (first_subtype is)) s
    go true h f ih = here (eqb x.subtype s) h refl f
    go false h f ih = ih

-- where the items so far share their subtype, the next one shares it if it is that of the first
pub shares-is : (is : List Item) (i : Item) → pairwise shared_subtype is ≡ true
    → every (λ e. shared_subtype e i) is ≡ shares (first_subtype is) i.main_type i.subtype
unfolding shares
shares-is is i e = go (has_subtype i) ∙ by (first_subtype is)
  where
    go : (h : Bool) → every (goes_with h i.subtype) is ≡ cond h (is_first (first_subtype is) i.subtype) true
    go true = all_go i.subtype is e
    go false = every-same (goes_with false i.subtype) (λ _. true) (no-subtype i.subtype) is ∙ every_true is

    always : (h : Bool) → cond h true true ≡ true
    always true = refl
    always false = refl

    by : (o : Option ℕ) → cond (has_subtype i) (is_first o i.subtype) true ≡ shares o i.main_type i.subtype
    by None = always (has_subtype i)
    by (Some t) = refl
