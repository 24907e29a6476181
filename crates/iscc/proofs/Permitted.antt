-- The laws of permitted headers, and of the eight sets.
use denote.Enum.Declared.{tag_of}
use denote.Enum.Bare.{sameb}
use Rattle.iscc.specs.contracts.main_type.Name.{the_type}
use Prim.Native.Nat.{ℕ, ◌+◌, ◌*◌, ◌/◌, ◌%◌, ◌≤◌, ◌<◌}
use mathlib.Core.Path.{◌≡◌, refl, sym, ◌∙◌, ap, ap₂}
use mathlib.Core.Bool.{Bool, true, false, cond, not, ◌&&◌, ◌||◌}
use mathlib.Core.Logic.{◌⊎◌, inl, inr}
use mathlib.Core.List.{List, ◌++◌}
use native.Mathlib.Omega.{arith}
use lib.ListN.{length, get_or-eq_default}
use lib.Dec.{eqb, leb, ltb, lit≤}
use borrow.Author.Tests.{eqb-true, leb-true, ltb-true, lt-ltb, le-leb, eq-eqb, ne_eqb}
use Rattle.iscc.specs.Answer.{accept}
use Rattle.iscc.specs.Lists.{All, every, pairwise}
use Rattle.iscc.specs.Permitted.{MainType, number, is_unit, type_of, main_type_of, Set, sets, set_of, set_length_number, weight, unit_count, only, unit_types, composite_subtype, is_wide, row, permits, body_bytes}
use Rattle.iscc.specs.declared.main_type.Name.TheVariants.{Meta, Semantic, Content, Data, Instance, Iscc, Id}
use Rattle.iscc.specs.Item.{unit_length_number}
use Rattle.iscc.specs.Items.{same_type}
use Rattle.iscc.proofs.Answer.{accept-inj, passed}
use Rattle.iscc.proofs.Booleans.{both_true, or_cases}
use Rattle.iscc.proofs.Table.{up_to, at}
use Rattle.iscc.proofs.Lists.{all_append}

pub number_small : (m : MainType) → number m ≤ 6
number_small Meta = lit≤ tt
number_small Semantic = lit≤ tt
number_small Content = lit≤ tt
number_small Data = lit≤ tt
number_small Instance = lit≤ tt
number_small Iscc = lit≤ tt
number_small Id = lit≤ tt

pub type-number : (m : MainType) → type_of (number m) ≡ m
unfolding type_of
type-number Meta = refl
type-number Semantic = refl
type-number Content = refl
type-number Data = refl
type-number Instance = refl
type-number Iscc = refl
type-number Id = refl

pub main_type_of-number : (m : MainType) → main_type_of (number m) ≡ accept m
unfolding main_type_of
main_type_of-number m = rw (lt-ltb (number m) 7 (omega (arith, number_small m)), type-number m)

pub number-type : (n : ℕ) → n < 7 → number (type_of n) ≡ n
unfolding type_of up_to
number-type n h = eqb-true (number (type_of n)) n (at 7 (λ k. eqb (number (type_of k)) k) refl n h)

pub main_type_of-back : (n : ℕ) (m : MainType) → main_type_of n ≡ accept m → number m ≡ n
unfolding main_type_of
main_type_of-back n m e =
    let p = passed (ltb n 7) _ (accept (type_of n)) e in
    ap number (sym (accept-inj p.1)) ∙ number-type n (ltb-true n 7 p.0)

-- a main type is a unit's, or a composite's
pub unit-or-composite {ℓ} : (P : MainType → Type ℓ) → ((m : MainType) → is_unit m ≡ true → P m) → P Iscc → (m : MainType) → P m
unit-or-composite P f g Meta = f Meta refl
unit-or-composite P f g Semantic = f Semantic refl
unit-or-composite P f g Content = f Content refl
unit-or-composite P f g Data = f Data refl
unit-or-composite P f g Instance = f Instance refl
unit-or-composite P f g Iscc = g
unit-or-composite P f g Id = f Id refl

-- a permitted header's numbers
pub record Small (s v l : ℕ) : Type 0 where
  pub subtype : s ≤ 7
  pub version : v ≡ 0
  pub length_number : l ≤ 7

cond_cases {ℓ} : (P : Type ℓ) (b : Bool) (x y : Bool) → cond b x y ≡ true → (b ≡ true → x ≡ true → P) → (b ≡ false → y ≡ true → P) → P
cond_cases P true x y e f g = f refl e
cond_cases P false x y e f g = g refl e

pub subtype-small : (l s : ℕ) → composite_subtype l s ≡ true → s ≤ 6
unfolding composite_subtype
subtype-small l s e =
    cond_cases (s ≤ 6) (eqb l 0) (eqb s 5) (cond (eqb l 4) (eqb s 6) (leb s 4)) e
    (λ _ a. let x : s ≡ 5 = eqb-true s 5 a in omega arith)
    (λ _ a. cond_cases (s ≤ 6) (eqb l 4) (eqb s 6) (leb s 4) a
    (λ _ b. let x : s ≡ 6 = eqb-true s 6 b in omega arith)
    (λ _ b. let x : s ≤ 4 = leb-true s 4 b in omega arith))

-- tests of a row: what they let through is at most 7
is-small : (n k : ℕ) → k ≤ 7 → eqb n k ≡ true → n ≤ 7
is-small n k h e = omega (arith, eqb-true n k e)

most-small : (n k : ℕ) → k ≤ 7 → leb n k ≡ true → n ≤ 7
most-small n k h e = omega (arith, leb-true n k e)

both_small : {s l : ℕ} {p q : Bool} → (p ≡ true → s ≤ 7) → (q ≡ true → l ≤ 7) → p && q ≡ true → (s ≤ 7) × (l ≤ 7)
both_small {s} {l} {p} {q} f g e = let w = both_true p q e in (f w.0, g w.1)

-- a wide composite's numbers
pub wide-numbers : (s l : ℕ) → is_wide s l ≡ true → (s ≡ 7) × (l ≡ 0)
unfolding is_wide
wide-numbers s l e = let p = both_true (eqb s 7) (eqb l 0) e in (eqb-true s 7 p.0, eqb-true l 0 p.1)

composite-small : (s l : ℕ) → (is_wide s l ≡ true) ⊎ (composite_subtype l s && leb l 7 ≡ true) → (s ≤ 7) × (l ≤ 7)
composite-small s l (inl w) = let p = wide-numbers s l w in (omega (arith, p.0), omega (arith, p.1))
composite-small s l (inr e) = both_small (λ (a : composite_subtype l s ≡ true). omega (arith, subtype-small l s a)) (most-small l 7 (lit≤ tt)) e

row_small : (m : MainType) (s l : ℕ) → row m s l ≡ true → (s ≤ 7) × (l ≤ 7)
unfolding row
row_small Meta s l = both_small (is-small s 0 (lit≤ tt)) (most-small l 7 (lit≤ tt))
row_small Semantic s l = both_small (most-small s 4 (lit≤ tt)) (most-small l 7 (lit≤ tt))
row_small Content s l = both_small (most-small s 4 (lit≤ tt)) (most-small l 7 (lit≤ tt))
row_small Data s l = both_small (is-small s 0 (lit≤ tt)) (most-small l 7 (lit≤ tt))
row_small Instance s l = both_small (is-small s 0 (lit≤ tt)) (most-small l 7 (lit≤ tt))
row_small Iscc s l = λ e. composite-small s l (or_cases (is_wide s l) (composite_subtype l s && leb l 7) e)
row_small Id s l = both_small (most-small s 5 (lit≤ tt)) (most-small l 4 (lit≤ tt))

pub small : (m : MainType) (s v l : ℕ) → permits m s v l ≡ true → Small s v l
small m s v l e =
    let p = both_true (eqb v 0) (row m s l) e in
    let r = row_small m s l p.1 in
    record { subtype = r.0; version = eqb-true v 0 p.0; length_number = r.1 }

-- a unit's length number comes back from its body's length
pub unit_length_number-back : (m : MainType) (s l : ℕ) → is_unit m ≡ true → unit_length_number m (body_bytes m s l) ≡ l
unfolding unit_length_number body_bytes
unit_length_number-back Meta s l u = omega arith
unit_length_number-back Semantic s l u = omega arith
unit_length_number-back Content s l u = omega arith
unit_length_number-back Data s l u = omega arith
unit_length_number-back Instance s l u = omega arith
unit_length_number-back Iscc s l u = cc
unit_length_number-back Id s l u = omega arith

-- what holds of each of the eight sets holds of any
each_set {ℓ} : (P : Set → Type ℓ) → P (set_of 0) → P (set_of 1) → P (set_of 2) → P (set_of 3) → P (set_of 4) → P (set_of 5) → P (set_of 6) → P (set_of 7) → (u : Set) → P u
unfolding set_of sets
each_set P p₀ p₁ p₂ p₃ p₄ p₅ p₆ p₇ u = go u.meta u.semantic u.content
  where
    go : (a b c : Bool) → P (record { meta = a; semantic = b; content = c })
    go false false false = p₀
    go false false true = p₁
    go false true false = p₂
    go false true true = p₃
    go true false false = p₄
    go true false true = p₅
    go true true false = p₆
    go true true true = p₇

-- a set comes back from its number
pub set_back : (u : Set) → set_of (set_length_number u) ≡ u
unfolding set_of sets
set_back = each_set _ refl refl refl refl refl refl refl refl

-- a length number comes back from its set
pub set_length_number-back : (l : ℕ) → l ≤ 7 → set_length_number (set_of l) ≡ l
unfolding set_of sets up_to
set_length_number-back l h = eqb-true (set_length_number (set_of l)) l (at 8 (λ k. eqb (set_length_number (set_of k)) k) refl l (omega arith))

weight-one : (b : Bool) → weight 1 b ≤ 1
weight-one true = lit≤ tt
weight-one false = lit≤ tt

pub count_most : (s : Set) → unit_count s ≤ 5
count_most s =
    let a : weight 1 s.meta ≤ 1 = weight-one s.meta in
    let b : weight 1 s.semantic ≤ 1 = weight-one s.semantic in
    let c : weight 1 s.content ≤ 1 = weight-one s.content in
    omega arith

cond-most : (b : Bool) (x y : ℕ) → x ≤ 40 → y ≤ 40 → cond b x y ≤ 40
cond-most true x y h k = h
cond-most false x y h k = k

-- a body is of at most 40 bytes
pub body-most : (m : MainType) (s v l : ℕ) → permits m s v l ≡ true → body_bytes m s l ≤ 40
unfolding body_bytes
body-most Meta s v l p = let h : Small s v l = small Meta s v l p in omega arith
body-most Semantic s v l p = let h : Small s v l = small Semantic s v l p in omega arith
body-most Content s v l p = let h : Small s v l = small Content s v l p in omega arith
body-most Data s v l p = let h : Small s v l = small Data s v l p in omega arith
body-most Instance s v l p = let h : Small s v l = small Instance s v l p in omega arith
body-most Iscc s v l p = cond-most (is_wide s l) 32 (unit_count (set_of l) * 8) (lit≤ tt) (omega (arith, count_most (set_of l)))
body-most Id s v l p = let h : Small s v l = small Id s v l p in omega arith

-- a subtype that the rules allow for a set is not a wide composite's
pub not_wide : (s l : ℕ) → composite_subtype l s ≡ true → is_wide s l ≡ false
unfolding is_wide
not_wide s l e = rw (ne_eqb s 7 (λ z. omega (arith, subtype-small l s e)))

pub set-small : (u : Set) → set_length_number u ≤ 7
unfolding set_of sets
set-small = each_set _ (lit≤ tt) (lit≤ tt) (lit≤ tt) (lit≤ tt) (lit≤ tt) (lit≤ tt) (lit≤ tt) (lit≤ tt)

-- the table's row of a composite, by its set
pub composite-permits : (s v : ℕ) (u : Set) → v ≡ 0 → composite_subtype (set_length_number u) s ≡ true → permits Iscc s v (set_length_number u) ≡ true
unfolding row
composite-permits s v u z e = rw (eq-eqb v 0 z, not_wide s (set_length_number u) e, e) (le-leb _ 7 (set-small u))

pub permits-composite : (s v l : ℕ) → permits Iscc s v l ≡ true → is_wide s l ≡ false → composite_subtype l s ≡ true
unfolding row
permits-composite s v l e w = (both_true (composite_subtype l s) (leb l 7) (rw w at (both_true (eqb v 0) (row Iscc s l) e).1)).0

-- the subtype by the set: 5 with neither SEMANTIC nor CONTENT, 6 with META alone, and else 0 to 4
pub subtype-by-set : (s : ℕ) (u : Set) → composite_subtype (set_length_number u) s ≡ cond (u.semantic || u.content) (leb s 4) (eqb s (cond u.meta 6 5))
unfolding composite_subtype set_of sets
subtype-by-set s = each_set _ refl refl refl refl refl refl refl refl

pub subtype-low : (s : ℕ) (u : Set) → composite_subtype (set_length_number u) s ≡ true → (u.semantic || u.content) ≡ true → s ≤ 4
subtype-low s u e h = leb-true s 4 (rw h at (sym (subtype-by-set s u) ∙ e))

pub subtype-fixed : (s : ℕ) (u : Set) → composite_subtype (set_length_number u) s ≡ true → (u.semantic || u.content) ≡ false → s ≡ cond u.meta 6 5
subtype-fixed s u e h = eqb-true s (cond u.meta 6 5) (rw h at (sym (subtype-by-set s u) ∙ e))

-- a number that is no length number has the set of 0
pub set_past : (l : ℕ) → 8 ≤ l → set_of l ≡ set_of 0
unfolding set_of sets
set_past l h = get_or-eq_default sets _ h

-- the count of bodies by the numbers that a length number is the sum of
count_agrees : ℕ → Bool
count_agrees l = eqb (unit_count (set_of l)) (l / 4 + l / 2 % 2 + l % 2 + 2)

count-computed : up_to 8 count_agrees ≡ true
unfolding up_to count_agrees set_of sets
count-computed = refl

pub count-by-parts : (l : ℕ) → l < 8 → unit_count (set_of l) ≡ l / 4 + l / 2 % 2 + l % 2 + 2
unfolding count_agrees
count-by-parts l h = eqb-true (unit_count (set_of l)) (l / 4 + l / 2 % 2 + l % 2 + 2) (at 8 count_agrees count-computed l h)

-- ---- the units in a set

pub types-count : (u : Set) → length (unit_types u) ≡ unit_count u
unfolding unit_types set_of sets
types-count = each_set _ refl refl refl refl refl refl refl refl

all-only : (P : MainType → Type 0) (b : Bool) (m : MainType) → (b ≡ true → P m) → All P (only b m)
all-only P true m f = (f refl, tt)
all-only P false m f = tt

-- what holds of those that may be in, where they are, and of DATA and INSTANCE, holds of all that are in
pub types-all : (P : MainType → Type 0) (u : Set) → (u.meta ≡ true → P Meta) → (u.semantic ≡ true → P Semantic) → (u.content ≡ true → P Content)
    → P Data → P Instance → All P (unit_types u)
unfolding unit_types
types-all P u f g h d i =
    let a : All P (only u.meta Meta ++ only u.semantic Semantic) = all_append P (only u.meta Meta) _ (all-only P u.meta Meta f) (all-only P u.semantic Semantic g) in
    all_append P (only u.meta Meta ++ only u.semantic Semantic ++ only u.content Content) _
    (all_append P (only u.meta Meta ++ only u.semantic Semantic) _ a (all-only P u.content Content h)) (d, (i, tt))

-- a main type stands in a list
abbrev pub among : MainType → List MainType → Bool
among m ms = not (every (λ k. not (same_type m k)) ms)

-- the set comes back from its units, which have DATA and INSTANCE, and no main type twice
pub types-set : (u : Set) → record { meta = among Meta (unit_types u); semantic = among Semantic (unit_types u); content = among Content (unit_types u) } ≡ u
unfolding unit_types set_of sets every
types-set = each_set _ refl refl refl refl refl refl refl refl

pub types-whole : (u : Set) → (among Data (unit_types u) && among Instance (unit_types u)) && pairwise (λ m k. not (same_type m k)) (unit_types u) ≡ true
unfolding unit_types set_of sets every pairwise
types-whole = each_set _ refl refl refl refl refl refl refl refl

-- equality of two main types in the code
pub tag-is : (m : MainType) → tag_of the_type m ≡ number m
tag-is Meta = refl
tag-is Semantic = refl
tag-is Content = refl
tag-is Data = refl
tag-is Instance = refl
tag-is Iscc = refl
tag-is Id = refl

pub same-types : (m k : MainType) → sameb the_type m k ≡ eqb (number m) (number k)
same-types m k = ap₂ eqb (tag-is m) (tag-is k)
