-- The laws of distance.
use Prim.Native.Nat.{ℕ, suc, ◌*◌, ◌^◌, min, ◌≤◌}
use mathlib.Core.Path.{◌≡◌, refl, sym, ap, subst}
use mathlib.Core.Bool.{Bool, true, false, cond, ◌&&◌, false≢true}
use mathlib.Core.Logic.{◌⊎◌, inl, inr, ◌↔◌}
use mathlib.Core.List.{List, [], ◌∷◌}
use native.Mathlib.Nat.{le_trans, le_of_eq}
use native.Mathlib.Omega.{arith}
use lib.ListN.{length, length-append}
use lib.Dec.{eqb, leb, lit≤}
use lib.IntN.{pos}
use lib.Ieee.{binary32, of_int, div, mul, eq}
use borrow.Author.Tests.{eqb-true, eq-eqb}
use Rattle.iscc.specs.Answer.{accept}
use Rattle.iscc.specs.Digits.{digits}
use Rattle.iscc.specs.Permitted.{MainType, number, permits, body_bytes}
use Rattle.iscc.specs.declared.main_type.Name.TheVariants.{Meta, Semantic, Content, Data, Instance, Iscc, Id}
use Rattle.iscc.specs.Item.{Item, read_item, read_one}
use Rattle.iscc.specs.Items.{same_type}
use Rattle.iscc.specs.Distance.{Distance, bits_of, differing_positions, differing_bits, compared_bits, ratio_of, has_distance, comparable, distance}
use Rattle.iscc.proofs.Answer.{passed, answered, accept-inj}
use Rattle.iscc.proofs.Booleans.{both_true}
use Rattle.iscc.proofs.Digits.{length_digits}
use Rattle.iscc.proofs.Table.{up_to, at}
use Rattle.iscc.proofs.Permitted.{Small, small}
use Rattle.iscc.proofs.Item.{behind-header}
use Rattle.iscc.proofs.Items.{same_type-eq}

length-bits : (bs : List ℕ) → length (bits_of bs) ≡ 8 * length bs
unfolding bits_of
length-bits [] = refl
length-bits (b ∷ bs) =
    let i : length (bits_of bs) ≡ 8 * length bs = length-bits bs in
    let d : length (digits 1 8 b) ≡ 8 = length_digits 1 8 b in
    simp length-append (omega arith)

one-most : (b : Bool) → cond b 0 1 ≤ 1
one-most true = lit≤ tt
one-most false = lit≤ tt

differing-most : (xs ys : List ℕ) → differing_positions xs ys ≤ min (length xs) (length ys)
unfolding differing_positions
differing-most [] ys = omega arith
differing-most (x ∷ xs) [] = omega arith
differing-most (x ∷ xs) (y ∷ ys) =
    let i : differing_positions xs ys ≤ min (length xs) (length ys) = differing-most xs ys in
    let o : cond (eqb x y) 0 1 ≤ 1 = one-most (eqb x y) in
    omega arith

-- d is at most n
pub apart-most : (x y : List ℕ) → differing_bits x y ≤ compared_bits x y
unfolding differing_bits compared_bits
apart-most x y =
    let d : differing_positions (bits_of x) (bits_of y) ≤ min (length (bits_of x)) (length (bits_of y)) = differing-most (bits_of x) (bits_of y) in
    let a : length (bits_of x) ≡ 8 * length x = length-bits x in
    let b : length (bits_of y) ≡ 8 * length y = length-bits y in
    omega arith

-- n is the shorter body's bits, whichever it is
pub compared-shorter : (x y : List ℕ) → length x ≤ length y → (compared_bits x y ≡ length (bits_of x)) × (compared_bits y x ≡ length (bits_of x))
unfolding compared_bits
compared-shorter x y l = let n : length (bits_of x) ≡ 8 * length x = length-bits x in (omega arith, omega arith)

-- the float product of the ratio and n is d as a float
abbrev exact_at : ℕ → ℕ → Bool
exact_at n d = eq (mul binary32 (ratio_of d n) (of_int binary32 (pos n))) (of_int binary32 (pos d))

all-exact : up_to 9 (λ k. up_to (suc (2 ^ k)) (exact_at (2 ^ k))) ≡ true
unfolding up_to ratio_of mul div of_int eq
all-exact = refl

-- for each power of two up to 256
pub exact-power : (k d : ℕ) → k ≤ 8 → d ≤ 2 ^ k → exact_at (2 ^ k) d ≡ true
exact-power k d l h = at (suc (2 ^ k)) (exact_at (2 ^ k)) (at 9 (λ j. up_to (suc (2 ^ j)) (exact_at (2 ^ j))) all-exact k (omega arith)) d (omega arith)

-- ---- which units have a distance

-- one of the main types that have a distance
abbrev pub Compared : MainType → Type 0
Compared m = (m ≡ Meta) ⊎ (m ≡ Semantic) ⊎ (m ≡ Content) ⊎ (m ≡ Data)

compared-of : (m : MainType) → has_distance m ≡ true → Compared m
compared-of Meta e = inl refl
compared-of Semantic e = inr (inl refl)
compared-of Content e = inr (inr (inl refl))
compared-of Data e = inr (inr (inr refl))
compared-of Instance e = absurd (false≢true e)
compared-of Iscc e = absurd (false≢true e)
compared-of Id e = absurd (false≢true e)

has-distance : (m : MainType) → Compared m → has_distance m ≡ true
has-distance m (inl e) = ap has_distance e
has-distance m (inr (inl e)) = ap has_distance e
has-distance m (inr (inr (inl e))) = ap has_distance e
has-distance m (inr (inr (inr e))) = ap has_distance e

pub record Comparable (i j : Item) : Type 0 where
  pub main_type : i.main_type ≡ j.main_type
  pub compared : Compared i.main_type
  pub subtype : i.subtype ≡ j.subtype

-- what `comparable` means
pub comparable-means : (i j : Item) → (comparable i j ≡ true) ↔ Comparable i j
unfolding comparable
comparable-means i j = (there, back)
  where
    there : comparable i j ≡ true → Comparable i j
    there e =
        let p = both_true (same_type i.main_type j.main_type && has_distance i.main_type) (eqb i.subtype j.subtype) e in
        let q = both_true (same_type i.main_type j.main_type) (has_distance i.main_type) p.0 in
        record {
          main_type = same_type-eq i.main_type j.main_type q.0;
          compared = compared-of i.main_type q.1;
          subtype = eqb-true i.subtype j.subtype p.1;
        }

    back : Comparable i j → comparable i j ≡ true
    back c =
        rw (eq-eqb (number i.main_type) (number j.main_type) (ap number c.main_type), has-distance i.main_type c.compared, eq-eqb i.subtype j.subtype c.subtype)

-- ---- n is at most 256

-- a body of META, SEMANTIC, CONTENT or DATA is at most 32 bytes
body-32 : (m : MainType) (s v l : ℕ) → Compared m → permits m s v l ≡ true → body_bytes m s l ≤ 32
unfolding body_bytes
body-32 m s v l (inl e) p = let h : Small s v l = small m s v l p in rw e (omega arith)
body-32 m s v l (inr (inl e)) p = let h : Small s v l = small m s v l p in rw e (omega arith)
body-32 m s v l (inr (inr (inl e))) p = let h : Small s v l = small m s v l p in rw e (omega arith)
body-32 m s v l (inr (inr (inr e))) p = let h : Small s v l = small m s v l p in rw e (omega arith)

-- the one item has the table's header and body
pub record OneSized (i : Item) : Type 0 where
  pub permitted : permits i.main_type i.subtype i.version i.length_number ≡ true
  pub sized : length i.body ≡ body_bytes i.main_type i.subtype i.length_number

pub one-sized : (bs : List ℕ) (i : Item) → read_one bs ≡ accept i → OneSized i
unfolding read_one
one-sized bs i e =
    let r = answered (read_item bs) _ e in
    let p = passed (leb (length bs) r.0.used) _ (accept r.0.result) r.2 in
    subst OneSized (accept-inj p.1)
    (behind-header bs (λ g. OneSized g.result) (λ h m b. record { permitted = b.permitted; sized = b.sized }) r.0 r.1)

-- what every distance has
pub record Bounded (r : Distance) : Type 0 where
  pub apart : r.d ≤ r.n
  pub most : r.n ≤ 256
  pub ratio : r.ratio ≡ ratio_of r.d r.n

pub bounded : (x y : List ℕ) (r : Distance) → distance x y ≡ accept r → Bounded r
unfolding distance compared_bits
bounded x y r e =
    let a = answered (read_one x) _ e in
    let b = answered (read_one y) _ a.2 in
    let p = passed (comparable a.0 b.0) _ _ b.2 in
    let i : Item = a.0 in
    let c : Comparable i b.0 = (comparable-means i b.0).0 p.0 in
    let o : OneSized i = one-sized x i a.1 in
    let l : length i.body ≤ 32 = le_trans (le_of_eq o.sized) (body-32 i.main_type i.subtype i.version i.length_number c.compared o.permitted) in
    subst Bounded (accept-inj p.1) (record { apart = apart-most i.body b.0.body; most = omega arith; ratio = refl })

-- n, by the bodies that were read
pub shorter-bits : (x y : List ℕ) (i j : Item) (r : Distance) → read_one x ≡ accept i → read_one y ≡ accept j → distance x y ≡ accept r → r.n ≡ compared_bits i.body j.body
unfolding distance
shorter-bits x y i j r f g e =
    let p = passed (comparable i j) _ _ (rw (f, g) at e) in
    ap (λ (s : Distance). s.n) (sym (accept-inj p.1))
