-- Every refusal that a call's definition gives bears a number of the table, 1 to 19, and so never 0: its tests say so, in which
-- no other number stands. A call that tells 0 has accepted, and the length that it tells is the length written.
use Rattle.iscc.specs.Refusals.{refusal_number}
use Prim.Native.Nat.{ℕ, ◌≤◌}
use mathlib.Core.Path.{◌≡◌, refl, sym, ◌∙◌, ap}
use mathlib.Core.Logic.{◌↔◌, inl, inr}
use mathlib.Core.Bool.{Bool, true, ◌&&◌}
use mathlib.Core.List.{List, [], ◌∷◌, ◌++◌}
use native.Mathlib.Omega.{arith}
use lib.Dec.{leb}
use borrow.Author.Tests.{leb-true}
use Rattle.iscc.specs.Refusals.{Refusal, not_permitted}
use Rattle.iscc.specs.Answer.{Answer, accept, refuse, Accepted, number_of, written}
use Rattle.iscc.specs.Lists.{every}
use Rattle.iscc.specs.Digits.{Below}
use Rattle.iscc.specs.Alphabet.{encode, decode}
use Rattle.iscc.specs.Base32.{base32, read_base32, write_base32}
use Rattle.iscc.specs.Header.{Header, raw_header, write_header, read_header}
use Rattle.iscc.specs.declared.main_type.Name.TheVariants.{Iscc}
use Rattle.iscc.specs.Item.{Item, read_item, read_one, unit_bytes, write_unit}
use Rattle.iscc.specs.Items.{same_type, read_items, joined_bytes, split_bytes, join, split}
use Rattle.iscc.specs.Doors.{payload, meaning_of_text, read_code, write_text, intake, strict}
use Rattle.iscc.specs.Distance.{distance}
use Rattle.iscc.specs.Exactly.{Rule, BrokenAt, First, once, where_accepted}
use Rattle.iscc.specs.RefusalOrder.{digit_stages, run_stages, text_stages, list_stages, meaning_stages, area_stages, door_stages, intake_stages, strict_stages, read_stages, join_stages, join_all_stages, write_stages, header_stages, write_header_stages, unit_stages, one_stages, write_unit_stages, split_stages, distance_stages, read_code_stages, write_text_stages}
use Rattle.iscc.specs.Representation.{written_as, outcome_as}
use Rattle.iscc.proofs.Booleans.{both_true}
use Rattle.iscc.proofs.Steps.{By}
use Rattle.iscc.proofs.HeaderTests.{header-by}
use Rattle.iscc.proofs.ItemTests.{unit-by, one-by}
use Rattle.iscc.proofs.CallTests.{read_by, write-by, header-write-by, unit-write-by, join_by, split_by, distance-by, intake-by, strict-by, read-code-by, write-text-by}

abbrev in_table : ℕ → Bool
in_table n = leb 1 n && leb n 19

-- an answer that refuses with the numbers of the table alone
pub record Numbered {A : Type 0} (x : Answer A) : Type 0 where
  pub refused : (q : Refusal) → x ≡ refuse q → in_table (refusal_number q) ≡ true

-- ---- by the tests

abbrev of_table : List (List Rule) → Bool
of_table ss = every (every (λ (r : Rule). in_table r.number)) ss

broken-numbered : (rs : List Rule) (n k : ℕ) → every (λ (r : Rule). in_table r.number) rs ≡ true → BrokenAt rs n k → in_table n ≡ true
unfolding every
broken-numbered [] n k t b = absurd b
broken-numbered (r ∷ rs) n k t (inl b) = ap in_table (sym b.0) ∙ (both_true (in_table r.number) (every (λ (r : Rule). in_table r.number) rs) t).0
broken-numbered (r ∷ rs) n k t (inr b) = broken-numbered rs n k (both_true (in_table r.number) (every (λ (r : Rule). in_table r.number) rs) t).1 b.1

first-numbered : (ss : List (List Rule)) (n k : ℕ) → of_table ss ≡ true → First ss n k → in_table n ≡ true
unfolding every
first-numbered [] n k t f = absurd f
first-numbered (s ∷ ss) n k t (inl f) = broken-numbered s n k (both_true (every (λ (r : Rule). in_table r.number) s) (of_table ss) t).0 f.1
first-numbered (s ∷ ss) n k t (inr f) = first-numbered ss n k (both_true (every (λ (r : Rule). in_table r.number) s) (of_table ss) t).1 f.1

by_tests : {A : Type 0} (ss : List (List Rule)) (x : Answer A) → By ss x → of_table ss ≡ true → Numbered x
by_tests ss x y t = record { refused = λ q e. let f = y.refused q e in first-numbered ss (refusal_number q) f.0 t f.1 }

append-table : (ss rs : List (List Rule)) → of_table ss ≡ true → of_table rs ≡ true → of_table (ss ++ rs) ≡ true
unfolding every
append-table [] rs t u = u
append-table (s ∷ ss) rs t u =
    let h = both_true (every (λ (r : Rule). in_table r.number) s) (of_table ss) t in
    rw h.0 (append-table ss rs h.1 u)

where-table : {A : Type 0} (x : Answer A) (f : A → List (List Rule)) → ((a : A) → of_table (f a) ≡ true) → of_table (where_accepted x f) ≡ true
unfolding every
where-table (accept a) f h = h a
where-table (refuse q) f h = refl

area-table : (area : ℕ) (x : Answer (List ℕ)) → of_table (area_stages area x) ≡ true
unfolding every
area-table area x = where-table x _ (λ out. refl)

one_table : (bs : List ℕ) → of_table (one_stages bs) ≡ true
unfolding every one_stages unit_stages
one_table bs = where-table (read_item bs) _ (λ g. refl)

meaning-table : (is : List Item) → of_table (meaning_stages is) ≡ true
unfolding every meaning_stages list_stages
meaning-table [] = refl
meaning-table (i ∷ []) = refl
meaning-table (i ∷ j ∷ is) = refl

join-table : (is : List Item) → of_table (join_stages is) ≡ true
unfolding every join_stages list_stages
join-table [] = refl
join-table (i ∷ []) = refl
join-table (i ∷ j ∷ is) = refl

door-table : (t : List ℕ) → of_table (door_stages t) ≡ true
unfolding every door_stages text_stages run_stages digit_stages
door-table t = where-table (payload t) _ (λ bs. where-table (read_items bs) meaning_stages meaning-table)

-- ---- the calls

pub header-numbered : (bs : List ℕ) → Numbered (read_header bs)
unfolding every header_stages
header-numbered bs = by_tests (header_stages bs) (read_header bs) (header-by bs) refl

pub header-write-numbered : (h : Header) (area : ℕ) → Numbered (write_header h area)
unfolding every write_header_stages
header-write-numbered h area = by_tests (write_header_stages h area) (write_header h area) (header-write-by h area) (area-table area (raw_header h))

pub item-numbered : (bs : List ℕ) → Numbered (read_item bs)
unfolding every unit_stages
item-numbered bs = by_tests (unit_stages bs) (read_item bs) (unit-by bs) refl

pub one-numbered : (bs : List ℕ) → Numbered (read_one bs)
one-numbered bs = by_tests (one_stages bs) (read_one bs) (one-by bs) (one_table bs)

pub unit-write-numbered : (h : Header) (body : List ℕ) (area : ℕ) → Numbered (write_unit h body area)
unfolding every write_unit_stages
unit-write-numbered h body area =
    by_tests (write_unit_stages h body area) (write_unit h body area) (unit-write-by h body area) (area-table area (unit_bytes h body))

pub base32-read-numbered : (t : List ℕ) (area : ℕ) → Numbered (read_base32 t area)
unfolding every read_stages digit_stages
base32-read-numbered t area = by_tests (read_stages base32 t area) (read_base32 t area) (read_by t area) (area-table area (decode base32 t))

pub base32-write-numbered : (bs : List ℕ) (area : ℕ) → Numbered (write_base32 bs area)
unfolding every write_stages
base32-write-numbered bs area = by_tests (write_stages base32 bs area) (write_base32 bs area) (write-by bs area) (area-table area (accept (encode base32 bs)))

pub join-numbered : (bs : List ℕ) (area : ℕ) → Below 256 bs → Numbered (join bs area)
unfolding every join_all_stages
join-numbered bs area b =
    by_tests (join_all_stages bs area) (join bs area) (join_by bs area b)
    (append-table (where_accepted (read_items bs) join_stages) (area_stages area (joined_bytes bs)) (where-table (read_items bs) join_stages join-table) (area-table area (joined_bytes bs)))

pub split-numbered : (bs : List ℕ) (area : ℕ) → Numbered (split bs area)
unfolding every split_stages
split-numbered bs area =
    let f : Item → List (List Rule) = λ i. once not_permitted (same_type i.main_type Iscc) ∷ [] in
    by_tests (split_stages bs area) (split bs area) (split_by bs area)
    (append-table (one_stages bs ++ where_accepted (read_one bs) f) (area_stages area (split_bytes bs))
    (append-table (one_stages bs) (where_accepted (read_one bs) f) (one_table bs) (where-table (read_one bs) f (λ i. refl))) (area-table area (split_bytes bs)))

pub distance-numbered : (x y : List ℕ) → Numbered (distance x y)
unfolding distance_stages every
distance-numbered x y =
    by_tests (distance_stages x y) (distance x y) (distance-by x y)
    (append-table (one_stages x) _ (one_table x)
    (where-table (read_one x) _ (λ i. append-table (one_stages y) _ (one_table y) (where-table (read_one y) _ (λ j. refl)))))

pub intake-numbered : (t : List ℕ) (area : ℕ) → Numbered (intake t area)
unfolding every intake_stages
intake-numbered t area = by_tests (intake_stages t area) (intake t area) (intake-by t area) (door-table t)

pub strict-numbered : (t : List ℕ) → Numbered (strict t)
unfolding every strict_stages
strict-numbered t =
    by_tests (strict_stages t) (strict t) (strict-by t) (append-table (door_stages t) _ (door-table t) (where-table (meaning_of_text t) _ (λ m. refl)))

pub code-numbered : (t : List ℕ) (area : ℕ) → Numbered (read_code t area)
unfolding every read_code_stages
code-numbered t area = by_tests (read_code_stages t area) (read_code t area) (read-code-by t area) (door-table t)

pub text-numbered : (bs : List ℕ) (area : ℕ) → Numbered (write_text bs area)
unfolding every write_text_stages
text-numbered bs area = by_tests (write_text_stages bs area) (write_text bs area) (write-text-by bs area) (one_table bs)

-- ---- what is told

pub number-table : {A : Type 0} (x : Answer A) → Numbered x → (q : Refusal) → x ≡ refuse q → (1 ≤ (refusal_number q)) × ((refusal_number q) ≤ 19)
number-table x h q e =
    let t = both_true (leb 1 (refusal_number q)) (leb (refusal_number q) 19) (h.refused q e) in
    (leb-true 1 (refusal_number q) t.0, leb-true (refusal_number q) 19 t.1)

-- where no refusal has the number 0, the number is 0 exactly where the definition accepts
pub number-0 : {A : Type 0} (x : Answer A) → ((q : Refusal) → x ≡ refuse q → 1 ≤ (refusal_number q)) → (number_of x ≡ 0) ↔ Accepted x
number-0 (accept a) h = ((λ e. tt), λ t. refl)
number-0 (refuse q) h = ((λ e. absurd (omega (arith, h q refl, e))), λ t. absurd t)

-- a writer tells C its definition's number and the length written
pub outcome-number : (x : Answer (List ℕ)) → (outcome_as (written_as x)).number ≡ number_of x
outcome-number (accept out) = refl
outcome-number (refuse q) = refl

pub outcome-length : (x : Answer (List ℕ)) → (outcome_as (written_as x)).length ≡ written x
outcome-length (accept out) = refl
outcome-length (refuse q) = refl
