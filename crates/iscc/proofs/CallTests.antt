-- Each call answers as its tests say, in the order of RefusalOrder.antt.
use Prim.Native.Nat.{ℕ, ◌%◌, ◌^◌}
use mathlib.Core.Path.{◌≡◌, refl, sym, subst}
use mathlib.Core.Bool.{Bool, true, false, cond, ◌&&◌}
use mathlib.Core.List.{List, [], ◌∷◌, map}
use lib.ListN.{length}
use lib.Dec.{eqb, leb, ltb}
use Rattle.iscc.specs.Refusals.{empty_text, long_text, long_run, bad_character, bad_count, spare_bits, not_permitted, short_body, area_too_short, other_text, number_too_large, no_distance}
use Rattle.iscc.specs.Answer.{accept, ◌>>=◌}
use Rattle.iscc.specs.Lists.{every, same_bytes}
use Rattle.iscc.specs.Digits.{Below, from_digits, all_below, spare_count, value}
use Rattle.iscc.specs.Alphabet.{Alphabet, is_digit, digit_in, encode, decode}
use Rattle.iscc.specs.Base32.{base32, read_base32, write_base32}
use Rattle.iscc.specs.Varnibble.{varnibble, write_varnibble}
use Rattle.iscc.specs.Header.{Header, header_bytes, raw_header, write_header}
use Rattle.iscc.specs.Permitted.{MainType, type_of, main_type_of, is_unit, set_of, is_wide, permits, body_bytes}
use Rattle.iscc.specs.declared.main_type.Name.TheVariants.{Meta, Semantic, Content, Data, Instance, Iscc, Id}
use Rattle.iscc.specs.Item.{item_bytes, item_of, composite_of, wide_of, meaning_as, meaning_of, read_one, unit_bytes, write_unit}
use Rattle.iscc.specs.Items.{same_type, units_of, items_bytes, read_items, meaning_of_items, joined_meaning, joined_bytes, join, split_bytes, split}
use Rattle.iscc.specs.Doors.{cleaned, decode_run, payload, items_of_text, meaning_of_text, text_of, code_bytes, read_code, write_text, intake, strict}
use Rattle.iscc.specs.Distance.{comparable, distance}
use Rattle.iscc.specs.Exactly.{once, where_accepted}
use Rattle.iscc.specs.RefusalOrder.{digit_stages, run_stages, text_stages, item_stage, meaning_stages, door_stages, intake_stages, strict_stages, read_stages, write_stages, write_unit_stages, write_header_stages, join_stages, join_all_stages, one_stages, split_stages, distance_stages, read_code_stages, write_text_stages}
use Rattle.iscc.proofs.Answer.{bind_assoc, Tested, tests-join}
use Rattle.iscc.proofs.Doors.{payload-below}
use Rattle.iscc.proofs.Steps.{By, done, step-once, behind, made_of, into-by}
use Rattle.iscc.proofs.FirstBroken.{step-every}
use Rattle.iscc.proofs.ItemTests.{type-test, one-by, items-by, some-items}
use Rattle.iscc.proofs.ListTests.{meaning-by, joined_by}

-- ---- a text: 2, 1, 3, 4, 5, 6

below-is-every : (a : Alphabet) (xs : List ℕ) → all_below (2 ^ a.bits) (map (digit_in a) xs) ≡ every (is_digit a) xs
unfolding all_below every
below-is-every a [] = refl
below-is-every a (x ∷ xs) = rw (below-is-every a xs)

decode-by : (a : Alphabet) (t : List ℕ) → By (digit_stages a t) (decode a t)
unfolding decode digit_stages from_digits
decode-by a t =
    rw (below-is-every a t)
    (step-every bad_character _ _
    (step-once (ltb (spare_count a.bits (length (map (digit_in a) t))) a.bits) bad_count _ _
    (step-once (eqb (value a.bits (map (digit_in a) t) % 2 ^ spare_count a.bits (length (map (digit_in a) t))) 0) spare_bits _ _ (done _)))
    (is_digit a) t)

run_by : (a : Alphabet) (most : ℕ) (cs : List ℕ) → By (run_stages a most cs) (decode_run a most cs)
unfolding run_stages decode_run
run_by a most cs = step-once (ltb 0 (length cs)) empty_text _ _ (step-once (leb (length cs) most) long_run _ _ (decode-by a cs))

payload-by : (t : List ℕ) → By (text_stages t) (payload t)
unfolding text_stages payload
payload-by t = step-once (leb (length t) 1024) long_text _ _ (run_by base32 80 (cleaned t))

-- ---- the doors

pub door-by : (t : List ℕ) → By (door_stages t) (meaning_of_text t)
unfolding door_stages meaning_of_text items_of_text
door-by t =
    subst (By (door_stages t)) (sym (bind_assoc (payload t) read_items meaning_of_items))
    (behind (text_stages t) (payload t) _ _ (payload-by t)
    (λ bs e. behind (item_stage bs ∷ []) (read_items bs) meaning_of_items meaning_stages (items-by bs (payload-below t bs e))
    (λ is f. meaning-by is (some-items bs is f))))

pub intake-by : (t : List ℕ) (area : ℕ) → By (intake_stages t area) (intake t area)
unfolding intake_stages intake
intake-by t area = step-once (leb 73 area) area_too_short _ _ (made_of (door_stages t) (meaning_of_text t) text_of (door-by t))

pub strict-by : (t : List ℕ) → By (strict_stages t) (strict t)
unfolding strict_stages strict
strict-by t = behind (door_stages t) (meaning_of_text t) _ _ (door-by t) (λ m e. step-once (same_bytes (text_of m) t) other_text _ [] (done m))

-- ---- base32

pub read_by : (t : List ℕ) (area : ℕ) → By (read_stages base32 t area) (read_base32 t area)
unfolding read_stages
read_by t area = into-by (decode base32 t) area _ (decode-by base32 t)

pub write-by : (bs : List ℕ) (area : ℕ) → By (write_stages base32 bs area) (write_base32 bs area)
unfolding write_stages
write-by bs area = into-by (accept (encode base32 bs)) area [] (done (encode base32 bs))

-- ---- the unit writer

unit-bytes-by : (h : Header) (body : List ℕ)
    → By
    (once not_permitted (ltb h.main_type 7 && (is_unit (type_of h.main_type) && permits (type_of h.main_type) h.subtype h.version h.length_number))
    ∷ once short_body (leb (body_bytes (type_of h.main_type) h.subtype h.length_number) (length body))
    ∷ [])
    (unit_bytes h body)
unfolding unit_bytes main_type_of
unit-bytes-by h body =
    subst (By _)
    (sym (type-test (ltb h.main_type 7) not_permitted (type_of h.main_type)
    (λ m. is_unit m && permits m h.subtype h.version h.length_number) _))
    (step-once _ not_permitted _ _ (step-once _ short_body _ [] (done _)))

pub unit-write-by : (h : Header) (body : List ℕ) (area : ℕ) → By (write_unit_stages h body area) (write_unit h body area)
unfolding write_unit_stages
unit-write-by h body area = into-by (unit_bytes h body) area _ (unit-bytes-by h body)

-- ---- the header writer: 17 for any of the four numbers

number-test : (n : ℕ) → Tested (leb n 4679) number_too_large (varnibble n) (write_varnibble n)
unfolding write_varnibble
number-test n = record { is = refl }

numbers-test : (h : Header)
    → Tested (every (λ n. leb n 4679) (h.main_type ∷ h.subtype ∷ h.version ∷ h.length_number ∷ [])) number_too_large (header_bytes h) (raw_header h)
unfolding raw_header header_bytes every
numbers-test h =
    tests-join (write_varnibble h.main_type) _ (number-test h.main_type)
    (tests-join (write_varnibble h.subtype) _ (number-test h.subtype)
    (tests-join (write_varnibble h.version) _ (number-test h.version)
    (tests-join (write_varnibble h.length_number) _ (number-test h.length_number) (record { is = refl }))))

pub header-write-by : (h : Header) (area : ℕ) → By (write_header_stages h area) (write_header h area)
unfolding write_header_stages
header-write-by h area =
    into-by (raw_header h) area (_ ∷ [])
    (subst (By _) (sym (numbers-test h).is)
    (step-every number_too_large (accept (header_bytes h)) [] (done (header_bytes h)) (λ n. leb n 4679)
    (h.main_type ∷ h.subtype ∷ h.version ∷ h.length_number ∷ [])))

-- ---- join and split

all-by : (bs : List ℕ) → Below 256 bs → By (item_stage bs ∷ where_accepted (read_items bs) join_stages) (joined_bytes bs)
unfolding joined_bytes
all-by bs k =
    behind (item_stage bs ∷ []) (read_items bs) _ join_stages (items-by bs k)
    (λ is e. made_of (join_stages is) (joined_meaning is) (λ m. item_bytes (item_of m)) (joined_by is (some-items bs is e)))

pub join_by : (bs : List ℕ) (area : ℕ) → Below 256 bs → By (join_all_stages bs area) (join bs area)
unfolding join_all_stages
join_by bs area k = into-by (joined_bytes bs) area _ (all-by bs k)

not-composite : (m : MainType) (s v l : ℕ) (body : List ℕ)
    → By (once not_permitted (same_type m Iscc) ∷ []) (units_of (meaning_as m s v l body) >>= λ is. accept (items_bytes is))
unfolding meaning_as units_of composite_of wide_of
not-composite Meta s v l body = step-once false not_permitted (accept []) [] (done [])
not-composite Semantic s v l body = step-once false not_permitted (accept []) [] (done [])
not-composite Content s v l body = step-once false not_permitted (accept []) [] (done [])
not-composite Data s v l body = step-once false not_permitted (accept []) [] (done [])
not-composite Instance s v l body = step-once false not_permitted (accept []) [] (done [])
not-composite Iscc s v l body = go (is_wide s l)
  where
    go : (b : Bool) → By (once not_permitted true ∷ []) (units_of (cond b (wide_of s v body) (composite_of s v (set_of l) body)) >>= λ is. accept (items_bytes is))
    go true = step-once true not_permitted _ [] (done _)
    go false = step-once true not_permitted _ [] (done _)
not-composite Id s v l body = step-once false not_permitted (accept []) [] (done [])

pub split_by : (bs : List ℕ) (area : ℕ) → By (split_stages bs area) (split bs area)
unfolding split_stages split_bytes
split_by bs area =
    into-by (split_bytes bs) area _
    (behind (one_stages bs) (read_one bs) _ _ (one-by bs) (λ i e. not-composite i.main_type i.subtype i.version i.length_number i.body))

-- ---- the distance

pub distance-by : (x y : List ℕ) → By (distance_stages x y) (distance x y)
unfolding distance_stages distance
distance-by x y =
    behind (one_stages x) (read_one x) _ _ (one-by x)
    (λ i e. behind (one_stages y) (read_one y) _ _ (one-by y) (λ j f. step-once (comparable i j) no_distance _ [] (done _)))

-- ---- the code of a text, and the text of a code

pub read-code-by : (t : List ℕ) (area : ℕ) → By (read_code_stages t area) (read_code t area)
unfolding read_code_stages read_code code_bytes
read-code-by t area =
    step-once (leb 42 area) area_too_short _ _ (made_of (door_stages t) (meaning_of_text t) (λ m. item_bytes (item_of m)) (door-by t))

pub write-text-by : (bs : List ℕ) (area : ℕ) → By (write_text_stages bs area) (write_text bs area)
unfolding write_text_stages write_text
write-text-by bs area =
    step-once (leb 73 area) area_too_short _ _ (made_of (one_stages bs) (read_one bs) (λ i. text_of (meaning_of i)) (one-by bs))
