-- The specification, "Numbers of refusal and their order": the tests of each call, in their order. `Exactly` says what is made of them.
use Rattle.std.specs.Prelude.{ℕ, zero, suc, ◌+◌, ◌%◌, ◌^◌, Bool, true, cond, ◌&&◌, ◌||◌, List, [], ◌∷◌, ◌++◌, map, length, get_or, take, drop, eqb, leb, ltb}
use Rattle.iscc.specs.Refusals.{empty_text, long_text, long_run, bad_character, bad_count, spare_bits, bad_header, not_permitted, short_body, not_joinable, not_64_bits, main_type_twice, lacks_data_or_instance, subtypes_differ, area_too_short, other_text, number_too_large, no_distance, bytes_left_over}
use Rattle.iscc.specs.Answer.{Answer, accept, refuse}
use Rattle.iscc.specs.Lists.{every, same_bytes}
use Rattle.iscc.specs.Digits.{value, spare_count}
use Rattle.iscc.specs.Alphabet.{Alphabet, digit_in, is_digit, encode, decode}
use Rattle.iscc.specs.Base32.{base32}
use Rattle.iscc.specs.Varnibble.{Parsed, row_by}
use Rattle.iscc.specs.Header.{Header, nibbles, raw_header, read_header}
use Rattle.iscc.specs.Permitted.{number, is_unit, type_of, permits, body_bytes}
use Rattle.iscc.specs.declared.main_type.Name.TheVariants.{Data, Instance, Iscc}
use Rattle.iscc.specs.Item.{Item, read_item, read_one, unit_bytes}
use Rattle.iscc.specs.Items.{same_type, joinable, is_64_bits, other_type, shared_subtype, has, read_items, joined_bytes, split_bytes}
use Rattle.iscc.specs.Doors.{cleaned, payload, meaning_of_text, text_of}
use Rattle.iscc.specs.Distance.{comparable}
use Rattle.iscc.specs.Exactly.{Rule, rule, once, head_holds, RuleOn, rule_on, in_turn, together, where_accepted, after}

-- ---- a text: 2, 1, 3, 4 at each character, 5, 6

unfoldable pub digit_stages : Alphabet → List ℕ → List (List Rule)
digit_stages a cs =
    rule bad_character (λ j. head_holds (is_digit a) (drop j cs))
    ∷ once bad_count (ltb (spare_count a.bits (length (map (digit_in a) cs))) a.bits)
    ∷ once spare_bits (eqb (value a.bits (map (digit_in a) cs) % 2 ^ spare_count a.bits (length (map (digit_in a) cs))) 0)
    ∷ []

unfoldable pub run_stages : Alphabet → ℕ → List ℕ → List (List Rule)
run_stages a most cs = once empty_text (ltb 0 (length cs)) ∷ once long_run (leb (length cs) most) ∷ digit_stages a cs

unfoldable pub text_stages : List ℕ → List (List Rule)
text_stages t = once long_text (leb (length t) 1024) ∷ run_stages base32 80 (cleaned t)

-- ---- a header: 7, "a header is cut, has a varnibble that starts with 1111, or a pad nibble that is not zero"

-- the nibble at which varnibble j starts: behind the one before it, which is as long as its own first nibble says
unfoldable pub varnibble_start : List ℕ → ℕ → ℕ
varnibble_start ns zero = 0
varnibble_start ns (suc j) = varnibble_start ns j + row_by (get_or ns (varnibble_start ns j) 0)

-- not cut: all nibbles of the four varnibbles are there
unfoldable pub header_whole : List ℕ → Bool
header_whole bs = leb (varnibble_start (nibbles bs) 4) (length (nibbles bs))

-- none of the four varnibbles starts with 1111
unfoldable pub prefixes_mean : List ℕ → Bool
prefixes_mean bs = every (λ j. ltb (get_or (nibbles bs) (varnibble_start (nibbles bs) j) 0) 0b1111) (0 ∷ 1 ∷ 2 ∷ 3 ∷ [])

-- their nibbles are even in number, or the pad nibble behind them is zero
unfoldable pub pad_is_zero : List ℕ → Bool
pad_is_zero bs = eqb (varnibble_start (nibbles bs) 4 % 2) 0 || eqb (get_or (nibbles bs) (varnibble_start (nibbles bs) 4) 0) 0

abbrev pub header_rules : List (RuleOn (List ℕ))
header_rules = rule_on bad_header header_whole ∷ rule_on bad_header prefixes_mean ∷ rule_on bad_header pad_is_zero ∷ []

-- ---- an item: 7, 8, 9

abbrev pub header_permitted : List ℕ → Bool
header_permitted bs =
    after (read_header bs)
    (λ h. ltb h.result.main_type 7 && permits (type_of h.result.main_type) h.result.subtype h.result.version h.result.length_number)

abbrev pub body_there : List ℕ → Bool
body_there bs =
    after (read_header bs)
    (λ h. leb (h.used + body_bytes (type_of h.result.main_type) h.result.subtype h.result.length_number) (length bs))

abbrev pub item_rules : List (RuleOn (List ℕ))
item_rules = header_rules ++ (rule_on not_permitted header_permitted ∷ rule_on short_body body_there ∷ [])

-- items from the left: a test on the bytes from item j on; it holds where no such item is reached
abbrev pub on_next : (List ℕ → Bool) → List ℕ → Answer (Parsed Item) → Bool
on_next p bs (accept g) = cond (leb (length bs) g.used) true (p (drop g.used bs))
on_next p bs (refuse q) = true

unfoldable pub item_test : (List ℕ → Bool) → List ℕ → ℕ → Bool
item_test p bs zero = p bs
item_test p bs (suc j) = on_next (λ cs. item_test p cs j) bs (read_item bs)

-- all rules of one item before the next
abbrev pub item_stage : List ℕ → List Rule
item_stage bs = together (λ p. item_test p bs) item_rules

-- ---- a list of two or more: 10, 11, 12 and 14 at an item, 13 at a main type's number

abbrev pub item_at : (Item → Bool) → List Item → ℕ → Bool
item_at p is j = head_holds p (drop j is)

-- the item at position j goes with each before it
abbrev pub clear_at : (Item → Item → Bool) → List Item → ℕ → Bool
clear_at r is j = head_holds (λ x. every (λ e. r e x) (take j is)) (drop j is)

abbrev pub present : Bool → Bool → ℕ → Bool
present da ins m = cond (eqb m (number Data)) da (cond (eqb m (number Instance)) ins true)

unfoldable pub list_stages : List Item → List (List Rule)
list_stages is =
    rule not_joinable (item_at joinable is)
    ∷ rule not_64_bits (item_at is_64_bits is)
    ∷ rule main_type_twice (clear_at other_type is)
    ∷ rule lacks_data_or_instance (present (has Data is) (has Instance is))
    ∷ rule subtypes_differ (clear_at shared_subtype is)
    ∷ []

unfoldable pub meaning_stages : List Item → List (List Rule)
meaning_stages [] = []
meaning_stages (i ∷ []) = []
meaning_stages (i ∷ j ∷ is) = list_stages (i ∷ j ∷ is)

-- ---- an area: 15 where it is shorter than what is to be written

abbrev pub area_stages : ℕ → Answer (List ℕ) → List (List Rule)
area_stages area x = where_accepted x (λ out. once area_too_short (leb (length out) area) ∷ [])

-- ---- the calls, each with the tests of its part of the section

-- both doors: "2, 1, 3, 4, 5, 6; then 7, 8, 9 for each item from the left; then, for a list, 10 to 14"
unfoldable pub door_stages : List ℕ → List (List Rule)
door_stages t = text_stages t ++ where_accepted (payload t) (λ bs. item_stage bs ∷ where_accepted (read_items bs) meaning_stages)

-- intake: "15 if the area is below 73 bytes, whatever the text", then as above
unfoldable pub intake_stages : List ℕ → ℕ → List (List Rule)
intake_stages t area = once area_too_short (leb 73 area) ∷ door_stages t

-- the strict door: "2, 1, 3, 4, 5, 6, then 7 to 14 as intake does, then 16"
unfoldable pub strict_stages : List ℕ → List (List Rule)
strict_stages t = door_stages t ++ where_accepted (meaning_of_text t) (λ m. once other_text (same_bytes (text_of m) t) ∷ [])

-- the reader of one unit: "7, 8, 9. No byte at all is 7."
unfoldable pub unit_stages : List ℕ → List (List Rule)
unit_stages bs = in_turn item_rules bs

-- the raw header reader: "7. No byte at all is 7."
unfoldable pub header_stages : List ℕ → List (List Rule)
header_stages bs = in_turn header_rules bs

-- the base32 reader: "4, 5, 6, then 15 if the area is shorter than the bytes"
unfoldable pub read_stages : Alphabet → List ℕ → ℕ → List (List Rule)
read_stages a t area = digit_stages a t ++ area_stages area (decode a t)

-- the base32 writer: "15 if the area is shorter than the text"
unfoldable pub write_stages : Alphabet → List ℕ → ℕ → List (List Rule)
write_stages a bs area = area_stages area (accept (encode a bs))

-- the unit writer: "8 if the table does not permit the header or if it is a composite's; 9 if the body area is shorter than the
-- header says; 15 if the output area is shorter than the unit"
unfoldable pub write_unit_stages : Header → List ℕ → ℕ → List (List Rule)
write_unit_stages h body area =
    once not_permitted
    (ltb h.main_type 7 && (is_unit (type_of h.main_type) && permits (type_of h.main_type) h.subtype h.version h.length_number))
    ∷ once short_body (leb (body_bytes (type_of h.main_type) h.subtype h.length_number) (length body))
    ∷ area_stages area (unit_bytes h body)

-- the raw header writer: "17 if any of the four is above 4679; then 15 if the area is shorter than the header"
unfoldable pub write_header_stages : Header → ℕ → List (List Rule)
write_header_stages h area =
    rule number_too_large (λ j. head_holds (λ n. leb n 4679) (drop j (h.main_type ∷ h.subtype ∷ h.version ∷ h.length_number ∷ [])))
    ∷ area_stages area (raw_header h)

-- join: "7, 8, 9 for each item from the left; for one item alone 10 if it is a composite or an ID, else 13, whatever its length;
-- for a list 10 to 14; then 15 if the area is shorter than the composite"
unfoldable pub join_stages : List Item → List (List Rule)
join_stages [] = []
join_stages (i ∷ []) =
    rule not_joinable (item_at joinable (i ∷ []))
    ∷ rule lacks_data_or_instance (present (has Data (i ∷ [])) (has Instance (i ∷ [])))
    ∷ []
join_stages (i ∷ j ∷ is) = list_stages (i ∷ j ∷ is)

unfoldable pub join_all_stages : List ℕ → ℕ → List (List Rule)
join_all_stages bs area = (item_stage bs ∷ where_accepted (read_items bs) join_stages) ++ area_stages area (joined_bytes bs)

-- the reader of exactly one: "7, 8, 9, then 19 if bytes are left over behind the item"
unfoldable pub one_stages : List ℕ → List (List Rule)
one_stages bs = unit_stages bs ++ where_accepted (read_item bs) (λ g. once bytes_left_over (leb (length bs) g.used) ∷ [])

-- split: "7, 8, 9, 19; then 8 for anything but a composite; then 15 if the area is shorter than the units"
unfoldable pub split_stages : List ℕ → ℕ → List (List Rule)
split_stages bs area =
    (one_stages bs ++ where_accepted (read_one bs) (λ i. once not_permitted (same_type i.main_type Iscc) ∷ []))
    ++ area_stages area (split_bytes bs)

-- the distance: "7, 8, 9, 19 on the first; the same on the second; then 18"
unfoldable pub distance_stages : List ℕ → List ℕ → List (List Rule)
distance_stages x y =
    one_stages x
    ++ where_accepted (read_one x) (λ i. one_stages y ++ where_accepted (read_one y) (λ j. once no_distance (comparable i j) ∷ []))

-- the code of a text: "15 if the area is below 42 bytes, whatever the text; then 2, 1, 3 to 14 as intake"
unfoldable pub read_code_stages : List ℕ → ℕ → List (List Rule)
read_code_stages t area = once area_too_short (leb 42 area) ∷ door_stages t

-- the text of a code: "15 if the area is below 73 bytes, whatever the bytes; then 7, 8, 9, 19"
unfoldable pub write_text_stages : List ℕ → ℕ → List (List Rule)
write_text_stages bs area = once area_too_short (leb 73 area) ∷ one_stages bs
