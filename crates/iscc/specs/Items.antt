-- Items laid end to end: read from the left until no byte remains; joined to one composite; split from one.
use Rattle.iscc.specs.Lists.{every, pairwise}
use Rattle.std.specs.Prelude.{ℕ, zero, suc, Bool, true, false, cond, not, ◌&&◌, ◌||◌, length, drop, eqb, leb}
use Rattle.std.proofs.Math.Option.{Option, none, some}
use mathlib.Core.List.{List, [], ◌∷◌, ◌++◌, map, zip_with}
use Rattle.iscc.specs.Answer.{Answer, accept, refuse, ◌>>=◌, ◌>>◌, ◌otherwise◌, into}
use Rattle.iscc.specs.Refusals.{bad_header, not_permitted, not_joinable, not_64_bits, main_type_twice, lacks_data_or_instance, subtypes_differ}
use Rattle.iscc.specs.Permitted.{MainType, number, Set, unit_types}
use Rattle.iscc.specs.declared.main_type.Name.TheVariants.{Meta, Semantic, Content, Data, Instance, Iscc, Id}
use Rattle.iscc.specs.Meaning.{Meaning, unit, composite, wide}
use Rattle.iscc.specs.Item.{Item, item_bytes, item_of, read_item, read_one, meaning_of}

-- ---- reading a list: 7, 8, 9 for each item from the left, all of one item before the next. No bytes are 7.

-- the count n of items is a bound that the bytes' length keeps from running out
unfoldable pub read_up_to : ℕ → List ℕ → Answer (List Item)
read_up_to zero bs = refuse bad_header
read_up_to (suc n) bs = do
  g ← read_item bs
  cond (leb (length bs) g.used) (accept (g.result ∷ []))
      (read_up_to n (drop g.used bs) >>= λ is. accept (g.result ∷ is))

unfoldable pub read_items : List ℕ → Answer (List Item)
read_items bs = read_up_to (suc (length bs)) bs

-- ---- the tests of a list of two or more

abbrev pub same_type : MainType → MainType → Bool
same_type a b = eqb (number a) (number b)

-- 10: no composite, and no ID
abbrev pub joinable : Item → Bool
joinable i = not (same_type i.main_type Iscc || same_type i.main_type Id)

-- 11: 64 bits
abbrev pub is_64_bits : Item → Bool
is_64_bits i = eqb (length i.body) 8

-- 12: no main type twice
abbrev pub other_type : Item → Item → Bool
other_type i j = not (same_type i.main_type j.main_type)

-- 14: SEMANTIC and CONTENT, where both are in, share their subtype
abbrev pub takes_subtype : MainType → Bool
takes_subtype m = same_type m Semantic || same_type m Content

abbrev pub has_subtype : Item → Bool
has_subtype i = takes_subtype i.main_type

abbrev pub shared_subtype : Item → Item → Bool
shared_subtype i j = not (has_subtype i && has_subtype j) || eqb i.subtype j.subtype

-- the body and the subtype of the first unit of a main type
unfoldable pub body_in : MainType → List Item → Option (List ℕ)
body_in m [] = none
body_in m (i ∷ is) = cond (same_type m i.main_type) (some i.body) (body_in m is)

unfoldable pub subtype_in : MainType → List Item → ℕ
subtype_in m [] = 0
subtype_in m (i ∷ is) = cond (same_type m i.main_type) i.subtype (subtype_in m is)

abbrev pub is_in : Option (List ℕ) → Bool
is_in none = false
is_in (some body) = true

abbrev pub bytes_in : Option (List ℕ) → List ℕ
bytes_in none = []
bytes_in (some body) = body

-- the main types in a list, and their bodies
abbrev pub has : MainType → List Item → Bool
has m is = is_in (body_in m is)

abbrev pub set_in : List Item → Set
set_in is = record { meta = has Meta is; semantic = has Semantic is; content = has Content is }

abbrev pub bodies_in : List MainType → List Item → List (List ℕ)
bodies_in ms is = map (λ m. bytes_in (body_in m is)) ms

-- the composite's subtype: 5 with neither, 6 with META alone, and otherwise what SEMANTIC and CONTENT share
unfoldable pub subtype_of : List Item → ℕ
subtype_of is =
    cond (has Semantic is) (subtype_in Semantic is)
    (cond (has Content is) (subtype_in Content is)
    (cond (has Meta is) 6 5))

-- the composite that a list makes: the main types in it as its units, and their bodies in the composite's order
unfoldable pub composite_from : List Item → Answer Meaning
composite_from is = do
  every joinable is otherwise not_joinable
  every is_64_bits is otherwise not_64_bits
  pairwise other_type is otherwise main_type_twice
  (has Data is && has Instance is) otherwise lacks_data_or_instance
  pairwise shared_subtype is otherwise subtypes_differ
  accept (composite (subtype_of is) 0 (set_in is) (bodies_in (unit_types (set_in is)) is))

-- ---- what a list of items means: one item itself, two or more the composite that they make

unfoldable pub meaning_of_items : List Item → Answer Meaning
meaning_of_items [] = refuse bad_header
meaning_of_items (i ∷ []) = accept (meaning_of i)
meaning_of_items (i ∷ j ∷ is) = composite_from (i ∷ j ∷ is)

-- ---- join: of one item 10 or 13, of more 10 to 14; then 15

unfoldable pub joined_meaning : List Item → Answer Meaning
joined_meaning [] = refuse bad_header
joined_meaning (i ∷ []) = do
  joinable i otherwise not_joinable
  refuse lacks_data_or_instance
joined_meaning (i ∷ j ∷ is) = composite_from (i ∷ j ∷ is)

unfoldable pub joined_bytes : List ℕ → Answer (List ℕ)
joined_bytes bs = do
  is ← read_items bs
  m ← joined_meaning is
  accept (item_bytes (item_of m))

abbrev pub join : List ℕ → ℕ → Answer (List ℕ)
join bs area = into area (joined_bytes bs)

-- ---- split: 7, 8, 9, 19, then 8 for anything but a composite, then 15

-- a unit of 64 bits
abbrev pub unit64 : MainType → ℕ → List ℕ → Item
unit64 m s body = record { main_type = m; subtype = s; version = 0; length_number = 1; body = body }

-- and one of 128, as a wide composite has
abbrev pub unit128 : MainType → List ℕ → Item
unit128 m body = record { main_type = m; subtype = 0; version = 0; length_number = 3; body = body }

-- SEMANTIC and CONTENT take the composite's subtype, and the others 0
abbrev pub unit_with : ℕ → MainType → List ℕ → Item
unit_with s m body = unit64 m (cond (takes_subtype m) s 0) body

unfoldable pub units_of : Meaning → Answer (List Item)
units_of (unit m s v body) = refuse not_permitted
units_of (composite s v units bodies) = accept (zip_with (unit_with s) (unit_types units) bodies)
units_of (wide s v da ins) = accept (unit128 Data da ∷ unit128 Instance ins ∷ [])

unfoldable pub items_bytes : List Item → List ℕ
items_bytes [] = []
items_bytes (i ∷ is) = item_bytes i ++ items_bytes is

unfoldable pub split_bytes : List ℕ → Answer (List ℕ)
split_bytes bs = do
  i ← read_one bs
  is ← units_of (meaning_of i)
  accept (items_bytes is)

abbrev pub split : List ℕ → ℕ → Answer (List ℕ)
split bs area = into area (split_bytes bs)
