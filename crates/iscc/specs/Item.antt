-- One item, a unit or a composite, as bytes: a permitted header and then the body.
use Rattle.std.specs.Prelude.{ℕ, ◌+◌, ◌-◌, ◌/◌, cond, ◌&&◌, length, take, drop, leb}
use mathlib.Core.List.{List, ◌++◌, flatten}
use Rattle.iscc.specs.Answer.{Answer, accept, ◌>>=◌, ◌>>◌, ◌otherwise◌, into}
use Rattle.iscc.specs.Refusals.{not_permitted, short_body, bytes_left_over}
use Rattle.iscc.specs.Varnibble.{Parsed}
use Rattle.iscc.specs.Header.{Header, header_with_numbers, header_bytes, read_header}
use Rattle.iscc.specs.Permitted.{MainType, number, main_type_of, is_unit, Set, set_of, set_length_number, unit_count, is_wide, permits, body_bytes}
use Rattle.iscc.specs.declared.main_type.Name.TheVariants.{Meta, Semantic, Content, Data, Instance, Iscc, Id}
use Rattle.iscc.specs.Lists.{cut}
use Rattle.iscc.specs.Meaning.{Meaning, unit, composite, wide}

pub record Item : Type 0 where
  pub main_type : MainType
  pub subtype : ℕ
  pub version : ℕ
  pub length_number : ℕ
  pub body : List ℕ

abbrev pub header_of : Item → Header
header_of i = header_with_numbers (number i.main_type) i.subtype i.version i.length_number

-- the item of a header, with the name of its main type
abbrev pub item_with : MainType → Header → List ℕ → Item
item_with m h body = record { main_type = m; subtype = h.subtype; version = h.version; length_number = h.length_number; body = body }

unfoldable pub item_bytes : Item → List ℕ
item_bytes i = header_bytes (header_of i) ++ i.body

-- The reader of one unit or composite: 7, 8, 9, else the item and the bytes used. What follows is not its concern.
unfoldable pub read_item : List ℕ → Answer (Parsed Item)
read_item bs = do
  h ← read_header bs
  m ← main_type_of h.result.main_type
  permits m h.result.subtype h.result.version h.result.length_number otherwise not_permitted
  leb (h.used + body_bytes m h.result.subtype h.result.length_number) (length bs) otherwise short_body
  accept
      (record {
        result = item_with m h.result (take (body_bytes m h.result.subtype h.result.length_number) (drop h.used bs));
        used = h.used + body_bytes m h.result.subtype h.result.length_number;
      })

-- exactly one: 7, 8, 9, then 19
unfoldable pub read_one : List ℕ → Answer Item
read_one bs = do
  g ← read_item bs
  leb (length bs) g.used otherwise bytes_left_over
  accept g.result

-- The unit writer: 8 (a composite is not a unit), then 9 (a longer body is cut), then 15.
unfoldable pub unit_bytes : Header → List ℕ → Answer (List ℕ)
unit_bytes h body = do
  m ← main_type_of h.main_type
  (is_unit m && permits m h.subtype h.version h.length_number) otherwise not_permitted
  leb (body_bytes m h.subtype h.length_number) (length body) otherwise short_body
  accept (header_bytes h ++ take (body_bytes m h.subtype h.length_number) body)

abbrev pub write_unit : Header → List ℕ → ℕ → Answer (List ℕ)
write_unit h body area = into area (unit_bytes h body)

-- ---- an item's meaning

-- a composite's body holds the bodies of the units in it, eight bytes each, in the order META, SEMANTIC, CONTENT, DATA, INSTANCE
unfoldable pub composite_of : ℕ → ℕ → Set → List ℕ → Meaning
composite_of s v units body = composite s v units (cut 8 (unit_count units) body)

-- a wide composite's body holds that of DATA and then that of INSTANCE, sixteen bytes each
unfoldable pub wide_of : ℕ → ℕ → List ℕ → Meaning
wide_of s v body = wide s v (take 16 body) (drop 16 body)

unfoldable pub meaning_as : MainType → ℕ → ℕ → ℕ → List ℕ → Meaning
meaning_as Meta s v l body = unit Meta s v body
meaning_as Semantic s v l body = unit Semantic s v body
meaning_as Content s v l body = unit Content s v body
meaning_as Data s v l body = unit Data s v body
meaning_as Instance s v l body = unit Instance s v body
meaning_as Iscc s v l body = cond (is_wide s l) (wide_of s v body) (composite_of s v (set_of l) body)
meaning_as Id s v l body = unit Id s v body

abbrev pub meaning_of : Item → Meaning
meaning_of i = meaning_as i.main_type i.subtype i.version i.length_number i.body

-- ---- the one item that has a meaning

-- the length number of a unit's body of n bytes
unfoldable pub unit_length_number : MainType → ℕ → ℕ
unit_length_number Meta n = n / 4 - 1
unit_length_number Semantic n = n / 4 - 1
unit_length_number Content n = n / 4 - 1
unit_length_number Data n = n / 4 - 1
unit_length_number Instance n = n / 4 - 1
unit_length_number Iscc n = 0
unit_length_number Id n = n - 8

unfoldable pub item_of : Meaning → Item
item_of (unit m s v body) =
    record { main_type = m; subtype = s; version = v; length_number = unit_length_number m (length body); body = body }
item_of (composite s v units bodies) =
    record { main_type = Iscc; subtype = s; version = v; length_number = set_length_number units; body = flatten bodies }
item_of (wide s v da ins) =
    record { main_type = Iscc; subtype = s; version = v; length_number = 0; body = da ++ ins }
