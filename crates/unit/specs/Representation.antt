-- The code's types (src/) as representations of the definitions' values.
use Rattle.std.specs.Prelude.{Ok, Err}
use Rattle.iscc.specs.Refusals.{refusal_number}
use Rattle.std.specs.Prelude.{ℕ, ◌-◌, List, length}
use Rattle.iscc.specs.Answer.{Answer, accept, refuse}
use Rattle.iscc.specs.Varnibble.{Parsed}
use Rattle.iscc.specs.Header.{Header, header_with_numbers}
use Rattle.iscc.specs.Permitted.{number}
use Rattle.iscc.specs.Item.{Item, header_of}
use Rattle.iscc.specs.declared.main_type.MainType.{MainType}
use Rattle.header.specs.Representation.{Fields, no_fields, fields_with}
use Rattle.unit.specs.declared.reader.Unit as code
use Rattle.std.specs.Prelude.{Result}
use Rattle.iscc.specs.Refusals.{Refusal}

abbrev pub UnitRead : Type 0
UnitRead = Result code.Unit Refusal

-- the header of a unit to be written
abbrev pub header_with : MainType → ℕ → ℕ → ℕ → Header
header_with m s v l = header_with_numbers (number m) s v l

-- an item that was read, by where its body stands
abbrev pub unit_as : Parsed Item → code.Unit
unit_as g =
    record {
      main_type = g.result.main_type;
      subtype = g.result.subtype;
      version = g.result.version;
      length_number = g.result.length_number;
      start = g.used - length g.result.body;
      used = g.used;
    }

-- the answer of the reader of one unit
abbrev pub unit_read_as : Answer (Parsed Item) → UnitRead
unit_read_as (accept g) = Ok (unit_as g)
unit_read_as (refuse q) = Err q

-- the specification's numbers for each case of the readers' answers
abbrev pub unit_fields : UnitRead → Fields
unit_fields (Ok u) = fields_with (header_with u.main_type u.subtype u.version u.length_number) u.used
unit_fields (Err q) = no_fields (refusal_number q)

-- the same of the definition's answer
unfoldable pub item_fields_of : Answer (Parsed Item) → Fields
item_fields_of (accept g) = fields_with (header_of g.result) g.used
item_fields_of (refuse q) = no_fields (refusal_number q)

-- the answer of the reader of exactly one: it uses all the bytes
abbrev pub one_read_as : List ℕ → Answer Item → UnitRead
one_read_as bs (accept i) = Ok (unit_as (record { result = i; used = length bs }))
one_read_as bs (refuse q) = Err q
