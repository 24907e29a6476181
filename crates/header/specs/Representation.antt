-- The code's types (src/) as representations of the definitions' values.
use Rattle.std.specs.Prelude.{Ok, Err}
use Rattle.iscc.specs.Refusals.{refusal_number}
use Rattle.std.specs.Prelude.{ℕ, cond, ltb, ◌+◌, ◌*◌, ◌^◌, ◌≤◌, ◌/◌, ◌%◌, Option, None, Some}
use Rattle.iscc.specs.Answer.{Answer, accept, refuse}
use Rattle.iscc.specs.Varnibble.{Parsed, first_of, prefix_of, row_by}
use Rattle.iscc.specs.Header as iscc
use Rattle.header.specs.declared.Header.{Header}
use Rattle.header.specs.declared.reader.RawHeader.{RawHeader}
use Rattle.std.specs.Prelude.{Result}
use Rattle.iscc.specs.Refusals.{Refusal}
use Rattle.header.specs.declared.reader.Number.{Number}
use Rattle.header.specs.declared.rows.Row.{Row}

abbrev pub HeaderRead : Type 0
HeaderRead = Result RawHeader Refusal

-- a header in the code is the four numbers
abbrev pub header_as : iscc.Header → Header
header_as h = record { main_type = h.main_type; subtype = h.subtype; version = h.version; length_number = h.length_number }

abbrev pub header_from : Header → iscc.Header
header_from h = record { main_type = h.main_type; subtype = h.subtype; version = h.version; length_number = h.length_number }

abbrev pub raw_header_as : Parsed iscc.Header → RawHeader
raw_header_as g = record { header = header_as g.result; used = g.used }

-- the answer of the raw header reader
abbrev pub header_read_as : Answer (Parsed iscc.Header) → HeaderRead
header_read_as (accept g) = Ok (raw_header_as g)
header_read_as (refuse q) = Err q

-- The specification's numbers for each case of a reader's answer: its number, the header's four numbers and the bytes used. A refusal
-- has its number, and zero for every other.
pub record Fields : Type 0 where
  pub number : ℕ
  pub main_type : ℕ
  pub subtype : ℕ
  pub version : ℕ
  pub length_number : ℕ
  pub used : ℕ

abbrev pub no_fields : ℕ → Fields
no_fields n = record { number = n; main_type = 0; subtype = 0; version = 0; length_number = 0; used = 0 }

-- a header, and the bytes used
abbrev pub fields_with : iscc.Header → ℕ → Fields
fields_with h n =
    record { number = 0; main_type = h.main_type; subtype = h.subtype; version = h.version; length_number = h.length_number; used = n }

abbrev pub header_fields : HeaderRead → Fields
header_fields (Ok h) = fields_with (header_from h.header) h.used
header_fields (Err q) = no_fields (refusal_number q)

-- the same of the definition's answer
unfoldable pub fields_of : Answer (Parsed iscc.Header) → Fields
fields_of (accept g) = fields_with g.result g.used
fields_of (refuse q) = no_fields (refusal_number q)

-- a row of the varnibble table by its count of nibbles
abbrev pub row_as : ℕ → Row
row_as k = record { width = k; first = first_of k; count = 2 ^ (3 * k); prefix = prefix_of k * 2 ^ (3 * k); size = 2 ^ (4 * k) }

-- the row of a first nibble; 1111 has none
abbrev pub row_for : ℕ → Option Row
row_for h = cond (ltb h 0b1111) (Some (row_as (row_by h))) None

pub record RowBounds (r : Row) : Type 0 where
  pub some : 1 ≤ r.width
  pub most : r.width ≤ 4
  pub numbers : 1 ≤ r.count
  pub last : r.first + r.count ≤ 4680
  pub room : r.prefix + r.count ≤ r.size
  pub largest : r.size ≤ 65536

-- a number that was read, if one was
abbrev pub number_as : Answer (Parsed ℕ) → Option Number
number_as (accept g) = Some (record { value = g.result; width = g.used })
number_as (refuse q) = None

-- a header of two bytes whose four nibbles are its numbers
abbrev pub short_header : ℕ → ℕ → RawHeader
short_header a b = record { header = record { main_type = a / 16; subtype = a % 16; version = b / 16; length_number = b % 16 }; used = 2 }
