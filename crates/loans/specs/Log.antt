-- A log: "records, one behind the other, from byte 0 on". The whole ones from the left, and where a tear is.
use Rattle.std.specs.Prelude.{ℕ, zero, suc, ◌+◌, cond, List, [], ◌∷◌, length, drop}
use Rattle.std.proofs.Math.Option.{Option, none, some}
use Rattle.loans.specs.Fields.{Field, first_size, first_is_whole, first_field}

-- a whole record, and the offset where it starts
pub record Record : Type 0 where
  pub offset : ℕ
  pub field : Field

pub record Records : Type 0 where
  pub whole : List Record
  pub tear : Option ℕ

abbrev pub with_record : Record → Records → Records
with_record r rs = record { whole = r ∷ rs.whole; tear = rs.tear }

-- "A last record that is not whole is a tear, whatever its tag."; "A cut between records is no tear."
abbrev pub tear_at : ℕ → List ℕ → Option ℕ
tear_at offset [] = none
tear_at offset (b ∷ bs) = some offset

-- the count bounds the records: each has three bytes or more
unfoldable pub records_up_to : ℕ → ℕ → List ℕ → Records
records_up_to zero offset bs = record { whole = []; tear = tear_at offset bs }
records_up_to (suc n) offset bs =
    let more : Records = records_up_to n (offset + first_size bs) (drop (first_size bs) bs) in
    cond (first_is_whole bs) (with_record (record { offset = offset; field = first_field bs }) more) (record { whole = []; tear = tear_at offset bs })

-- the records of bytes that start at an offset
unfoldable pub records_from : ℕ → List ℕ → Records
records_from offset bs = records_up_to (length bs) offset bs

-- fields laid end to end, from an offset on
abbrev pub laid : ℕ → List Field → List Record
laid offset [] = []
laid offset (f ∷ fs) = record { offset = offset; field = f } ∷ laid (offset + (3 + length f.body)) fs
