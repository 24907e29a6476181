-- The one code that items laid end to end mean.
use Rattle.iscc.specs.Detailed.{with_detail}
use Rattle.std.specs.Prelude.{Ok, Err}
use Rattle.std.specs.Prelude.{ℕ, List, length}
use Rattle.iscc.specs.Answer.{Answer, accept, refuse, into, ◌>>=◌}
use Rattle.iscc.specs.Item.{Item, item_bytes, item_of}
use Rattle.iscc.specs.Items.{read_items, meaning_of_items}
use Rattle.units.specs.Reading.{refused_index}
use Rattle.units.specs.Verdict.{verdict_detail}
use Rattle.iscc.specs.declared.refusal.DetailedRefusal.{DetailedRefusal}
use Rattle.std.specs.Prelude.{Result}

unfoldable pub canonical_bytes : List ℕ → Answer (List ℕ)
canonical_bytes bs = do
  is ← read_items bs
  m ← meaning_of_items is
  accept (item_bytes (item_of m))

-- the detail of a refusal: the index of the item that is not read, or what the list's verdict tells
abbrev pub detail_by : ℕ → Answer (List Item) → ℕ
detail_by k (accept is) = verdict_detail is
detail_by k (refuse q) = k

unfoldable pub detail_of : List ℕ → ℕ
detail_of bs = detail_by (refused_index bs) (read_items bs)

-- how many bytes were written, or the refusal with its detail
abbrev pub Coded : Type 0
Coded = Result ℕ DetailedRefusal

-- how the code tells of bytes that it wrote to an area of so many bytes: 15 has no detail
abbrev pub coded_as : ℕ → Answer (List ℕ) → Coded
coded_as k (accept bs) = Ok (length bs)
coded_as k (refuse q) = Err (with_detail k q)

abbrev pub coded_into : ℕ → ℕ → Answer (List ℕ) → Coded
coded_into area k (accept bs) = coded_as 0 (into area (accept bs))
coded_into area k (refuse q) = Err (with_detail k q)
