-- The composite of a list that was read.
use Rattle.std.specs.Prelude.{ℕ, ◌≡◌, cond, List, is_some}
use Rattle.iscc.specs.Refusals.{Refusal, not_joinable, lacks_data_or_instance}
use Rattle.iscc.specs.Answer.{Answer, accept, ◌>>=◌}
use Rattle.iscc.specs.Item.{Item, item_bytes, item_of}
use Rattle.iscc.specs.Items.{read_items, composite_from}
use Rattle.units.specs.declared.summary.Summary.{Summary}
use Rattle.units.specs.Summary.{Summarizes}

-- the summary of the items that the bytes hold
pub record Listed (bs : List ℕ) (l : Summary) : Type 0 where
  pub items : List Item
  pub read : read_items bs ≡ accept items
  pub summary : Summarizes bs items l

-- the bytes of the composite that the items make
unfoldable pub composed_bytes : List ℕ → Answer (List ℕ)
composed_bytes bs = do
  is ← read_items bs
  m ← composite_from is
  accept (item_bytes (item_of m))

-- of one item alone
unfoldable pub single_refusal : Summary → Refusal
single_refusal l = cond (is_some l.not_joinable) not_joinable lacks_data_or_instance
