-- The last bytes of the eight.
use Rattle.std.proofs.Common.{◌∙◌}
use Rattle.iscc.proofs.Words.{low-bytes}
use Rattle.base32.proofs.reader.put.Goals as goal

pub returns : goal.returns
returns c = c.copy_from_slice.ensures.after ∙ low-bytes _ _ _ c.requires c.to_be_bytes.ensures
