-- The last bytes of the eight.
use Rattle.std.proofs.Common.{◌∙◌}
use Rattle.iscc.proofs.Words.{low-bytes}
use Rattle.header.proofs.Write.{front-bytes}
use Rattle.header.proofs.writer.put.Goals as goal

pub returns : goal.returns
returns c = front-bytes _ _ _ _ (c.copy_from_slice.ensures.after ∙ low-bytes _ _ _ c.args.bytes.few c.to_be_bytes.ensures)
