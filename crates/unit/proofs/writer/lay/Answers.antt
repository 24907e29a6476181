-- `lay` meets its contract: the header was written to the front, and the body behind it.
use Rattle.std.proofs.Common.{◌∙◌, arith}
use lib.Seq.{length-take-le}
use Rattle.iscc.specs.Header.{header_bytes}
use Rattle.iscc.proofs.Header.{length-short}
use Rattle.header.specs.Representation.{header_from}
use Rattle.iscc.proofs.Parts.{put-behind}
use Rattle.unit.proofs.Write.{header-written}
use Rattle.unit.proofs.writer.lay.Goals as goal

pub returns : goal.returns
returns c =
    let p = c.requires in
    put-behind (header_bytes (header_from c.args.h)) _ c.args.out.now _ _ 2 c.args.count (length-short (header_from c.args.h) p.0 p.1 p.2 p.3)
    (length-take-le c.args.count c.args.body.now p.4) (c.write.ensures.area ∙ header-written (header_from c.args.h) c.args.out.now p.0 p.1 p.2 p.3 (omega (arith, p.5)))
    c.copy_from_slice.ensures.after
