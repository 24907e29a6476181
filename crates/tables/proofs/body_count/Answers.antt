-- By the parts of the length number.
use Rattle.std.proofs.Common.{arith, ap}
use Rattle.iscc.specs.Permitted.{unit_count}
use Rattle.iscc.proofs.Permitted.{count-by-parts}
use Rattle.tables.proofs.body_count.Goals as goal

pub returns : goal.returns
returns c =
    let r = c.row_of-row in
    (omega (arith, count-by-parts r.result r.ensures.0, ap unit_count r.ensures.1), omega (arith, r.ensures.0))
