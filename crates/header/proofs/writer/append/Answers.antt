-- The digits of both numbers, one behind the other.
use Rattle.std.proofs.Common.{arith}
use Rattle.header.proofs.Write.{append-is, append-lt, append-fits}
use Rattle.header.proofs.writer.append.Goals as goal

pub overflow_mul-result : goal.overflow_mul-result
overflow_mul-result c =
    let e = c.row_of-row.ensures in
    omega (arith, append-fits _ c.args.front.count _ _ e.row e.bounds e.begins e.ends c.requires.room c.args.front.fits)

pub overflow_add-result : goal.overflow_add-result
overflow_add-result c =
    let e = c.row_of-row.ensures in
    omega (arith, c.from.ensures, append-fits _ c.args.front.count _ _ e.row e.bounds e.begins e.ends c.requires.room c.args.front.fits)

pub invariant_of-result : goal.invariant_of-result
invariant_of-result c =
    let e = c.row_of-row.ensures in
    record { fits = rw c.from.ensures (append-lt _ c.args.front.count _ _ e.row e.bounds e.begins e.ends c.args.front.fits) }

pub returns-clause-nibbles : goal.returns-clause-nibbles
returns-clause-nibbles c =
    let e = c.row_of-row.ensures in
    rw c.from.ensures (append-is _ c.args.front.count _ _ e.row e.bounds e.begins e.ends)
