-- `read` meets its contract: the items so far, and what the rest adds to them. The test for the end goes by arithmetic, so that it stands
-- whatever it compares.
use Rattle.std.proofs.Common.{arith}
use Rattle.units.proofs.Reached.{starts, refuses, turn}
use Rattle.units.proofs.reader.read.Goals as goal

pub loop-u-init : goal.loop-u-init
loop-u-init c = starts _ _ c.empty-list.ensures

pub returns-in-Err-clause-answer : goal.returns-in-Err-clause-answer
returns-in-Err-clause-answer c = rw c.with_detail.ensures (refuses _ _ _ c.loop-u.invariant c.read.ensures.answer _ c.in-Err.is).0

pub returns-in-Err-clause-list : goal.returns-in-Err-clause-list
returns-in-Err-clause-list c = (refuses _ _ _ c.loop-u.invariant c.read.ensures.answer _ c.in-Err.is).1

pub overflow_add-at : goal.overflow_add-at
overflow_add-at c =
    let t = turn _ _ _ c.loop-u.invariant c.read.ensures.answer _ c.in-Ok.is in
    omega (arith, t.within, t.start, t.used)

pub overflow_add-at-in-loop-u : goal.overflow_add-at-in-loop-u
overflow_add-at-in-loop-u c =
    let t = turn _ _ _ c.loop-u.invariant c.read.ensures.answer _ c.in-Ok.is in
    omega (arith, t.within)

pub returns-then-bytes-at-clause-answer : goal.returns-then-bytes-at-clause-answer
returns-then-bytes-at-clause-answer c =
    let t = turn _ _ _ c.loop-u.invariant c.read.ensures.answer _ c.in-Ok.is in
    (t.ends _ c.add.ensures (omega arith)).0

pub returns-then-bytes-at-clause-list : goal.returns-then-bytes-at-clause-list
returns-then-bytes-at-clause-list c =
    let t = turn _ _ _ c.loop-u.invariant c.read.ensures.answer _ c.in-Ok.is in
    (t.ends _ c.add.ensures (omega arith)).1

pub loop-u-smaller : goal.loop-u-smaller
loop-u-smaller c =
    let t = turn _ _ _ c.loop-u.invariant c.read.ensures.answer _ c.in-Ok.is in
    omega (arith, t.used)

pub loop-u-preserved : goal.loop-u-preserved
loop-u-preserved c =
    let t = turn _ _ _ c.loop-u.invariant c.read.ensures.answer _ c.in-Ok.is in
    t.more _ c.add.ensures (omega arith)
