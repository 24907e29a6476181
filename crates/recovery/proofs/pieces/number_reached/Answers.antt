-- `pieces::number_reached` meets its contract.
use Rattle.pending_log.specs.Representation.{field_in}
use Rattle.pending_log.proofs.Sizes.{field-there}
use Rattle.recovery.proofs.Reached.{at-start, none_left, torn-there, one_more}
use Rattle.recovery.proofs.pieces.number_reached.Goals as goal

pub loop-offset-init : goal.loop-offset-init
loop-offset-init c = at-start _ _

pub returns-in_default : goal.returns-in_default
returns-in_default c = torn-there c.loop-offset.invariant c.in_default.ensures.whole

pub loop-offset-preserved : goal.loop-offset-preserved
loop-offset-preserved c =
    let there = field-there _ _ c.loop-offset.invariant.within (field_in c.in-Some.field) c.in-Some.ensures.whole c.in-Some.ensures.field in
    rw c.size-offset.ensures (one_more c.loop-offset.invariant _ there _ c.number-number.ensures)

pub returns : goal.returns
returns c = none_left c.loop-offset.invariant c.loop-offset-test.false
