-- One character more.
use Rattle.std.proofs.Common.{refl}
use Rattle.payload.specs.Runs.{no_hyphen}
use Rattle.payload.proofs.Runs.{none-more}
use Rattle.payload.proofs.run.none_in.Goals as goal

pub loop-c-init : goal.loop-c-init
unfolding no_hyphen
loop-c-init c = refl

pub loop-c-preserved : goal.loop-c-preserved
loop-c-preserved c = none-more _ _ _ c.loop-c-test.true c.loop-c.invariant
