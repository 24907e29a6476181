-- `replay::run`: the records before the offset are applied.
use Rattle.std.proofs.Common.{◌-◌, length}
use Rattle.pending_log.proofs.Steps.{Running}
use Rattle.pending_log.proofs.replay.run.Given as goal

abbrev pub invariant-loop-offset : goal.invariant-loop-offset
invariant-loop-offset l = Running l.log l.fn.area l.area l.offset

abbrev pub decreases-loop-offset : goal.decreases-loop-offset
decreases-loop-offset l = length l.log - l.offset
