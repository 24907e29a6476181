-- `pieces::number_reached`: the records before the offset are read.
use Rattle.std.proofs.Common.{◌-◌, length}
use Rattle.recovery.proofs.Reached.{Reaching}
use Rattle.recovery.proofs.pieces.number_reached.Given as goal

abbrev pub invariant-loop-offset : goal.invariant-loop-offset
invariant-loop-offset l = Reaching l.bytes l.before l.number l.offset

abbrev pub decreases-loop-offset : goal.decreases-loop-offset
decreases-loop-offset l = length l.bytes - l.offset
