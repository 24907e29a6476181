-- What is taken and answered so far, with what is left to feed.
use Rattle.std.proofs.Common.{◌-◌, length}
use Rattle.lines.proofs.Fed.{Sofar}
use Rattle.lines.proofs.feed.feed.Given as goal

abbrev pub invariant-loop-out : goal.invariant-loop-out
invariant-loop-out l = Sofar l.initial.out l.piece l.initial.line l.fn.held l.line l.out l.kept l.used l.written

abbrev pub decreases-loop-out : goal.decreases-loop-out
decreases-loop-out l = length l.piece - l.used
