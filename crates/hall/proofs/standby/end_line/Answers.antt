-- `standby::end_line`: by how the replay ended.
use Rattle.hall.specs.Standby.{end_line}
use Rattle.hall.proofs.standby.end_line.Goals as goal

pub returns-in-Ended : goal.returns-in-Ended
unfolding end_line
returns-in-Ended c = rw c.in-Ended.is c.replayed_to.ensures

pub returns-in-Stopped : goal.returns-in-Stopped
unfolding end_line
returns-in-Stopped c = rw c.in-Stopped.is c.stopped.ensures
