-- `standby::replay_line` meets its contract.
use Rattle.std.proofs.Common.{◌∙◌, refl, true, false}
use Rattle.hall.proofs.StandbyLines.{replay-yes, replay-no}
use Rattle.hall.proofs.standby.replay_line.Goals as goal

pub returns-in-Some : goal.returns-in-Some
returns-in-Some c = replay-yes _ c.args.area.now true c.in-Some.ensures.valid refl _ (rw c.in-Some.ensures.area at c.end_line.ensures)

pub returns-in-None : goal.returns-in-None
returns-in-None c = c.refused.ensures ∙ replay-no _ c.args.area.now false c.in-None.ensures.valid refl
