-- `standby::yes`: one part.
use Rattle.std.proofs.Common.{arith}
use Rattle.iscc.specs.Ascii.{ascii}
use Rattle.answers.proofs.Parts.{put_last, put_all}
use Rattle.hall.specs.Standby.{verdict_line}
use Rattle.hall.proofs.standby.yes.Goals as goal

pub returns : goal.returns
unfolding verdict_line
returns c = put_all c.new-line.ensures (put_last (ascii "yes: this replica may be promoted") c.push.ensures) (omega arith)
