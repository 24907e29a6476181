-- `standby::torn`: its parts one behind another.
use Rattle.iscc.specs.Ascii.{ascii}
use Rattle.loans.specs.Contents.{contents_of}
use Rattle.answers.specs.Answers.{in_decimal}
use Rattle.answers.proofs.Parts.{put_then, put_last, put_all}
use Rattle.hall.specs.Standby.{end_line}
use Rattle.hall.proofs.LineLengths.{length-torn}
use Rattle.hall.proofs.standby.torn.Goals as goal

pub returns : goal.returns
unfolding end_line
returns c =
    put_all c.replayed_to-line.ensures
    (put_then (ascii "; the log is torn at byte ") c.push.ensures (put_last (in_decimal c.args.offset) c.push_number.ensures))
    (length-torn (contents_of c.args.register.area.now) c.args.offset)
