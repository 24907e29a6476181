-- `standby::push_offset`: two parts behind a line.
use Rattle.iscc.specs.Ascii.{ascii}
use Rattle.answers.specs.Answers.{in_decimal}
use Rattle.answers.proofs.Parts.{put_two}
use Rattle.hall.proofs.standby.push_offset.Goals as goal

pub returns : goal.returns
returns c = put_two c.args.line.now (ascii " at byte ") (in_decimal c.args.offset) c.push.ensures c.push_number.ensures
