-- `sheet::push_count`: two parts behind a line.
use Rattle.answers.specs.Answers.{in_decimal}
use Rattle.answers.proofs.Parts.{put_two}
use Rattle.hall.proofs.sheet.push_count.Goals as goal

pub returns : goal.returns
returns c = put_two c.args.line.now (in_decimal c.args.number) c.args.name.now (rw c.from.ensures at c.push_number.ensures) c.push.ensures
