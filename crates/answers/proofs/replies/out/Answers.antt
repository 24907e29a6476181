-- `replies::out`: its parts one behind another.
use Rattle.std.proofs.Common.{◌∙◌}
use Rattle.answers.specs.Answers.{out_line}
use lib.Seq.{take_all}
use Rattle.answers.proofs.Lengths.{length-out}
use Rattle.answers.proofs.replies.out.Goals as goal

pub returns : goal.returns
unfolding out_line
returns c = c.lent.ensures ∙ take_all 200 (out_line c.args.text.now c.args.borrower) (length-out c.args.text.now c.requires c.args.borrower)
