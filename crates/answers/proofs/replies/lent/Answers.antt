-- `replies::lent`: its parts one behind another.
use Rattle.iscc.specs.Ascii.{ascii}
use Rattle.answers.specs.Answers.{in_decimal}
use Rattle.answers.proofs.Parts.{put_then, put_last, put_on}
use Rattle.answers.proofs.replies.lent.Goals as goal

pub returns : goal.returns
returns c =
    put_on c.new-line.ensures
    (put_then c.args.word.now c.push.ensures
    (put_then c.args.text.now c.push-2.ensures
    (put_then (ascii " to ") c.push-3.ensures
    (put_last (in_decimal c.args.borrower) (rw c.from.ensures at c.push_number.ensures)))))
