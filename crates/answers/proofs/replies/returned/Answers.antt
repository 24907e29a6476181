-- `replies::returned`: its parts one behind another.
use Rattle.iscc.specs.Ascii.{ascii}
use Rattle.answers.specs.Answers.{in_decimal, returned_line}
use Rattle.answers.proofs.Parts.{put_then, put_last, put_all}
use Rattle.answers.proofs.Lengths.{length-returned}
use Rattle.answers.proofs.replies.returned.Goals as goal

pub returns : goal.returns
unfolding returned_line
returns c =
    put_all c.new-line.ensures
    (put_then (ascii "returned ") c.push.ensures
    (put_then c.args.text.now c.push-2.ensures
    (put_then (ascii " as record ") c.push-3.ensures
    (put_last (in_decimal c.args.number) (rw c.from.ensures at c.push_number.ensures)))))
    (length-returned c.args.text.now c.requires c.args.number)
