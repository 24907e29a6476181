-- `replies::refused`: its parts one behind another.
use Rattle.iscc.specs.Refusals.{refusal_number}
use Rattle.iscc.specs.Ascii.{ascii}
use Rattle.answers.specs.Answers.{in_decimal, refused_line}
use Rattle.answers.specs.Sentences.{sentence}
use Rattle.answers.proofs.Parts.{put_then, put_last, put_all}
use Rattle.answers.proofs.Lengths.{length-refused}
use Rattle.answers.proofs.replies.refused.Goals as goal

pub returns : goal.returns
unfolding refused_line
returns c =
    put_all c.new-line.ensures
    (put_then (ascii "refused ") c.push.ensures
    (put_then (in_decimal (refusal_number c.args.q)) (rw (c.from.ensures, c.number-number.ensures) at c.push_number.ensures)
    (put_then (ascii ": ") c.push-2.ensures
    (put_last (sentence (refusal_number c.args.q)) (rw (c.sentence.ensures, c.number-number.ensures) at c.push-3.ensures)))))
    (length-refused c.args.q)
