-- `standby::no_at`: its parts one behind another.
use Rattle.iscc.specs.Refusals.{refusal_number}
use Rattle.std.proofs.Common.{◌++◌, arith}
use Rattle.iscc.specs.Ascii.{ascii}
use Rattle.answers.specs.Answers.{in_decimal}
use Rattle.answers.specs.Sentences.{sentence}
use Rattle.answers.proofs.Parts.{put_then, put_last, put_all}
use Rattle.hall.specs.Standby.{verdict_line}
use Rattle.hall.proofs.LineLengths.{length-numbered, length_at}
use Rattle.hall.proofs.standby.no_at.Goals as goal

pub returns : goal.returns
unfolding verdict_line
returns c =
    let q = c.args.q in
    let place = ascii " at byte " ++ in_decimal c.args.offset in
    put_all c.no-line.ensures
    (put_then place c.push_offset.ensures (put_last (ascii ": " ++ sentence (refusal_number q)) c.push_sentence.ensures))
    (omega (arith, length-numbered q place (length_at c.args.offset)))
