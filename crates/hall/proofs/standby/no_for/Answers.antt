-- `standby::no_for`: its parts one behind another.
use Rattle.iscc.specs.Refusals.{refusal_number}
use Rattle.std.proofs.Common.{◌++◌, arith}
use Rattle.iscc.specs.Ascii.{ascii}
use Rattle.answers.specs.Sentences.{sentence}
use Rattle.answers.proofs.Parts.{put_then, put_same, put_last, put_all}
use Rattle.hall.specs.Sheet.{text_of_bytes}
use Rattle.hall.specs.Standby.{verdict_line}
use Rattle.hall.proofs.LineLengths.{length-numbered, length-for}
use Rattle.hall.proofs.standby.no_for.Goals as goal

pub returns : goal.returns
unfolding verdict_line
returns c =
    let q = c.args.q in
    let t = text_of_bytes c.args.code.now in
    put_all c.no-line.ensures
    (put_then (ascii " for ") c.push.ensures
    (put_same _ c.push-2.ensures c.of_code.ensures.text
    (put_last (ascii ": " ++ sentence (refusal_number q)) c.push_sentence.ensures)))
    (omega (arith, length-numbered q (ascii " for " ++ t) (length-for t (rw c.of_code.ensures.text at c.of_code.ensures.bound))))
