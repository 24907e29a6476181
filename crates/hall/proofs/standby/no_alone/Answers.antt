-- `standby::no_alone`: its parts one behind another.
use Rattle.iscc.specs.Refusals.{refusal_number}
use Rattle.std.proofs.Common.{[], ◌++◌, arith}
use Rattle.iscc.specs.Ascii.{ascii}
use Rattle.answers.specs.Sentences.{sentence}
use Rattle.answers.proofs.Parts.{put_last, put_all}
use Rattle.hall.specs.Standby.{verdict_line}
use Rattle.hall.proofs.LineLengths.{length-numbered}
use Rattle.hall.proofs.standby.no_alone.Goals as goal

pub returns : goal.returns
unfolding verdict_line
returns c =
    let q = c.args.q in
    put_all c.no-line.ensures (put_last (ascii ": " ++ sentence (refusal_number q)) c.push_sentence.ensures) (omega (arith, length-numbered q [] (omega arith)))
