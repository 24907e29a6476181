-- `standby::no`: its parts one behind another.
use Rattle.iscc.specs.Refusals.{refusal_number}
use Rattle.std.proofs.Common.{arith}
use Rattle.iscc.specs.Ascii.{ascii}
use Rattle.answers.specs.Answers.{in_decimal}
use Rattle.answers.proofs.Parts.{put_then, put_last, put_all}
use Rattle.answers.proofs.Lengths.{length-decimal}
use Rattle.hall.proofs.standby.no.Goals as goal

pub returns : goal.returns
returns c =
    put_all c.new-line.ensures
    (put_then (ascii "no ") c.push.ensures (put_last (in_decimal (refusal_number c.args.q)) (rw (c.from.ensures, c.number.ensures) at c.push_number.ensures)))
    (omega (arith, length-decimal (refusal_number c.args.q)))
