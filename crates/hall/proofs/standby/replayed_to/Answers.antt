-- `standby::replayed_to`: its parts one behind another.
use Rattle.std.proofs.Common.{ap, ◌∙◌, arith}
use Rattle.iscc.specs.Ascii.{ascii}
use Rattle.loans.specs.Contents.{contents_of}
use Rattle.answers.specs.Answers.{in_decimal}
use Rattle.answers.proofs.Parts.{put_then, put_same, put_last, put_all}
use Rattle.hall.specs.Standby.{replayed_to}
use Rattle.hall.proofs.LineLengths.{length-replayed}
use Rattle.hall.proofs.standby.replayed_to.Goals as goal

pub returns : goal.returns
unfolding replayed_to
returns c =
    put_all c.new-line.ensures
    (put_then (ascii "replayed to record ") c.push.ensures
    (put_same (in_decimal c.from.result) c.push_number.ensures (ap in_decimal (c.from.ensures ∙ c.last_number.ensures))
    (put_then (ascii ", ") c.push-2.ensures
    (put_same (in_decimal c.codes_out.result) c.push_number-2.ensures (ap in_decimal c.codes_out.ensures.0)
    (put_last (ascii " out") c.push-3.ensures)))))
    (omega (arith, length-replayed (contents_of c.args.register.area.now)))
