-- `faults::line`: its parts one behind another.
use Rattle.iscc.specs.Ascii.{ascii}
use Rattle.commands.specs.Representation.{fault_in}
use Rattle.answers.proofs.Parts.{put_then, put_last, put_all}
use Rattle.hall.specs.Faults.{fault_sentence, fault_line}
use Rattle.hall.proofs.LineLengths.{length-fault}
use Rattle.hall.proofs.faults.line.Goals as goal

pub returns : goal.returns
unfolding fault_line
returns c =
    put_all c.new-line.ensures
    (put_then (ascii "refused: ") c.push.ensures (put_last (fault_sentence (fault_in c.args.fault)) (rw c.sentence.ensures at c.push-2.ensures)))
    (length-fault (fault_in c.args.fault))
