-- `intake` meets its contract.
use Rattle.std.proofs.Common.{◌∙◌}
use Rattle.iscc.proofs.Answer.{exit-same}
use Rattle.door.proofs.Doors.{taken-short, taken_refused, taken-answer, taken-area}
use Rattle.door.proofs.intake.intake.Goals as goal

pub returns-then-out-lt-LONGEST_WRITTEN-clause-answer : goal.returns-then-out-lt-LONGEST_WRITTEN-clause-answer
returns-then-out-lt-LONGEST_WRITTEN-clause-answer c =
    (taken-short _ _ c.if-out-lt-LONGEST_WRITTEN.true).0

pub returns-then-out-lt-LONGEST_WRITTEN-clause-area : goal.returns-then-out-lt-LONGEST_WRITTEN-clause-area
returns-then-out-lt-LONGEST_WRITTEN-clause-area c =
    (taken-short _ _ c.if-out-lt-LONGEST_WRITTEN.true).1

pub returns-in_err-code-clause-answer : goal.returns-in_err-code-clause-answer
returns-in_err-code-clause-answer c =
    exit-same _ c.from_residual.ensures ∙ (taken_refused _ _ c.read.ensures _ _ c.if-out-lt-LONGEST_WRITTEN.false c.in_err-code.was).0

pub returns-in_err-code-clause-area : goal.returns-in_err-code-clause-area
returns-in_err-code-clause-area c =
    (taken_refused _ _ c.read.ensures _ _ c.if-out-lt-LONGEST_WRITTEN.false c.in_err-code.was).1

pub returns-clause-answer : goal.returns-clause-answer
returns-clause-answer c = taken-answer _ _ c.read.ensures _ c.in_ok-code.was _ c.as_bytes-bytes.ensures _ c.if-out-lt-LONGEST_WRITTEN.false _ c.write.ensures.answer

pub returns-clause-area : goal.returns-clause-area
returns-clause-area c = taken-area _ _ c.read.ensures _ c.in_ok-code.was _ c.as_bytes-bytes.ensures _ c.if-out-lt-LONGEST_WRITTEN.false _ c.write.ensures.area
