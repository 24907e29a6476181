-- `strict` meets its contract.
use Rattle.std.proofs.Common.{◌∙◌, ap, arith}
use Rattle.door.specs.Representation.{checked_number}
use Rattle.iscc.proofs.Answer.{exit-same}
use Rattle.door.proofs.Doors.{own-fits, checked-same, checked-other, checked_refused}
use Rattle.door.proofs.strict.strict.Goals as goal

pub slice_bounds-same-end : goal.slice_bounds-same-end
slice_bounds-same-end c = let f = own-fits _ _ _ (omega arith) c.intake.ensures.answer _ _ _ c.in_ok-n.was c.intake.ensures.area in omega arith

pub returns-in_err-n-clause-answer : goal.returns-in_err-n-clause-answer
returns-in_err-n-clause-answer c =
    exit-same _ c.from_residual.ensures ∙ (checked_refused _ _ _ (omega arith) c.intake.ensures.answer _ c.in_err-n.was).0

pub returns-in_err-n-clause-number : goal.returns-in_err-n-clause-number
returns-in_err-n-clause-number c =
    ap checked_number (exit-same _ c.from_residual.ensures) ∙ (checked_refused _ _ _ (omega arith) c.intake.ensures.answer _ c.in_err-n.was).1

pub returns-then-same-clause-answer : goal.returns-then-same-clause-answer
returns-then-same-clause-answer c =
    (checked-same _ _ _ (omega arith) c.intake.ensures.answer _ _ _ c.in_ok-n.was c.intake.ensures.area _ c.same.ensures c.if-same.true).0

pub returns-then-same-clause-number : goal.returns-then-same-clause-number
returns-then-same-clause-number c =
    (checked-same _ _ _ (omega arith) c.intake.ensures.answer _ _ _ c.in_ok-n.was c.intake.ensures.area _ c.same.ensures c.if-same.true).1

pub returns-clause-answer : goal.returns-clause-answer
returns-clause-answer c =
    (checked-other _ _ _ (omega arith) c.intake.ensures.answer _ _ _ c.in_ok-n.was c.intake.ensures.area _ c.same.ensures c.if-same.false).0

pub returns-clause-number : goal.returns-clause-number
returns-clause-number c =
    (checked-other _ _ _ (omega arith) c.intake.ensures.answer _ _ _ c.in_ok-n.was c.intake.ensures.area _ c.same.ensures c.if-same.false).1
