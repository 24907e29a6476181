-- `loans_promote` meets its contract: that of the call behind it.
use Rattle.std.proofs.Common.{Ok, Err, refl, ◌∙◌, ap}
use Rattle.console.proofs.Laws.{promotion-told}
use Rattle.console.proofs.promoting.loans_promote.Goals as goal

pub returns-in-Ok-clause-answer : goal.returns-in-Ok-clause-answer
returns-in-Ok-clause-answer c = c.told.ensures ∙ promotion-told _ (Ok tt) _ _ c.may_promote.ensures.answer c.in-Ok.is c.none.ensures

pub returns-in-Err-Refused-clause-answer : goal.returns-in-Err-Refused-clause-answer
returns-in-Err-Refused-clause-answer c =
    let said = c.in-Err-Refused.is ∙ ap Err c.in-Err-Refused.field-0-is in
    c.told-in-Err-Refused.ensures ∙ rw c.number.ensures (promotion-told _ _ _ _ c.may_promote.ensures.answer said c.none-in-Err-Refused.ensures)

pub returns-in-Err-At-clause-answer : goal.returns-in-Err-At-clause-answer
returns-in-Err-At-clause-answer c =
    let said = c.in-Err-At.is ∙ ap Err c.in-Err-At.field-0-is in
    c.told-in-Err-At.ensures ∙ rw c.number-in-Err-At.ensures (promotion-told _ _ _ _ c.may_promote.ensures.answer said c.none-in-Err-At.ensures)

pub returns-in-Err-For-clause-answer : goal.returns-in-Err-For-clause-answer
returns-in-Err-For-clause-answer c =
    let said = c.in-Err-For.is ∙ ap Err c.in-Err-For.field-0-is in
    c.told-in-Err-For.ensures ∙ rw c.number-in-Err-For.ensures (promotion-told _ _ _ _ c.may_promote.ensures.answer said refl)
