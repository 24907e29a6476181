-- `loans_log_issue` meets its contract: that of the call behind it.
use Rattle.console.proofs.Laws.{moved_on-is, record-told}
use Rattle.console.proofs.logging.loans_log_issue.Goals as goal

pub told-requires : goal.told-requires
told-requires c = moved_on-is _ _ _ _ c.issue-answer.ensures.answer

pub returns-clause-answer : goal.returns-clause-answer
returns-clause-answer c = record-told _ _ _ _ c.issue-answer.ensures.answer c.told.ensures
