-- `serving::issued`: the line of the text's code, and the record.
use Rattle.loans.specs.Map.{issue_code}
use Rattle.hall.specs.Serving.{code_of_typed}
use Rattle.hall.proofs.Tellings.{made_told}
use Rattle.hall.proofs.serving.issued.Goals as goal

pub returns : goal.returns
returns c =
    made_told (issue_code (code_of_typed c.args.text.now) c.args.borrower) c.args.number _ _ _ _ _ (rw c.of_text.ensures.text at c.issued.ensures) (c.issue_entry.ensures.size, c.issue_entry.ensures.entry)
