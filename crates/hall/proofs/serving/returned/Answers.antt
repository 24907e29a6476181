-- `serving::returned`: the line of the text's code, and the record.
use Rattle.loans.specs.Map.{return_code}
use Rattle.hall.specs.Serving.{code_of_typed}
use Rattle.hall.proofs.Tellings.{made_told}
use Rattle.hall.proofs.serving.returned.Goals as goal

pub returns : goal.returns
returns c =
    made_told (return_code (code_of_typed c.args.text.now)) c.args.number _ _ _ _ _ (rw c.of_text.ensures.text at c.returned.ensures) (c.return_entry.ensures.size, c.return_entry.ensures.entry)
