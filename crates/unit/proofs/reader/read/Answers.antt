-- `read` meets its contract: what the header reader refuses is refused, and any other goes on.
use Rattle.std.proofs.Common.{◌∙◌}
use Rattle.iscc.proofs.Answer.{exit-same}
use Rattle.unit.proofs.Read.{fields_told, header-there, header-bad}
use Rattle.unit.proofs.reader.read.Goals as goal

pub item_of-requires : goal.item_of-requires
item_of-requires c = header-there _ c.read.ensures.answer c.in_ok-raw.was

pub returns-in_err-raw-clause-answer : goal.returns-in_err-raw-clause-answer
returns-in_err-raw-clause-answer c = exit-same _ c.from_residual.ensures ∙ header-bad _ c.read.ensures.answer c.in_err-raw.was

pub returns-in_err-raw-clause-fields : goal.returns-in_err-raw-clause-fields
returns-in_err-raw-clause-fields c =
    fields_told _ _ (exit-same _ c.from_residual.ensures ∙ header-bad _ c.read.ensures.answer c.in_err-raw.was)

pub returns-clause-fields : goal.returns-clause-fields
returns-clause-fields c = fields_told _ _ c.item_of.ensures
