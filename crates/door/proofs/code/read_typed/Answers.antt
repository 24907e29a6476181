-- `read_typed` meets its contract.
use Rattle.std.proofs.Common.{◌∙◌}
use Rattle.iscc.proofs.Answer.{exit-same}
use Rattle.door.proofs.Codes.{code-found, none_found}
use Rattle.door.proofs.code.read_typed.Goals as goal

pub returns-in_err-n : goal.returns-in_err-n
returns-in_err-n c = exit-same _ c.from_residual.ensures ∙ none_found _ _ c.read.ensures.answer _ c.in_err-n.was

pub returns : goal.returns
returns c = code-found _ _ c.read.ensures.answer _ _ _ c.in_ok-n.was c.read.ensures.area _ c.read-2.ensures
