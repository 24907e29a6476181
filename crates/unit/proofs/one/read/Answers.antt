-- `read` meets its contract: the reader's answer, and whether a byte is left over. That goes by arithmetic, so that it stands whatever is
-- compared.
use Rattle.std.proofs.Common.{◌∙◌, arith}
use Rattle.iscc.proofs.Answer.{exit-same}
use Rattle.unit.proofs.ExactlyOne.{one-refused, one-left-over, one_unit}
use Rattle.unit.proofs.one.read.Goals as goal

pub returns-in_err-found : goal.returns-in_err-found
returns-in_err-found c = exit-same _ c.from_residual.ensures ∙ one-refused _ _ c.read.ensures.answer _ c.in_err-found.was

pub returns-then-found-bytes : goal.returns-then-found-bytes
returns-then-found-bytes c = one-left-over _ _ c.read.ensures.answer _ c.in_ok-found.was (omega arith)

pub returns : goal.returns
returns c = one_unit _ _ c.read.ensures.answer _ c.in_ok-found.was (omega arith)
