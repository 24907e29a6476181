-- `admit::admit` meets its contract.
use Rattle.std.proofs.Common.{◌∙◌}
use Rattle.iscc.proofs.Answer.{exit-same}
use Rattle.register.proofs.Texts.{not-read, not_register-is, both-there}
use Rattle.register.proofs.admit.admit.Goals as goal

pub returns-in_err-code : goal.returns-in_err-code
returns-in_err-code c = exit-same _ c.from_residual.ensures ∙ not-read _ _ c.read.ensures _ c.in_err-code.was

pub returns-then-is_register : goal.returns-then-is_register
returns-then-is_register c = both-there _ _ c.read.ensures _ c.in_ok-code.was _ c.is_register.ensures c.if-is_register.true

pub returns : goal.returns
returns c = not_register-is _ _ c.read.ensures _ c.in_ok-code.was _ c.is_register.ensures c.if-is_register.false _ c.refused.ensures
