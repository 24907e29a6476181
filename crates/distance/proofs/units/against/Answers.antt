-- `against` meets its contract.
use Rattle.std.proofs.Common.{◌∙◌}
use Rattle.iscc.proofs.Answer.{exit-same}
use Rattle.distance.proofs.Laws.{second-refused, second-read}
use Rattle.distance.proofs.units.against.Goals as goal

pub returns-in_err-read : goal.returns-in_err-read
returns-in_err-read c = exit-same _ c.from_residual.ensures ∙ second-refused _ _ _ _ _ c.requires c.read.ensures c.in_err-read.was

pub between-requires : goal.between-requires
between-requires c = (c.requires, second-read _ _ _ c.read.ensures c.in_ok-read.was)
