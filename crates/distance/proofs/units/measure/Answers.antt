-- `measure` meets its contract.
use Rattle.std.proofs.Common.{◌∙◌}
use Rattle.iscc.proofs.Answer.{exit-same}
use Rattle.distance.proofs.Laws.{first-refused}
use Rattle.distance.proofs.units.measure.Goals as goal

pub returns-in_err-read : goal.returns-in_err-read
returns-in_err-read c = exit-same _ c.from_residual.ensures ∙ first-refused _ c.args.b.now _ _ c.read.ensures c.in_err-read.was
