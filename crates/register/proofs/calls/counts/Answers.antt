-- `calls::counts` meets its contract.
use Rattle.std.proofs.Common.{sym}
use Rattle.register.proofs.Areas.{counts-yes, counts-no}
use Rattle.register.proofs.calls.counts.Goals as goal

pub returns-in-Some : goal.returns-in-Some
returns-in-Some c = counts-yes _ (sym c.in-Some.ensures.valid) _ (rw c.in-Some.ensures.area at c.counts.ensures)

pub returns-in-None : goal.returns-in-None
returns-in-None c = counts-no _ (sym c.in-None.ensures.valid)
