-- `distance` meets its contract.
use Rattle.distance.proofs.Laws.{answered, bounds, exact}
use Rattle.distance.proofs.units.distance.Goals as goal

pub returns-clause-answer : goal.returns-clause-answer
returns-clause-answer c = answered _ _ _ _ c.measure.ensures c.from.ensures

pub returns-clause-bounds : goal.returns-clause-bounds
returns-clause-bounds c = bounds _ _ _ (answered _ _ _ _ c.measure.ensures c.from.ensures)

pub returns-clause-exact : goal.returns-clause-exact
returns-clause-exact c = exact _ _ _ (answered _ _ _ _ c.measure.ensures c.from.ensures)
