-- `between` meets its contract.
use Rattle.distance.proofs.Laws.{not-comparable, measured, body-short}
use Rattle.distance.proofs.units.between.Goals as goal

pub returns-then-not-comparable : goal.returns-then-not-comparable
returns-then-not-comparable c = search not-comparable

pub of_bodies-requires : goal.of_bodies-requires
of_bodies-requires c = search body-short

pub returns : goal.returns
returns c = search measured
