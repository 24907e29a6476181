-- `from` meets its contract: a refusal's zeros, of which the float's is its bit pattern, which computes.
use mathlib.Core.Path.{sym, ap}
use lib.Ieee.{of_bits}
use Rattle.iscc.specs.Distance.{distance_answer}
use Rattle.distance.specs.Representation.{measured_as, measured_from}
use Rattle.distance.proofs.answer.MeasuredFromResultDistanceRefusal.from.Goals as goal

pub returns-in-Err : goal.returns-in-Err
unfolding of_bits measured_as distance_answer
returns-in-Err c = rw c.number.ensures (ap measured_from (sym c.in-Err.is))
