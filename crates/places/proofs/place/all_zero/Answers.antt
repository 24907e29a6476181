-- `place::all_zero` meets its contract.
use Rattle.places.proofs.PlaceTests.{zeros-none, zeros-next, zeros-all}
use Rattle.places.proofs.place.all_zero.Goals as goal

pub loop-byte-init : goal.loop-byte-init
loop-byte-init c = zeros-none _

pub loop-byte-preserved : goal.loop-byte-preserved
loop-byte-preserved c = zeros-next c.loop-byte.invariant c.loop-byte-test.true c.max-most.ensures

pub returns : goal.returns
returns c = zeros-all c.loop-byte.invariant c.loop-byte-test.false
