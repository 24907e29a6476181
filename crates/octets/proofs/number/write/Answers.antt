-- `number::write` meets its contract.
use Rattle.std.proofs.Common.{refl}
use Rattle.octets.proofs.Numbers.{none_filled, one-filled}
use Rattle.octets.proofs.number.write.Goals as goal

pub loop-i-init : goal.loop-i-init
loop-i-init c = none_filled _ _

pub loop-i-preserved : goal.loop-i-preserved
loop-i-preserved c = one-filled _ c.loop-i.invariant c.loop-i-test.true refl
