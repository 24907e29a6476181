-- `number::read` meets its contract.
use Rattle.std.proofs.Common.{refl, rules}
use Rattle.iscc.specs.Digits.{value}
use Rattle.octets.proofs.Numbers.{read_more}
use Rattle.octets.proofs.number.read.Goals as goal

pub loop-byte-init : goal.loop-byte-init
unfolding value
loop-byte-init c = refl

pub loop-byte-preserved : goal.loop-byte-preserved
loop-byte-preserved c = read_more _ _ _ _ _ c.loop-byte-test.true c.loop-byte.invariant c.from.ensures (search rules) refl
