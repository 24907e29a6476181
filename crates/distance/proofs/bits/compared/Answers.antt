-- `compared` meets its contract.
use Rattle.std.proofs.Common.{arith}
use Rattle.iscc.specs.Distance.{compared_bits}
use Rattle.distance.proofs.bits.compared.Goals as goal

pub returns : goal.returns
unfolding compared_bits
returns c = omega arith
