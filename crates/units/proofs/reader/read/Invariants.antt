-- The items so far; each turn takes some bytes.
use Rattle.std.proofs.Common.{◌-◌, length}
use Rattle.units.proofs.Reached.{Running}
use Rattle.units.proofs.reader.read.Given as goal

abbrev pub invariant-loop-u : goal.invariant-loop-u
invariant-loop-u l = Running l.bytes l.list l.at

abbrev pub decreases-loop-u : goal.decreases-loop-u
decreases-loop-u l = length l.bytes - l.at
