-- The bits in which the bytes so far differ: by words, then by bytes.
use Rattle.std.proofs.Common.{◌+◌, ◌*◌, ◌/◌, take}
use Rattle.distance.proofs.Counted.{Counted}
use Rattle.distance.proofs.bits.differing.Given as goal

abbrev pub invariant-loop-i : goal.invariant-loop-i
invariant-loop-i l = Counted (take l.n l.a) (take l.n l.b) l.n l.d (4 * l.i)

abbrev pub invariant-loop-i-2 : goal.invariant-loop-i-2
invariant-loop-i-2 l = Counted (take l.n l.a) (take l.n l.b) l.n l.d (l.n / 4 * 4 + l.i)
