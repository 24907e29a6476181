-- The bytes from i on are written.
use Rattle.octets.proofs.Numbers.{FilledFrom}
use Rattle.octets.proofs.number.write.Given as goal

abbrev pub invariant-loop-i : goal.invariant-loop-i
invariant-loop-i l = FilledFrom l.number l.initial.part l.part l.rest l.i
