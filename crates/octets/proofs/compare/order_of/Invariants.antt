-- The words passed are the same.
use Rattle.octets.proofs.Words.{Left}
use Rattle.octets.proofs.compare.order_of.Given as goal

abbrev pub invariant-loop-i : goal.invariant-loop-i
invariant-loop-i l = Left l.a l.b l.n l.i
