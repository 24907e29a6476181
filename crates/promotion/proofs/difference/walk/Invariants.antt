-- `difference::walk`: the loans before place i are the same in both.
use Rattle.loans.specs.Order.{loans_at}
use Rattle.promotion.proofs.Walk.{Walked}
use Rattle.promotion.proofs.difference.walk.Given as goal

abbrev pub invariant-loop-i : goal.invariant-loop-i
invariant-loop-i l = Walked (loans_at l.first.bytes.now) (loans_at l.second.bytes.now) l.i
