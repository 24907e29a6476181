-- No refusal before what is left of the table has the number.
use Rattle.std.proofs.Common.{drop}
use Rattle.iscc.proofs.Refusals.{Left}
use Rattle.iscc.proofs.refusal.Refusal.from_number.Given as goal

abbrev pub invariant-loop-q : goal.invariant-loop-q
invariant-loop-q l = Left l.number (drop l.q-index l.q-items)
