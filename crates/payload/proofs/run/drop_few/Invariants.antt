-- The characters passed, their hyphens dropped.
use Rattle.payload.proofs.Runs.{DroppedUpTo}
use Rattle.payload.proofs.run.drop_few.Given as goal

abbrev pub invariant-loop-c : goal.invariant-loop-c
invariant-loop-c l = DroppedUpTo l.typed l.initial.out l.out l.count l.c-index
