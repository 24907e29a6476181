-- `read` meets its contract.
use Rattle.door.proofs.Codes.{code-long}
use Rattle.door.proofs.code.read.Goals as goal

pub returns-then-text-gt-LONGEST_TYPED : goal.returns-then-text-gt-LONGEST_TYPED
returns-then-text-gt-LONGEST_TYPED c = code-long _ _ c.if-text-gt-LONGEST_TYPED.true c.refused.ensures
