-- `field::number_in`: four bytes or fewer.
use Rattle.iscc.proofs.Digits.{below_all}
use Rattle.pending_log.proofs.Applied.{front-number}
use Rattle.pending_log.proofs.field.number_in.Goals as goal

pub returns : goal.returns
returns c = front-number c.args.body.now _ _ (below_all 256 c.args.body.now (λ k _. (c.type_inv.body k).fits)) c.min.ensures c.read.ensures
