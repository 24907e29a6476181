-- `field::whole_size` meets its contract.
use Rattle.pending_log.proofs.Sizes.{head-torn, body-torn, size-whole}
use Rattle.pending_log.proofs.field.whole_size.Goals as goal

pub returns-then-rest-lt-HEAD_LENGTH-clause-size : goal.returns-then-rest-lt-HEAD_LENGTH-clause-size
returns-then-rest-lt-HEAD_LENGTH-clause-size c = head-torn _ _ c.requires c.if-rest-lt-HEAD_LENGTH.true

pub returns-then-rest-size-clause-size : goal.returns-then-rest-size-clause-size
returns-then-rest-size-clause-size c =
    body-torn c.args.log.now _ c.requires c.if-rest-lt-HEAD_LENGTH.false _ _ c.from.ensures c.from-2.ensures c.if-rest-size.true

pub returns-clause-size : goal.returns-clause-size
returns-clause-size c =
    size-whole c.args.log.now _ c.requires c.if-rest-lt-HEAD_LENGTH.false _ _ c.from.ensures c.from-2.ensures c.if-rest-size.false
