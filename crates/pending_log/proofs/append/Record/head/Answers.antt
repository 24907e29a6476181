-- `Record::head`: the head is written over zeros.
use Rattle.pending_log.proofs.Appends.{head-made}
use Rattle.pending_log.proofs.append.Record.head.Goals as goal

pub returns : goal.returns
returns c = head-made _ _ _ _ _ c.write.ensures c.write-2.ensures
