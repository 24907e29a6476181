-- `append::put`: the part is copied into the log.
use Rattle.std.proofs.Common.{arith}
use Rattle.pending_log.proofs.Appends.{put_written}
use Rattle.pending_log.proofs.append.put.Goals as goal

pub returns-clause-log : goal.returns-clause-log
returns-clause-log c = put_written _ _ _ _ _ c.copy_from_slice.ensures.after (omega arith)
