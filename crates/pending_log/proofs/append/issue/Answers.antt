-- `append::issue` meets its contract.
use Rattle.pending_log.proofs.Appends.{issue-told}
use Rattle.pending_log.proofs.append.issue.Goals as goal

pub returns : goal.returns
returns c =
    let t = issue-told _ c.args.code.now c.args.log.now _ _ _ _ _ c.write.ensures (c.append.ensures.answer, c.append.ensures.log) in
    record { answer = t.0; log = t.1 }
