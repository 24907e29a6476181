-- `append::take_back` meets its contract.
use Rattle.pending_log.proofs.Appends.{return-told}
use Rattle.pending_log.proofs.append.take_back.Goals as goal

pub returns : goal.returns
returns c =
    let t = return-told _ c.args.code.now c.args.log.now _ _ _ (c.append.ensures.answer, c.append.ensures.log) in
    record { answer = t.0; log = t.1 }
