-- `replay::replay` meets its contract.
use Rattle.pending_log.proofs.Steps.{not_register-is, all_told-is}
use Rattle.pending_log.proofs.replay.replay.Goals as goal

pub returns-then-is_register : goal.returns-then-is_register
returns-then-is_register c =
    let t = all_told-is c.args.log.now c.args.area.now _ _ (c.run.ensures.answer, c.run.ensures.area) in
    record { answer = t.0; number = t.1.0; offset = t.1.1.0; area = t.1.1.1 }

pub returns : goal.returns
returns c =
    let t = all_told-is c.args.log.now c.args.area.now _ _ (not_register-is _ _ _ c.is_register.ensures c.if-is_register.false) in
    record { answer = t.0; number = t.1.0; offset = t.1.1.0; area = t.1.1.1 }
