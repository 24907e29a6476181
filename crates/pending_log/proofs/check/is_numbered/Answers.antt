-- `check::is_numbered`: what is a code has 42 bytes at most.
use Rattle.iscc.proofs.Digits.{below_all}
use Rattle.pending_log.proofs.Appends.{code_fits, number-some}
use Rattle.pending_log.proofs.check.is_numbered.Goals as goal

pub returns-clause-most : goal.returns-clause-most
returns-clause-most c =
    code_fits c.args.code.now c.args.record_number (below_all 256 c.args.code.now (λ k _. (c.type_inv.code k).fits))
    _ (number-some c.args.code.now c.args.record_number c.if-record_number-eq0.false _ c.is_code.ensures)
