-- `Field::code_behind`: where the body ends before the offset there is no code.
use Rattle.std.proofs.Common.{◌∙◌, ap, is_some, arith}
use Rattle.pending_log.proofs.Applied.{body-short}
use Rattle.pending_log.proofs.field.Field.code_behind.Goals as goal

pub returns-in_err-code-clause-is : goal.returns-in_err-code-clause-is
returns-in_err-code-clause-is c =
    ap is_some c.from_residual.ensures ∙ body-short c.args.self.body.now c.args.offset (omega (arith, c.in_err-code.ensures.lookup.0))
