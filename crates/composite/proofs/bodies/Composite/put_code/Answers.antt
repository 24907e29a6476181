-- `Composite::put_code` meets its contract: the header's two bytes are set, and the bodies put behind them.
use Rattle.std.proofs.Common.{◌∙◌, arith}
use Rattle.composite.proofs.Bytes.{subtype-fits, code_written}
use Rattle.composite.proofs.bodies.Composite.put_code.Goals as goal

pub overflow_add-out : goal.overflow_add-out
overflow_add-out c = record { fits = omega (arith, c.number.ensures, subtype-fits _ c.self.invariant) }

pub overflow_cast-out : goal.overflow_cast-out
overflow_cast-out c = record { fits = omega (arith, c.number.ensures, subtype-fits _ c.self.invariant) }

pub returns : goal.returns
returns c =
    code_written _ c.args.self c.self.view_is c.self.invariant _ c.args.count c.args.out.now _ c.number.ensures c.requires.0 c.requires.1
    (c.copy_from_slice.ensures.after ∙ c.as_flattened.ensures.value)
