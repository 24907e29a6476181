-- `check::is_register` meets its contract. The length goes by arithmetic, so that it stands whatever is compared.
use Rattle.std.proofs.Common.{arith}
use Rattle.register.proofs.Areas.{register-is}
use Rattle.register.proofs.check.is_register.Goals as goal

pub returns : goal.returns
returns c =
    register-is c.args.area.now _ (omega arith) (rw c.unwrap.ensures at c.first_chunk.ensures.cases).same _ c.are_counted.ensures
