-- `number::set` meets its contract.
use Rattle.register.proofs.Areas.{number-set}
use Rattle.register.proofs.number.set.Goals as goal

pub returns : goal.returns
returns c = number-set c.args.number c.args.area.now _ c.told-area c.write.ensures
