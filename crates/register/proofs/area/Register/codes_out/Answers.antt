-- `Register::codes_out`: there are at most 256.
use Rattle.register.proofs.Areas.{first-there}
use Rattle.register.proofs.area.Register.codes_out.Goals as goal

pub returns : goal.returns
returns c = first-there c.args.self.area.now _ c.count.ensures
