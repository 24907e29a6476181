-- `Register::count`: the counts in front are true.
use Rattle.std.proofs.Common.{◌∙◌, ap}
use Rattle.loans.specs.Moves.{number_at}
use Rattle.register.proofs.Areas.{number-there}
use Rattle.register.proofs.area.Register.count.Goals as goal

pub returns : goal.returns
returns c =
    number-there c.args.self.area.now _ _ c.args.self.valid c.requires
    (c.read.ensures.0 ∙ ap (number_at c.args.i) (rw c.unwrap.ensures at c.first_chunk.ensures.cases).same)
