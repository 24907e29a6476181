-- `Register::last_number`: the last four bytes.
use Rattle.std.proofs.Common.{◌∙◌, ap}
use Rattle.iscc.specs.Digits.{value}
use Rattle.register.proofs.Areas.{number-behind}
use Rattle.register.proofs.area.Register.last_number.Goals as goal

pub returns : goal.returns
returns c =
    c.number_in.ensures
    ∙ ap (value 8) (number-behind c.args.self.area.now _ c.args.self.whole (rw c.unwrap.ensures at c.last_chunk.ensures.cases).1)
