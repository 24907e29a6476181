-- `Register::next_number` meets its contract. The test goes by arithmetic, so that it stands whatever number it compares with.
use Rattle.std.proofs.Common.{◌+◌, Some, refl, arith}
use Rattle.register.proofs.Areas.{next-is}
use Rattle.register.proofs.Told.{next-none}
use Rattle.register.proofs.area.Register.next_number.Goals as goal

pub returns-then-last : goal.returns-then-last
returns-then-last c = next-none _ _ c.last_number-last.ensures (omega arith)

pub returns : goal.returns
returns c = next-is _ _ (Some (c.last_number-last.result + 1)) c.last_number-last.ensures (omega arith, refl)
