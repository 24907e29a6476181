-- `sheet::count` meets its contract.
use Rattle.std.proofs.Common.{refl, true, false}
use Rattle.hall.proofs.SheetLines.{count_yes, count_no}
use Rattle.hall.proofs.sheet.count.Goals as goal

pub returns-in-Some : goal.returns-in-Some
returns-in-Some c = count_yes c.args.area.now true c.in-Some.ensures.valid refl _ (rw c.in-Some.ensures.area at c.codes_out.ensures.0)

pub returns-in-None : goal.returns-in-None
returns-in-None c = count_no c.args.area.now false c.in-None.ensures.valid refl
