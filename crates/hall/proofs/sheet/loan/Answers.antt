-- `sheet::loan` meets its contract.
use Rattle.std.proofs.Common.{◌<◌, length}
use Rattle.loans.specs.Order.{loans_at}
use Rattle.promotion.proofs.Walk.{borrower-held}
use Rattle.hall.proofs.SheetLines.{loan-told}
use Rattle.hall.proofs.sheet.loan.Goals as goal

pub returns : goal.returns
returns c =
    let p = c.places-places.result in
    let h : c.args.i < length (loans_at p.bytes.now) = rw c.places-places.ensures c.requires in
    let held = borrower-held p.bytes.now _ _ p.whole p.ordered h c.borrower.ensures in
    rw c.places-places.ensures at (loan-told _ _ _ _ c.code.ensures.0 held c.out.ensures)
