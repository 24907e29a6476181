-- `difference::in_place` meets its contract: by the codes, then by the borrowers.
use Rattle.std.proofs.Common.{◌∙◌, sym, ap, Some}
use Rattle.loans.specs.Order.{loans_at}
use Rattle.loans.specs.Halving.{loan_in}
use Rattle.promotion.specs.Representation.{difference_as}
use Rattle.promotion.proofs.Walk.{less-told, greater-told, same-told, borrowers-told, borrower-held}
use Rattle.promotion.proofs.difference.in_place.Goals as goal

pub returns-in-Less : goal.returns-in-Less
returns-in-Less c = ap Some c.code_in.ensures ∙ sym (ap difference_as (less-told (loan_in (loans_at c.args.first.bytes.now) c.args.i) _ _ c.code.ensures.0 _ c.look.ensures c.in-Less.is))

pub returns-in-Greater : goal.returns-in-Greater
returns-in-Greater c =
    ap Some c.code_in-in-Greater.ensures
    ∙ sym (ap difference_as (greater-told (loan_in (loans_at c.args.first.bytes.now) c.args.i) _ _ c.code.ensures.0 _ c.look.ensures c.in-Greater.is))

pub returns-then-borrower : goal.returns-then-borrower
returns-then-borrower c =
    let a = borrower-held c.args.first.bytes.now c.args.i _ c.args.first.whole c.args.first.ordered c.requires.0 c.borrower.ensures in
    let b = borrower-held c.args.second.bytes.now c.args.i _ c.args.second.whole c.args.second.ordered c.requires.1 c.borrower-in-Equal.ensures in
    sym (ap difference_as (same-told _ _ _ c.code.ensures.0 _ c.look.ensures c.in-Equal.is _ _ a b c.if-borrower.true))

pub returns-else-borrower : goal.returns-else-borrower
returns-else-borrower c =
    let a = borrower-held c.args.first.bytes.now c.args.i _ c.args.first.whole c.args.first.ordered c.requires.0 c.borrower.ensures in
    let b = borrower-held c.args.second.bytes.now c.args.i _ c.args.second.whole c.args.second.ordered c.requires.1 c.borrower-in-Equal.ensures in
    ap Some c.code_in-in-Equal.ensures
    ∙ sym (ap difference_as (borrowers-told _ _ _ c.code.ensures.0 _ c.look.ensures c.in-Equal.is _ _ a b c.if-borrower.false))
