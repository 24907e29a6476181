-- `compare::compare` meets its contract.
use Rattle.loans.specs.Contents.{contents_of}
use Rattle.promotion.proofs.Trial.{loans-differ, nothing-differs, last-differs}
use Rattle.promotion.proofs.compare.compare.Goals as goal

pub returns-in-Some : goal.returns-in-Some
returns-in-Some c = loans-differ (contents_of c.args.made.area.now) (contents_of c.args.held.area.now) _ c.least.ensures _ c.in-Some.is

pub returns-then-last_number : goal.returns-then-last_number
returns-then-last_number c =
    last-differs (contents_of c.args.made.area.now) (contents_of c.args.held.area.now) _ c.least.ensures c.in_default.not-Some
    _ _ c.last_number.ensures c.last_number-2.ensures c.if-last_number.true

pub returns : goal.returns
returns c =
    nothing-differs (contents_of c.args.made.area.now) (contents_of c.args.held.area.now) _ c.least.ensures c.in_default.not-Some
    _ _ c.last_number.ensures c.last_number-2.ensures c.if-last_number.false
