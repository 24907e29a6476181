-- `sheet::line` meets its contract.
use Rattle.std.proofs.Common.{◌∙◌, refl, true, false, arith}
use Rattle.hall.proofs.SheetLines.{first-line, other-line, no_line, no_lines}
use Rattle.hall.proofs.sheet.line.Goals as goal

pub returns-in_default : goal.returns-in_default
returns-in_default c = c.new.ensures ∙ no_lines c.args.area.now false c.in_default.ensures.valid refl _

pub returns-then-i-eq0 : goal.returns-then-i-eq0
returns-then-i-eq0 c = first-line c.args.area.now true c.in-Some.ensures.valid refl _ _ c.if-i-eq0.true (rw c.in-Some.ensures.area at c.counts.ensures)

pub returns-then-i-codes_out : goal.returns-then-i-codes_out
returns-then-i-codes_out c =
    let used = rw c.in-Some.ensures.area at c.codes_out.ensures.0 in
    other-line c.args.area.now true c.in-Some.ensures.valid refl _ _ c.if-i-eq0.false (omega (arith, used, c.if-i-codes_out.true))
    (rw c.in-Some.ensures.area at c.loan.ensures)

pub returns : goal.returns
returns c =
    let used = rw c.in-Some.ensures.area at c.codes_out.ensures.0 in
    c.new-2.ensures ∙ no_line c.args.area.now true c.in-Some.ensures.valid refl _ _ used c.if-i-codes_out.false
