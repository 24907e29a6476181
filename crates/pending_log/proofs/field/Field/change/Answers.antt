-- `Field::change`: by the tag, and what stands behind the number.
use Rattle.std.proofs.Common.{arith, ◌∙◌, sym, ap, is_some}
use Rattle.iscc.proofs.Booleans.{both_true}
use Rattle.pending_log.proofs.Applied.{issue-is, is-return, is-other, code-within, borrower-part, issue-change, return-change}
use Rattle.pending_log.proofs.field.Field.change.Goals as goal

pub returns-in_err-code-clause-is : goal.returns-in_err-code-clause-is
returns-in_err-code-clause-is c = ap is_some c.from_residual.ensures ∙ c.in_err-code.ensures.is ∙ issue-is c.args.self.tag _ c.if-self-eq-ISSUE_TAG.true

pub slice_bounds-number_in-end : goal.slice_bounds-number_in-end
slice_bounds-number_in-end c = omega (arith, code-within c.args.self.body.now 8 (both_true _ _ (sym c.in_ok-code.ensures.is)).0)

pub returns-then-self-eq-ISSUE_TAG-clause-is : goal.returns-then-self-eq-ISSUE_TAG-clause-is
returns-then-self-eq-ISSUE_TAG-clause-is c = c.in_ok-code.ensures.is ∙ issue-is c.args.self.tag _ c.if-self-eq-ISSUE_TAG.true

pub returns-then-self-eq-ISSUE_TAG-clause-change : goal.returns-then-self-eq-ISSUE_TAG-clause-change
returns-then-self-eq-ISSUE_TAG-clause-change c =
    rw (c.in_ok-code.ensures.code, borrower-part c.args.self.tag c.args.self.body.now _ c.number_in-borrower.ensures) (sym (issue-change c.args.self.tag c.args.self.body.now c.if-self-eq-ISSUE_TAG.true))

pub returns-in_err-code-2-clause-is : goal.returns-in_err-code-2-clause-is
returns-in_err-code-2-clause-is c =
    ap is_some c.from_residual-in_err-code-2.ensures ∙ c.in_err-code-2.ensures.is ∙ is-return _ _ c.if-self-eq-ISSUE_TAG.false (omega arith)

pub returns-then-self-eq-RETURN_TAG-clause-is : goal.returns-then-self-eq-RETURN_TAG-clause-is
returns-then-self-eq-RETURN_TAG-clause-is c = c.in_ok-code-2.ensures.is ∙ is-return _ _ c.if-self-eq-ISSUE_TAG.false (omega arith)

pub returns-then-self-eq-RETURN_TAG-clause-change : goal.returns-then-self-eq-RETURN_TAG-clause-change
returns-then-self-eq-RETURN_TAG-clause-change c =
    rw c.in_ok-code-2.ensures.code (sym (return-change c.args.self.tag c.args.self.body.now c.if-self-eq-ISSUE_TAG.false))

pub returns-clause-is : goal.returns-clause-is
returns-clause-is c = is-other _ _ c.if-self-eq-ISSUE_TAG.false (omega arith)
