-- `calls::issue` meets its contract.
use Rattle.std.proofs.Common.{◌∙◌, ap}
use Rattle.iscc.proofs.Answer.{exit-same}
use Rattle.register.specs.Representation.{changed_number, changed_record}
use Rattle.register.proofs.Texts.{code_fits, is-register, one_code-is, issue-told, issue-refused}
use Rattle.register.proofs.calls.issue.Goals as goal

pub returns-in_err-code : goal.returns-in_err-code
returns-in_err-code c =
    let e = exit-same _ c.from_residual.ensures in
    let t = issue-refused c.args.text.now c.args.area.now _ c.admit.ensures _ c.in_err-code.was c.args.borrower in
    record { answer = e ∙ t.0; number = ap changed_number e ∙ t.1.0; taken = ap changed_record e ∙ t.1.1.0; area = t.1.1.1 }

pub slice_bounds-issue-end : goal.slice_bounds-issue-end
slice_bounds-issue-end c = code_fits _ _ _ c.admit.ensures _ c.in_ok-code.was

pub issue-requires : goal.issue-requires
issue-requires c = (is-register _ _ _ c.admit.ensures _ c.in_ok-code.was, one_code-is _ _ _ c.admit.ensures _ c.in_ok-code.was)

pub returns : goal.returns
returns c =
    let t = issue-told c.args.text.now c.args.area.now _ c.admit.ensures _ c.in_ok-code.was c.args.borrower _ _ (c.issue.ensures.answer, c.issue.ensures.area) in
    record { answer = t.0; number = t.1.0; taken = t.1.1.0; area = t.1.1.1 }
