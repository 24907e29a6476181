-- `calls::take_back` meets its contract.
use Rattle.std.proofs.Common.{◌∙◌, ap}
use Rattle.iscc.proofs.Answer.{exit-same}
use Rattle.register.specs.Representation.{changed_number, changed_record}
use Rattle.register.proofs.Texts.{code_fits, is-register, one_code-is, return-told, return_refused}
use Rattle.register.proofs.calls.take_back.Goals as goal

pub returns-in_err-code : goal.returns-in_err-code
returns-in_err-code c =
    let e = exit-same _ c.from_residual.ensures in
    let t = return_refused c.args.text.now c.args.area.now _ c.admit.ensures _ c.in_err-code.was in
    record { answer = e ∙ t.0; number = ap changed_number e ∙ t.1.0; taken = ap changed_record e ∙ t.1.1.0; area = t.1.1.1 }

pub slice_bounds-take_back-end : goal.slice_bounds-take_back-end
slice_bounds-take_back-end c = code_fits _ _ _ c.admit.ensures _ c.in_ok-code.was

pub take_back-requires : goal.take_back-requires
take_back-requires c = is-register _ _ _ c.admit.ensures _ c.in_ok-code.was

pub returns : goal.returns
returns c =
    let t = return-told c.args.text.now c.args.area.now _ c.admit.ensures _ c.in_ok-code.was _ _ (c.take_back.ensures.answer, c.take_back.ensures.area) in
    record { answer = t.0; number = t.1.0; taken = t.1.1.0; area = t.1.1.1 }
