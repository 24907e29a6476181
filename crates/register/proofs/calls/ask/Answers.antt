-- `calls::ask` meets its contract.
use borrow.Author.Rules.{rules}
use Rattle.std.proofs.Common.{◌≡◌, ap}
use Rattle.register.proofs.Texts.{code_fits, is-register, ask-told, ask-refused}
use Rattle.register.proofs.calls.ask.Goals as goal

pub slice_bounds-ask-end : goal.slice_bounds-ask-end
slice_bounds-ask-end c = code_fits _ _ _ c.admit.ensures _ c.in-Ok.is

pub new-requires : goal.new-requires
new-requires c = is-register _ _ _ c.admit.ensures _ c.in-Ok.is

pub returns-in-Ok : goal.returns-in-Ok
returns-in-Ok c =
    let t = ask-told c.args.text.now c.args.area.now _ c.admit.ensures _ c.in-Ok.is _ (rw c.new.ensures at c.ask.ensures) in
    record { answer = t.0; number = t.1.0; borrower = t.1.1.0; looks = t.1.1.1 }

pub returns-in-Err : goal.returns-in-Err
returns-in-Err c =
    let t = ask-refused c.args.text.now c.args.area.now _ c.admit.ensures _ c.in-Err.is in
    record { answer = t.0; number = t.1.0; borrower = t.1.1.0; looks = t.1.1.1 }
