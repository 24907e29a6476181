-- `change::take_back` meets its contract.
use Rattle.std.proofs.Common.{sym, ◌∙◌}
use Rattle.iscc.proofs.Digits.{below_all}
use Rattle.loans.specs.Map.{return_code}
use Rattle.register.proofs.Changes.{spent, size-known, take-known, return-none, return-done}
use Rattle.register.proofs.change.take_back.Goals as goal

pub returns-in_default : goal.returns-in_default
returns-in_default c =
    let next = rw c.new-register.ensures at c.next_number.ensures in
    let t = spent c.args.area.now c.requires _ next (return_code c.args.code.now) c.in_default.is in
    record { answer = t.0; area = t.1 }

pub returns-in_default-place : goal.returns-in_default-place
returns-in_default-place c =
    let area = below_all 256 c.args.area.now (λ k _. (c.slice_known-1.given k).fits) in
    let next = rw c.new-register.ensures at c.next_number.ensures in
    let at = rw c.new-register.ensures at c.find-at.ensures in
    let t = return-none c.args.code.now c.args.area.now c.requires _ at _ _ next _ c.in-Some.is area c.in_default-place.is in
    record { answer = t.0; area = t.1 }

pub take-requires : goal.take-requires
take-requires c =
    let area = below_all 256 c.args.area.now (λ k _. (c.slice_known-1.given k).fits) in
    let at = rw c.new-register.ensures at c.find-at.ensures in
    let used = rw c.new-register.ensures at c.codes_out-used.ensures.0 in
    let whole = (rw c.unwrap-area.ensures at c.as_mut_array.ensures.cases).same in
    rw whole (take-known _ c.args.area.now c.requires _ at _ c.in-Ok.is area _ used)

pub returns : goal.returns
returns c =
    let area = below_all 256 c.args.area.now (λ k _. (c.slice_known-1.given k).fits) in
    let next = rw c.new-register.ensures at c.next_number.ensures in
    let at = rw c.new-register.ensures at c.find-at.ensures in
    let used = rw c.new-register.ensures at c.codes_out-used.ensures.0 in
    let whole = (rw c.unwrap-area.ensures at c.as_mut_array.ensures.cases).same in
    let t = return-done c.args.code.now c.args.area.now c.requires _ at _ _ next _ c.in-Some.is area c.in-Ok.is _ used _ _ (c.take.array_long ∙ sym (size-known c.args.area.now c.requires)) (rw whole at c.take.ensures) c.set.ensures in
    record { answer = t.0; area = t.1 }
