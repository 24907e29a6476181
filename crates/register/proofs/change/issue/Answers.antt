-- `change::issue` meets its contract.
use Rattle.std.proofs.Common.{sym, ◌∙◌, arith}
use Rattle.iscc.proofs.Digits.{below_all}
use Rattle.loans.specs.Map.{issue_code}
use Rattle.register.proofs.Changes.{spent, size-known, room-left, room_within, issue-out, issue-full, issue-done}
use Rattle.register.proofs.change.issue.Goals as goal

pub returns-in_default : goal.returns-in_default
returns-in_default c =
    let next = rw c.new-register.ensures at c.next_number.ensures in
    let t = spent c.args.area.now c.requires.0 _ next (issue_code c.args.code.now c.args.borrower) c.in_default.is in
    record { answer = t.0; area = t.1 }

pub returns-in_default-place : goal.returns-in_default-place
returns-in_default-place c =
    let area = below_all 256 c.args.area.now (λ k _. (c.slice_known-1.given k).fits) in
    let next = rw c.new-register.ensures at c.next_number.ensures in
    let at = rw c.new-register.ensures at c.find-at.ensures in
    let t = issue-out c.args.code.now c.args.area.now c.requires.0 _ at _ _ next _ c.in-Some.is area c.args.borrower c.in_default-place.is in
    record { answer = t.0; area = t.1 }

pub returns-then-used-eq-PLACES : goal.returns-then-used-eq-PLACES
returns-then-used-eq-PLACES c =
    let area = below_all 256 c.args.area.now (λ k _. (c.slice_known-1.given k).fits) in
    let next = rw c.new-register.ensures at c.next_number.ensures in
    let at = rw c.new-register.ensures at c.find-at.ensures in
    let used = rw c.new-register.ensures at c.codes_out-used.ensures.0 in
    let t = issue-full c.args.code.now c.args.area.now c.requires.0 _ at _ _ next _ c.in-Some.is area c.args.borrower c.in-Err.is _ used (omega arith) in
    record { answer = t.0; area = t.1 }

pub put-requires : goal.put-requires
put-requires c =
    let area = c.args.area.now in
    let at = rw c.new-register.ensures at c.find-at.ensures in
    let used = rw c.new-register.ensures at c.codes_out-used.ensures.0 in
    (c.requires.1, room_within _ area c.requires.0 _ at _ c.in-Err.is _ used, room-left area _ used c.if-used-eq-PLACES.false)

pub returns : goal.returns
returns c =
    let area = below_all 256 c.args.area.now (λ k _. (c.slice_known-1.given k).fits) in
    let code = below_all 256 c.args.code.now (λ k _. (c.type_inv.code k).fits) in
    let next = rw c.new-register.ensures at c.next_number.ensures in
    let at = rw c.new-register.ensures at c.find-at.ensures in
    let used = rw c.new-register.ensures at c.codes_out-used.ensures.0 in
    let whole = (rw c.unwrap-area.ensures at c.as_mut_array.ensures.cases).same in
    let t =
    issue-done c.args.code.now c.args.area.now c.requires.0 _ at _ _ next _ c.in-Some.is area
    c.args.borrower c.in-Err.is _ used c.if-used-eq-PLACES.false code c.ranges.borrower.fits c.requires.1
    _ _ (c.put.array_long ∙ sym (size-known c.args.area.now c.requires.0)) (rw whole at c.put.ensures) c.set.ensures in
    record { answer = t.0; area = t.1 }
