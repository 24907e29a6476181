-- `apply::apply` meets its contract.
use Rattle.std.proofs.Common.{sym, arith}
use Rattle.pending_log.specs.Representation.{field_in}
use Rattle.pending_log.proofs.Applied.{no_record, skipped, gap, next-made}
use Rattle.pending_log.proofs.apply.apply.Goals as goal

pub returns-in_default : goal.returns-in_default
returns-in_default c =
    let t = no_record (field_in c.args.field) c.args.area.now (sym c.in_default.ensures.is) in
    record { answer = t.0; area = t.1 }

pub returns-then-record_number-last : goal.returns-then-record_number-last
returns-then-record_number-last c =
    let last = rw c.new.ensures at c.last_number-last.ensures in
    let t = skipped (field_in c.args.field) c.args.area.now (sym c.in-Some.ensures.is) _ _ c.number-record_number.ensures last (omega arith) in
    record { answer = t.0; area = t.1 }

pub returns-then-record_number-last-2 : goal.returns-then-record_number-last-2
returns-then-record_number-last-2 c =
    let last = rw c.new.ensures at c.last_number-last.ensures in
    let t =
    gap (field_in c.args.field) c.args.area.now (sym c.in-Some.ensures.is) _ _ c.number-record_number.ensures last
    c.if-record_number-last.false (λ e. omega (arith, e)) in
    record { answer = t.0; area = t.1 }

pub returns : goal.returns
returns c =
    let last = rw c.new.ensures at c.last_number-last.ensures in
    let answer = rw c.in-Some.ensures.change at c.make.ensures.answer in
    let area = rw c.in-Some.ensures.change at c.make.ensures.area in
    let t =
    next-made (field_in c.args.field) c.args.area.now (sym c.in-Some.ensures.is) _ _ c.number-record_number.ensures last
    c.if-record_number-last-2.false _ _ (answer, area) in
    record { answer = t.0; area = t.1 }
