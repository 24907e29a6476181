-- The answer from its tests.
use Rattle.std.proofs.Common.{◌∙◌, sym}
use borrow.Author.Tests.{eqb-true, eqb-false}
use Rattle.payload.proofs.Payloads.{run-empty, run-over, run-accepted, run-refused}
use Rattle.payload.proofs.reader.read_run.Goals as goal

pub returns-then-is_empty : goal.returns-then-is_empty
returns-then-is_empty c =
    let r = c.args.run in
    let a = run-empty r.typed.text.now r.chars.now r.typed.short r.cleaned c.args.out.now (eqb-true _ 0 (sym c.is_empty.ensures ∙ c.if-is_empty.true)) in
    record { answer = rw c.with_detail.ensures a.0; area = a.1 }

pub returns-then-run-gt-LONGEST_RUN : goal.returns-then-run-gt-LONGEST_RUN
returns-then-run-gt-LONGEST_RUN c =
    let r = c.args.run in
    let a = run-over r.typed.text.now r.chars.now r.typed.short r.cleaned c.args.out.now c.if-run-gt-LONGEST_RUN.true in
    record { answer = rw c.with_detail-then-run-gt-LONGEST_RUN.ensures a.0; area = a.1 }

pub returns-in-Ok : goal.returns-in-Ok
returns-in-Ok c =
    let r = c.args.run in
    let a = run-accepted r.typed.text.now r.chars.now r.typed.short r.cleaned (eqb-false _ 0 (sym c.is_empty.ensures ∙ c.if-is_empty.false)) c.if-run-gt-LONGEST_RUN.false c.args.out.now _ _ c.read.ensures.answer c.read.ensures.area _ c.in-Ok.is in
    record { answer = a.0; area = a.1 }

pub returns-in-Err : goal.returns-in-Err
returns-in-Err c =
    let r = c.args.run in
    let a = run-refused r.typed.text.now r.chars.now r.typed.short r.cleaned (eqb-false _ 0 (sym c.is_empty.ensures ∙ c.if-is_empty.false)) c.if-run-gt-LONGEST_RUN.false c.args.out.now _ _ c.read.ensures.answer c.read.ensures.area _ _ c.in-Err.is c.bad_offset.ensures in
    record { answer = rw c.with_detail-in-Err.ensures a.0; area = a.1 }
