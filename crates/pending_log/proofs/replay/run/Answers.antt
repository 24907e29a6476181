-- `replay::run`: each field is applied in its turn.
use Rattle.std.proofs.Common.{arith}
use Rattle.iscc.proofs.Digits.{below_all}
use Rattle.pending_log.specs.Representation.{field_in}
use Rattle.pending_log.proofs.Sizes.{field-there}
use Rattle.pending_log.proofs.Steps.{at-start, ran_out, torn-there, stopped-there, one_more}
use Rattle.pending_log.proofs.replay.run.Goals as goal

pub loop-offset-init : goal.loop-offset-init
loop-offset-init c = at-start _ _ (below_all 256 c.args.area.now (λ k _. (c.type_inv.area k).fits)) c.requires

pub returns-in_default : goal.returns-in_default
returns-in_default c =
    let t = torn-there _ _ _ _ c.loop-offset.invariant c.loop-offset-test.true c.in_default.ensures.whole in
    record { answer = t.0; area = t.1 }

pub returns-in-Err : goal.returns-in-Err
returns-in-Err c =
    let log = below_all 256 c.args.log.now (λ k _. (c.type_inv.log k).fits) in
    let there = field-there _ _ c.loop-offset.invariant.within (field_in c.in-Some.field) c.in-Some.ensures.whole c.in-Some.ensures.field in
    let t = stopped-there _ _ _ _ c.loop-offset.invariant _ there _ _ (c.apply.ensures.answer, c.apply.ensures.area) log _ c.in-Err.is in
    record { answer = t.0; area = t.1 }

pub loop-offset-preserved : goal.loop-offset-preserved
loop-offset-preserved c =
    let log = below_all 256 c.args.log.now (λ k _. (c.type_inv.log k).fits) in
    let there = field-there _ _ c.loop-offset.invariant.within (field_in c.in-Some.field) c.in-Some.ensures.whole c.in-Some.ensures.field in
    one_more _ _ _ _ c.loop-offset.invariant _ there _ _ (c.apply.ensures.answer, c.apply.ensures.area) log
    (λ k. (c.type_inv.area k).fits) _ c.in_default-apply.is _ (omega arith)

pub returns : goal.returns
returns c =
    let t = ran_out _ _ _ _ c.loop-offset.invariant c.loop-offset-test.false in
    record { answer = t.0; area = t.1 }
