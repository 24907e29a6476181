-- The first refusal that has the number, or the number alone where none has it.
use Rattle.std.proofs.Common.{◌<◌, ◌∙◌, ap, sym, length, arith}
use Rattle.iscc.proofs.Refusals.{refusal-other, left-all, left_next}
use Rattle.iscc.proofs.refusal.Refusal.from_number.Goals as goal

pub loop-q-init : goal.loop-q-init
loop-q-init c = left-all _ _ c.all-q-items.ensures

pub loop-q-preserved : goal.loop-q-preserved
loop-q-preserved c =
    let inside : c.loop-q.q-index < length c.all-q-items.result = omega (arith, ap length c.all-q-items.ensures) in
    left_next _ _ _ c.q-item.result inside c.loop-q.invariant (λ e. c.if-number.false (c.number.ensures ∙ e))

pub returns : goal.returns
returns c = sym (refusal-other _ _)
