-- `order_of`: a word decides where it differs, and else what is behind them all.
use Rattle.std.proofs.Common.{arith}
use mathlib.Core.Path.{refl, ◌∙◌}
use Rattle.octets.proofs.Order.{by_cmp}
use Rattle.octets.proofs.Words.{decided, passed, rest-decides, equal-told, unequal-told}
use Rattle.octets.proofs.compare.order_of.Goals as goal

pub returns-then-ne : goal.returns-then-ne
returns-then-ne c =
    decided c.args.a.now c.args.b.now _ _ _ _ _ _ c.loop-i.invariant refl refl c.as_chunks.ensures.front c.as_chunks-2.ensures.front
    (omega (arith, c.loop-i-test.true, c.as_chunks.ensures.front_len)) _ c.by_word-order.ensures (unequal-told _ _ c.ne.ensures c.if-ne.true)

pub loop-i-preserved : goal.loop-i-preserved
loop-i-preserved c =
    passed c.args.a.now c.args.b.now _ _ _ _ _ _ c.loop-i.invariant refl refl c.as_chunks.ensures.front c.as_chunks-2.ensures.front
    (omega (arith, c.loop-i-test.true, c.as_chunks.ensures.front_len)) _ c.by_word-order.ensures (equal-told _ _ c.ne.ensures c.if-ne.false)

pub returns : goal.returns
returns c =
    c.cmp.ensures ∙ by_cmp _ _ ∙ rest-decides c.args.a.now c.args.b.now _ c.loop-i.i _ c.loop-i.invariant (omega (arith, c.loop-i-test.false, c.loop-i.auto.i-end))
