-- `differing` meets its contract.
use Rattle.std.proofs.Common.{arith, ◌≡◌, ◌+◌, ◌*◌, ◌/◌}
use Rattle.distance.proofs.Counted.{start, word_more, byte_more, small, end}
use Rattle.distance.proofs.bits.differing.Goals as goal

pub loop-i-init : goal.loop-i-init
loop-i-init c = start _ _ _ c.requires c.min-n.ensures

pub overflow_add-d : goal.overflow_add-d
overflow_add-d c = omega (arith, small c.loop-i.invariant)

pub loop-i-preserved : goal.loop-i-preserved
loop-i-preserved c =
    word_more _ _ _ _ _ _ _ _ c.loop-i.invariant c.as_chunks.ensures.front c.as_chunks-2.ensures.front (omega (arith, c.as_chunks.ensures.front_len)) c.of_words-d.ensures.0

pub overflow_add-d-in-loop-i-2 : goal.overflow_add-d-in-loop-i-2
overflow_add-d-in-loop-i-2 c = omega (arith, small c.loop-i-2.invariant)

pub loop-i-2-init : goal.loop-i-2-init
loop-i-2-init c =
    let e : 4 * c.loop-i.i ≡ c.min-n.result / 4 * 4 + 0 = omega (arith, c.as_chunks.ensures.front_len, c.loop-i.invariant.first) in
    rw e at c.loop-i.invariant

pub loop-i-2-preserved : goal.loop-i-2-preserved
loop-i-2-preserved c =
    byte_more _ _ _ _ _ _ _ _ c.loop-i-2.invariant c.as_chunks.ensures.back c.as_chunks-2.ensures.back c.loop-i-2-test.true c.of_words-d-in-loop-i-2.ensures.0

pub overflow_cast-result : goal.overflow_cast-result
overflow_cast-result c = omega (arith, small c.loop-i-2.invariant)

pub returns : goal.returns
returns c = end _ _ _ _ _ c.loop-i-2.invariant c.min-n.ensures (omega (arith, c.as_chunks.ensures.back_len, c.loop-i-2.invariant.first))
