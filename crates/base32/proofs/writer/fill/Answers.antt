-- Group by group, then the rest.
use Rattle.std.proofs.Common.{refl, arith, ◌∙◌}
use Rattle.iscc.proofs.Digits.{below_all}
use Rattle.iscc.proofs.Groups.{encoded-none}
use Rattle.base32.proofs.Characters.{five}
use Rattle.base32.proofs.Filled.{characters-room, characters-more, left-room, left-more}
use Rattle.iscc.specs.Base32.{base32}
use Rattle.base32.proofs.writer.fill.Goals as goal

pub loop-i-init : goal.loop-i-init
loop-i-init c = encoded-none base32 five _ _

pub slice_bounds-put-end : goal.slice_bounds-put-end
slice_bounds-put-end c =
    characters-room _ _ (below_all 256 _ (λ k _. (c.type_inv.bytes k).fits)) c.requires _ c.as_chunks.ensures.front _ _ (omega (arith, c.as_chunks.ensures.front_len)) c.loop-i.invariant

pub loop-i-preserved : goal.loop-i-preserved
loop-i-preserved c =
    characters-more _ _ (below_all 256 _ (λ k _. (c.type_inv.bytes k).fits)) c.requires _ c.as_chunks.ensures.front _ _ (omega (arith, c.as_chunks.ensures.front_len)) c.loop-i.invariant c.load_five.result _ _ (omega arith) c.load_five.ensures c.put.ensures

pub slice_bounds-put-end-2 : goal.slice_bounds-put-end-2
slice_bounds-put-end-2 c =
    left-room _ _ (below_all 256 _ (λ k _. (c.type_inv.bytes k).fits)) c.requires _ c.as_chunks.ensures.back _ _ _ c.as_chunks.ensures.front_len (omega (arith, c.loop-i.auto.i-end)) c.loop-i.invariant

pub returns : goal.returns
returns c =
    left-more _ _ (below_all 256 _ (λ k _. (c.type_inv.bytes k).fits)) c.requires _ c.as_chunks.ensures.back _ _ _ c.as_chunks.ensures.front_len (omega (arith, c.loop-i.auto.i-end)) c.loop-i.invariant c.from.result _ _ _ (omega arith) (c.from.ensures ∙ c.read.ensures) refl c.put-2.ensures
