-- Group by group, then the rest.
use Rattle.std.proofs.Common.{refl, arith}
use Rattle.iscc.proofs.Groups.{decoded-none}
use Rattle.base32.proofs.Filled.{group-below, group-room, group-more, rest-below, rest-room, rest-more}
use Rattle.base32.proofs.reader.fill.Goals as goal

pub loop-i-init : goal.loop-i-init
loop-i-init c = decoded-none _ _ _

pub load_eight-requires : goal.load_eight-requires
load_eight-requires c = group-below _ _ c.requires.below c.requires.text_in_bounds _ c.as_chunks.ensures.front _ (omega (arith, c.as_chunks.ensures.front_len))

pub slice_bounds-put-end : goal.slice_bounds-put-end
slice_bounds-put-end c = group-room _ _ c.requires.below c.requires.text_in_bounds _ c.as_chunks.ensures.front _ (omega (arith, c.as_chunks.ensures.front_len)) _ c.loop-i.invariant

pub loop-i-preserved : goal.loop-i-preserved
loop-i-preserved c =
    group-more _ _ c.requires.below c.requires.text_in_bounds _ c.as_chunks.ensures.front _ (omega (arith, c.as_chunks.ensures.front_len)) _ c.loop-i.invariant c.load_eight.result _ _ (omega arith) c.load_eight.ensures c.put.ensures

pub load-requires-clause-below : goal.load-requires-clause-below
load-requires-clause-below c = rest-below _ _ c.requires.below c.requires.text_in_bounds _ c.as_chunks.ensures.back

pub slice_bounds-put-end-2 : goal.slice_bounds-put-end-2
slice_bounds-put-end-2 c =
    rest-room _ _ c.requires.below c.requires.text_in_bounds _ c.as_chunks.ensures.back _ _ _ c.as_chunks.ensures.front_len (omega (arith, c.loop-i.auto.i-end)) c.loop-i.invariant

pub returns : goal.returns
returns c =
    rest-more _ _ c.requires.below c.requires.text_in_bounds _ c.as_chunks.ensures.back _ _ _ c.as_chunks.ensures.front_len (omega (arith, c.loop-i.auto.i-end)) c.loop-i.invariant c.load.result _ _ _ (omega arith) c.load.ensures refl c.put-2.ensures
