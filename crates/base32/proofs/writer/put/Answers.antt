-- One character more.
use Rattle.std.proofs.Common.{arith, refl, ◌≡◌, ◌-◌, ◌*◌, length}
use Rattle.iscc.specs.Alphabet.{char_in}
use Rattle.iscc.proofs.Area.{length-written}
use Rattle.iscc.proofs.Groups.{put-none, put_next, put_whole}
use Rattle.base32.proofs.writer.put.Goals as goal

pub loop-i-init : goal.loop-i-init
loop-i-init c = put-none _ _ _ _ _ _ (omega arith)

pub loop-i-preserved : goal.loop-i-preserved
unfolding char_in
loop-i-preserved c =
    let s = c.loop-i.invariant in
    let n : length c.loop-i.part ≡ length c.args.part.now = length-written s.is in
    let e : (length c.loop-i.part - 1 - c.loop-i.i) * 5 ≡ 5 * (length c.args.part.now - 1 - c.loop-i.i) = omega (arith, n) in
    put_next _ _ _ _ _ s (omega arith) (omega arith) (rw (c.requires.alphabet_value, e))

pub returns : goal.returns
returns c = put_whole _ _ _ _ c.loop-i.invariant (omega (arith, length-written c.loop-i.invariant.is)) refl
