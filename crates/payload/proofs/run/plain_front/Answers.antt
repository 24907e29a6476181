-- A part more.
use Rattle.std.proofs.Common.{◌≡◌, ◌≤◌, ◌-◌, length, refl, arith}
use mathlib.Core.Path.{sym}
use lib.Seq.{take-length}
use Rattle.payload.proofs.Runs.{clear_none, clear_more, left-more}
use Rattle.payload.proofs.run.plain_front.Goals as goal

pub loop-part-init : goal.loop-part-init
loop-part-init c =
    let z : length c.args.typed.now - length c.args.typed.now ≡ 0 = omega arith in
    record { fewer = omega arith; left = rw z refl; clear = rw z (clear_none c.args.typed.now) }

pub loop-part-preserved : goal.loop-part-preserved
loop-part-preserved c =
    let l = c.loop-part.invariant in
    let s = c.in-Some.ensures.cases in
    let k : 16 ≤ length c.loop-part.rest.now = omega (arith, s.2) in
    record {
      fewer = omega (arith, l.fewer, s.2);
      left = left-more _ _ _ _ l.fewer l.left k s.1 s.2;
      clear = clear_more _ _ _ _ _ _ l.fewer l.left l.clear k s.0 c.none_in.ensures c.if-not-none_in.false s.2;
    }

pub returns-then-none_in-clause-plain : goal.returns-then-none_in-clause-plain
returns-then-none_in-clause-plain c =
    let l = c.loop-part.invariant in
    let t = c.args.typed.now in
    let r = c.loop-part.rest.now in
    let z : length t - 0 ≡ length t = omega arith in
    rw z at (clear_more t r r (length r) 0 _ l.fewer l.left l.clear (omega arith) (sym (take-length r)) c.none_in-2.ensures c.if-none_in.true (omega arith)).none
