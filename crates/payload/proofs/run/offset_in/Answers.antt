-- One character more; the one that is looked for is the first that is no hyphen once nothing is left of the index.
use Rattle.std.proofs.Common.{◌≡◌, arith}
use Rattle.payload.specs.Offsets.{offset_in}
use Rattle.payload.proofs.Offsets.{offset-hyphen, offset-here, offset-next, offset-end}
use Rattle.payload.proofs.run.offset_in.Goals as goal

pub loop-at-preserved-then-c-eq45 : goal.loop-at-preserved-then-c-eq45
loop-at-preserved-then-c-eq45 c = offset-hyphen _ _ _ _ c.loop-at.invariant c.loop-at-test.true c.if-c-eq45.true

pub loop-at-preserved : goal.loop-at-preserved
loop-at-preserved c = offset-next _ _ _ _ c.loop-at.invariant c.loop-at-test.true c.if-c-eq45.false c.if-left-eq0.false

pub returns-then-left-eq0-clause-value : goal.returns-then-left-eq0-clause-value
returns-then-left-eq0-clause-value c = offset-here _ _ _ _ c.loop-at.invariant c.loop-at-test.true c.if-c-eq45.false c.if-left-eq0.true

pub returns-clause-value : goal.returns-clause-value
returns-clause-value c =
    let e : c.loop-at.at ≡ offset_in c.args.typed.now c.args.index = offset-end _ _ _ _ c.loop-at.invariant c.loop-at-test.false in
    omega arith
