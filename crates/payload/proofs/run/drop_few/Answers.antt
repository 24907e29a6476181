-- One character more, stored, and the next one over it where it is a hyphen.
use Rattle.std.proofs.Common.{arith, refl, ◌∙◌}
use Rattle.payload.proofs.Runs.{dropped-none, by-flag, dropped-next}
use Rattle.payload.proofs.run.drop_few.Goals as goal

pub loop-c-init : goal.loop-c-init
loop-c-init c = dropped-none _ _

pub loop-c-preserved : goal.loop-c-preserved
loop-c-preserved c =
    let l = c.loop-c.invariant in
    dropped-next _ _ _ _ _ _ _ c.loop-c-test.true refl l (c.from-count.ensures ∙ by-flag _) (omega (arith, l.fewer, l.same, c.requires, c.loop-c-test.true))
