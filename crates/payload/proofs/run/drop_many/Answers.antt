-- One character more, stored where it is no hyphen and there is room.
use Rattle.std.proofs.Common.{refl, ◌∙◌}
use Rattle.payload.proofs.Runs.{dropped-none, dropped-hyphen, dropped-stored, dropped-over}
use Rattle.payload.proofs.run.drop_many.Goals.{then-c-ne45, then-count-out, else-count-out, else-c-ne45}
use Rattle.payload.proofs.run.drop_many.Goals as goal

pub loop-c-init : goal.loop-c-init
loop-c-init c = dropped-none _ _

pub loop-c-preserved : goal.loop-c-preserved
loop-c-preserved c =
    let test = c.loop-c-test.true in
    let inv = c.loop-c.invariant in
    elim c.if-c-ne45.branch [
      | then-c-ne45 w ↦ elim w.if-count-out.branch [
        | then-count-out v ↦ dropped-stored _ _ _ _ _ _ _ _ test refl inv w.if-c-ne45.true w.count-is v.if-count-out.true (w.out-is ∙ v.out-is)
        | else-count-out v ↦ dropped-over _ _ _ _ _ _ _ _ test refl inv w.if-c-ne45.true w.count-is v.if-count-out.false (w.out-is ∙ v.out-is)
      ]
      | else-c-ne45 w ↦ rw (w.out-is, w.count-is) (dropped-hyphen _ _ _ _ _ _ _ _ test refl inv w.if-c-ne45.false refl refl refl)
    ]
