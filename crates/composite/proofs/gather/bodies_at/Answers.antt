-- `bodies_at` meets its contract: one body more is filled.
use Rattle.std.proofs.Common.{ℕ, ◌≡◌, refl, ◌∙◌, ap, take, drop, arith}
use Rattle.composite.specs.Bodies.{filled_bodies}
use Rattle.composite.proofs.Parts.{one-filled}
use Rattle.composite.proofs.gather.bodies_at.Goals as goal

pub loop-i-init : goal.loop-i-init
unfolding filled_bodies
loop-i-init g c = λ f e. refl

pub loop-i-preserved : goal.loop-i-preserved
loop-i-preserved g c = λ f e.
    one-filled (λ j. take 8 (drop (f j) c.args.bytes.now)) c.loop-i.i 5 _ _ (omega (arith, c.requires.few)) (c.loop-i.invariant f e)
    (c.eight_bytes.ensures ∙ ap (λ (m : ℕ). take 8 (drop m c.args.bytes.now)) (e _ _ (omega arith) c.offset_of.ensures))

pub returns : goal.returns
returns g c = λ f e.
    let n : c.loop-i.i ≡ c.args.count = omega arith in
    c.loop-i.invariant f e ∙ ap (λ (m : ℕ). filled_bodies (λ j. take 8 (drop (f j) c.args.bytes.now)) m 5) n
