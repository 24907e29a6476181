-- The bodies up to i are filled.
use Rattle.std.proofs.Common.{ℕ, ◌≡◌, ◌<◌, take, drop}
use Rattle.composite.specs.Bodies.{filled_bodies}
use Rattle.composite.proofs.gather.bodies_at.Given as goal

abbrev pub invariant-loop-i : goal.invariant-loop-i
invariant-loop-i g l =
    (f : ℕ → ℕ) → ((i at : ℕ) → i < l.count → goal.F-post g l.offset_of i at → at ≡ f i)
    → l.found ≡ filled_bodies (λ j. take 8 (drop (f j) l.bytes)) l.i 5
