-- `Places::look` meets its contract.
use Rattle.std.proofs.Common.{rules}
use Rattle.places.proofs.Searching.{looked}
use Rattle.places.proofs.ordered.Places.look.Goals as goal

pub returns : goal.returns
returns c = looked _ _ _ c.code-held.ensures.0 _ c.front_of.ensures _ _ (λ w. search rules) c.then_with.ensures
