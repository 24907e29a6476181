-- `moves::remove` meets its contract.
use Rattle.places.proofs.Moved.{place-taken}
use Rattle.places.proofs.moves.remove.Goals as goal

pub returns : goal.returns
returns c = place-taken _ _ _ _ _ c.requires.0 c.requires.1 c.requires.2 c.copy_within.ensures.after c.put.ensures
