-- `moves::insert` meets its contract.
use Rattle.std.proofs.Common.{rules}
use Rattle.places.proofs.Moved.{place-put}
use Rattle.places.proofs.moves.insert.Goals as goal

pub returns : goal.returns
returns c = place-put _ _ _ _ _ _ c.requires.0 c.requires.1 c.requires.2 (search rules) c.copy_within.ensures.after c.put.ensures
