-- `moves::put` meets its contract.
use Rattle.std.proofs.Common.{rules}
use Rattle.places.proofs.PlaceMade.{put_written}
use Rattle.places.proofs.moves.put.Goals as goal

pub returns : goal.returns
returns c = put_written _ _ _ _ (search rules) c.copy_from_slice.ensures.after
