-- `place::place_of` meets its contract: the code is written over zeros, then the borrower behind it.
use Rattle.places.proofs.PlaceMade.{place-made}
use Rattle.places.proofs.place.place_of.Goals as goal

pub returns : goal.returns
returns c = place-made c.args.code.now _ c.requires c.copy_from_slice.ensures.after _ _ c.write.ensures
