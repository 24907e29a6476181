-- `place::borrower` meets its contract.
use Rattle.std.proofs.Common.{◌∙◌, ap}
use Rattle.iscc.specs.Digits.{value}
use Rattle.places.proofs.PlaceMade.{borrower-last}
use Rattle.places.proofs.place.borrower.Goals as goal

pub returns : goal.returns
returns c =
    c.number_in.ensures
    ∙ ap (value 8) (borrower-last c.args.places.now c.args.i _ c.requires.0 c.requires.1 (rw c.unwrap.ensures at c.last_chunk.ensures.cases).1)
