-- `Places::new`: what follows of such bytes.
use Rattle.loans.proofs.OrderedPlaces.{loans-few}
use Rattle.places.proofs.ordered.Places.new.Goals as goal

pub invariant_of-result : goal.invariant_of-result
invariant_of-result c = record { whole = c.requires.whole; ordered = c.requires.ordered; few = loans-few _ }
