-- `order::in_turn`: the places before i are used, in order, and counted.
use Rattle.places.proofs.CountedPlaces.{CountedLeft}
use Rattle.places.proofs.order.in_turn.Given as goal

abbrev pub invariant-loop-i : goal.invariant-loop-i
invariant-loop-i l = CountedLeft l.places l.counts l.before.place.now l.i
