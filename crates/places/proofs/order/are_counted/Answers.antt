-- `order::are_counted` meets its contract.
use Rattle.std.proofs.Common.{rules, sym}
use Rattle.loans.specs.Place.{zeros}
use Rattle.loans.proofs.Counts.{no-counts}
use Rattle.places.proofs.CountedPlaces.{all-counted}
use Rattle.places.proofs.order.are_counted.Goals as goal

pub in_turn-used-requires : goal.in_turn-used-requires
unfolding zeros
in_turn-used-requires c = (search rules, sym no-counts)

pub returns-then-all_zero : goal.returns-then-all_zero
returns-then-all_zero c = search all-counted
