-- `Places::search` meets its contract.
use Rattle.std.proofs.Common.{arith}
use Rattle.loans.proofs.OrderedPlaces.{loans-few}
use Rattle.places.proofs.Searching.{search-starts, few-looks, middle-used, search-none, search-found, search-front, search-behind}
use Rattle.places.proofs.ordered.Places.search.Goals as goal

pub loop-count-init : goal.loop-count-init
loop-count-init c = search (search-starts, loans-few)

pub overflow_add-middle : goal.overflow_add-middle
overflow_add-middle c = omega arith

pub look-order-requires : goal.look-order-requires
look-order-requires c = search middle-used

pub overflow_add-looks : goal.overflow_add-looks
overflow_add-looks c = omega (arith, few-looks _ _ _ _ _ c.loop-count.invariant)

pub returns-in-Equal : goal.returns-in-Equal
returns-in-Equal c = search search-found

pub loop-count-preserved-in-Less : goal.loop-count-preserved-in-Less
loop-count-preserved-in-Less c = search search-front

pub loop-count-preserved : goal.loop-count-preserved
loop-count-preserved c = search search-behind

pub returns : goal.returns
returns c = search search-none
