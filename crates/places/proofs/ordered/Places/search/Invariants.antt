-- `Places::search`: the loop's invariant is `SearchLeft`.
use Rattle.loans.specs.Order.{loans_at}
use Rattle.places.proofs.Searching.{SearchLeft}
use Rattle.places.proofs.ordered.Places.search.Given as goal

abbrev pub invariant-loop-count : goal.invariant-loop-count
invariant-loop-count l = SearchLeft l.code (loans_at l.self.bytes.now) l.first l.count l.looks

abbrev pub decreases-loop-count : goal.decreases-loop-count
decreases-loop-count l = l.count
