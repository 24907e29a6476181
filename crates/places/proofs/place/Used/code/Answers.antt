-- `Used::code`: a used place has its code.
use Rattle.std.proofs.Common.{rules}
use Rattle.places.proofs.OrderTests.{code_fits}
use Rattle.places.proofs.place.Used.code.Goals as goal

pub slice_bounds-result-end : goal.slice_bounds-result-end
slice_bounds-result-end c = search (rules, code_fits)
