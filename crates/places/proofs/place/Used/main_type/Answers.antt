-- `Used::main_type`: what a used place has is a code.
use Rattle.std.proofs.Common.{◌∙◌, ap}
use Rattle.loans.specs.Loan.{one_code}
use Rattle.places.proofs.CountedPlaces.{used-code}
use Rattle.places.proofs.place.Used.main_type.Goals as goal

pub main_type-requires : goal.main_type-requires
main_type-requires c = ap one_code c.code.ensures ∙ used-code _ c.args.self.used
