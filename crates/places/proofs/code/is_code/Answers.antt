-- `code::is_code` meets its contract.
use Rattle.std.proofs.Common.{rules}
use Rattle.loans.specs.Loan.{one_code}
use Rattle.places.proofs.code.is_code.Goals as goal

pub returns : goal.returns
unfolding one_code
returns c = search rules
