-- `blank::is_blank`: by its four tests.
use Rattle.std.proofs.Common.{arith}
use Rattle.std.proofs.lemmas.Bool.Decides.{nat_tests}
use Rattle.iscc.specs.Doors.{is_blank}
use Rattle.octets.proofs.blank.is_blank.Goals as goal

pub returns-in_default : goal.returns-in_default
unfolding is_blank
returns-in_default c = grind (arith, nat_tests)

pub returns-in_default-2 : goal.returns-in_default-2
unfolding is_blank
returns-in_default-2 c = grind (arith, nat_tests)

pub returns-in-32 : goal.returns-in-32
unfolding is_blank
returns-in-32 c = grind (arith, nat_tests)

pub returns-in-32-2 : goal.returns-in-32-2
unfolding is_blank
returns-in-32-2 c = grind (arith, nat_tests)
