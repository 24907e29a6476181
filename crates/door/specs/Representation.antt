-- The strict door's answer in the code.
use Rattle.std.specs.Prelude.{Ok, Err}
use Rattle.iscc.specs.Refusals.{refusal_number}
use Rattle.std.specs.Prelude.{ℕ}
use Rattle.iscc.specs.Answer.{Answer, accept, refuse}
use Rattle.iscc.specs.Meaning.{Meaning}
use Rattle.std.specs.Prelude.{Result}
use Rattle.iscc.specs.Refusals.{Refusal}

abbrev pub Checked : Type 0
Checked = Result (Unit {0}) Refusal

-- the strict door's answer
abbrev pub checked_as : Answer Meaning → Checked
checked_as (accept m) = Ok tt
checked_as (refuse q) = Err q

-- its number by the specification: 0 for success
abbrev pub checked_number : Checked → ℕ
checked_number (Ok t) = 0
checked_number (Err q) = refusal_number q
