-- A record appended by its parts: an issue has its borrower in front of the code, a return nothing.
use Rattle.std.specs.Prelude.{ℕ, not, ◌&&◌, List, ◌++◌, eqb}
use Rattle.iscc.specs.Answer.{Answer, ◌>>◌, ◌otherwise◌}
use Rattle.iscc.specs.Refusals.{not_record}
use Rattle.iscc.specs.Digits.{digits}
use Rattle.loans.specs.Loan.{one_code}
use Rattle.loans.specs.Fields.{field_bytes}
use Rattle.loans.specs.Writer.{Written, appended}

unfoldable pub appended_record : ℕ → ℕ → List ℕ → List ℕ → List ℕ → ℕ → Answer Written
appended_record tag number front code log position = do
  (one_code code && not (eqb number 0)) otherwise not_record
  appended (field_bytes (record { tag = tag; body = digits 8 4 number ++ (front ++ code) })) log position
