-- The register and the log take wide composites as they take every code: their 34 bytes fit a place.
use Rattle.std.specs.Prelude.{ℕ, ◌<◌, ◌≡◌, true, List}
use Rattle.std.proofs.Math.Option.{some}
use Rattle.iscc.specs.Meaning.{Sized}
use Rattle.iscc.specs.WideComposites.{wide_bytes}
use Rattle.loans.specs.Loan.{loan_of}
use Rattle.loans.specs.Map.{issue_code, return_code}
use Rattle.loans.specs.Place.{place_bytes, place_of, is_place}
use Rattle.loans.specs.PendingLog.{record_of, is_numbered}

-- a wide composite out to a borrower: its place and its records
pub record WideLoan (code : List ℕ) (borrower : ℕ) : Type 0 where
  pub place : is_place (place_bytes (some (loan_of code borrower))) ≡ true
  pub place_back : place_of (place_bytes (some (loan_of code borrower))) ≡ some (loan_of code borrower)
  pub issue_record : (number : ℕ) → 0 < number → number < 4294967296 → is_numbered (record_of (record { number = number; change = issue_code code borrower })) ≡ true
  pub return_record : (number : ℕ) → 0 < number → number < 4294967296 → is_numbered (record_of (record { number = number; change = return_code code })) ≡ true

abbrev pub WideLoans : Type 0
WideLoans = (da ins : List ℕ) (borrower : ℕ) → Sized 16 da → Sized 16 ins → borrower < 4294967296 → WideLoan (wide_bytes da ins) borrower
