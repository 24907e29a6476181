-- What changes a register, the tests 20, 21 and 22, and the plain map of at most 256 codes.
use Rattle.std.specs.Prelude.{ℕ, not, List, ◌∷◌, length, ltb}
use Rattle.std.proofs.Math.Option.{Option, none, some}
use Rattle.iscc.specs.Answer.{Answer, accept, refuse, ◌>>◌, ◌otherwise◌}
use Rattle.iscc.specs.Refusals.{already_out, all_out, not_out}
use Rattle.loans.specs.Loan.{Loan, loan_of, find, is_out, without}

-- a code is issued to a borrower, or taken back
pub data Change : Type 0 where
  issue_code : (code : List ℕ) (borrower : ℕ) → Change
  return_code : (code : List ℕ) → Change

-- An issue: 20 "the code is out already", then 21 "256 others are out". A return: 22 "the code is not out". Where a loan is put,
-- and what is left when one is taken out, is each register's own.
module _ {S : Type 0} (loans : S → List Loan) (put : Loan → S → S) (cleared : List ℕ → S → S) where
  unfoldable pub change_with : Change → S → Answer S
  change_with (issue_code c b) s = do
    not (is_out c (loans s)) otherwise already_out
    ltb (length (loans s)) 256 otherwise all_out
    accept (put (loan_of c b) s)
  change_with (return_code c) s = do
    is_out c (loans s) otherwise not_out
    accept (cleared c s)

-- a question's answer: the borrower, or 22
abbrev pub holder_of : Option ℕ → Answer ℕ
holder_of none = refuse not_out
holder_of (some b) = accept b

-- ---- the plain map: a list of loans, the last one first

abbrev pub map_changed : Change → List Loan → Answer (List Loan)
map_changed (issue_code c b) m = do
  not (is_out c m) otherwise already_out
  ltb (length m) 256 otherwise all_out
  accept (loan_of c b ∷ m)
map_changed (return_code c) m = do
  is_out c m otherwise not_out
  accept (without c m)

unfoldable pub map_asked : List ℕ → List Loan → Answer ℕ
map_asked c m = holder_of (find c m)
