-- What a register holds: its loans, and the number of the last change. A live change takes the next number.
use Rattle.std.specs.Prelude.{ℕ, suc, List, [], ltb}
use Rattle.iscc.specs.Answer.{Answer, accept, ◌>>=◌, ◌>>◌, ◌otherwise◌}
use Rattle.iscc.specs.Refusals.{numbers_spent}
use Rattle.loans.specs.Loan.{Loan}
use Rattle.loans.specs.Map.{Change, map_changed, map_asked}

pub record Contents : Type 0 where
  pub loans : List Loan
  pub last : ℕ

abbrev pub loans_of : Contents → List Loan
loans_of s = s.loans

-- no loan, and no number taken
abbrev pub nothing : Contents
nothing = record { loans = []; last = 0 }

-- "An issue and a return take the next number": 26 "if the last number is 4,294,967,295", then the numbers of the change itself
unfoldable pub taking_next : (Change → List Loan → Answer (List Loan)) → Change → Contents → Answer Contents
taking_next change ch s = do
  ltb s.last 4294967295 otherwise numbers_spent
  ls ← change ch s.loans
  accept (record { loans = ls; last = suc s.last })

-- ---- the plain map with the number of its last change

abbrev pub map_numbered : Change → Contents → Answer Contents
map_numbered ch m = taking_next map_changed ch m

abbrev pub map_numbered_asked : List ℕ → Contents → Answer ℕ
map_numbered_asked c m = map_asked c m.loans
