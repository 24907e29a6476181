-- A loan is a code, as the bytes of the one unit or composite that a text means, and its borrower. Lists of loans, by code.
use Rattle.std.specs.Prelude.{ℕ, Bool, true, false, cond, List, [], ◌∷◌}
use Rattle.std.proofs.Math.Option.{Option, none, some}
use Rattle.iscc.specs.Answer.{is_accepted}
use Rattle.iscc.specs.Item.{read_one}
use Rattle.iscc.specs.Lists.{same_bytes}

pub record Loan : Type 0 where
  pub code : List ℕ
  pub borrower : ℕ

abbrev pub loan_of : List ℕ → ℕ → Loan
loan_of c b = record { code = c; borrower = b }

-- the bytes are "exactly one item"
unfoldable pub one_code : List ℕ → Bool
one_code bs = is_accepted (read_one bs)

-- who has a code: the borrower of the first loan of it
unfoldable pub find : List ℕ → List Loan → Option ℕ
find c [] = none
find c (l ∷ ls) = cond (same_bytes c l.code) (some l.borrower) (find c ls)

abbrev pub is_some : {A : Type 0} → Option A → Bool
is_some none = false
is_some (some a) = true

-- a code is out
abbrev pub is_out : List ℕ → List Loan → Bool
is_out c ls = is_some (find c ls)

-- the loans without the code's (first) one
unfoldable pub without : List ℕ → List Loan → List Loan
without c [] = []
without c (l ∷ ls) = cond (same_bytes c l.code) ls (l ∷ without c ls)
