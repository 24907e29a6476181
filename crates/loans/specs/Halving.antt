-- The search for a code among loans in rising order, by halving, and the places that it looks at.
use Rattle.std.specs.Prelude.{ℕ, zero, suc, ◌+◌, ◌-◌, ◌/◌, Bool, true, false, cond, List, [], ◌∷◌, length, get_or, eqb}
use Rattle.std.proofs.Math.Option.{Option, none, some}
use Rattle.octets.specs.Order.{before}
use Rattle.iscc.specs.Lists.{same_bytes}
use Rattle.iscc.specs.Answer.{Answer}
use Rattle.loans.specs.Loan.{Loan, loan_of}
use Rattle.loans.specs.Map.{holder_of}

-- the places that were looked at, in turn; whether the code was found; and its place, or the one where it would stand
pub record Search : Type 0 where
  pub looked : List ℕ
  pub found : Bool
  pub place : ℕ

abbrev pub found_at : ℕ → Search
found_at place = record { looked = []; found = true; place = place }

abbrev pub nowhere : ℕ → Search
nowhere place = record { looked = []; found = false; place = place }

-- a look before others
abbrev pub looked_at : ℕ → Search → Search
looked_at place s = record { looked = place ∷ s.looked; found = s.found; place = s.place }

-- the loan in a place
abbrev pub loan_in : List Loan → ℕ → Loan
loan_in ls place = get_or ls place (loan_of [] 0)

-- Of the places that remain, `count` of them from `first` on, it "looks at the middle: the first of them plus half their count, rounded
-- down", "goes on in the part before or behind it", and "stops when the code is found or no place remains". n bounds the looks.
unfoldable pub halving : ℕ → List ℕ → List Loan → ℕ → ℕ → Search
halving zero c ls first count = nowhere first
halving (suc n) c ls first count =
    let middle : ℕ = first + count / 2 in
    let code : List ℕ = (loan_in ls middle).code in
    let front : Search = halving n c ls first (count / 2) in
    let behind : Search = halving n c ls (suc middle) (count - count / 2 - 1) in
    cond (eqb count 0) (nowhere first) (looked_at middle (cond (same_bytes c code) (found_at middle) (cond (before c code) front behind)))

-- the search among all; each look leaves fewer places, so that their count is bound enough
unfoldable pub searched : List ℕ → List Loan → Search
searched c ls = halving (length ls) c ls 0 (length ls)

-- "how many places it looked at"
abbrev pub looks : List ℕ → List Loan → ℕ
looks c ls = length (searched c ls).looked

-- who has a code, by the search: the borrower in the place where it was found, or 22
abbrev pub borrower_found : Search → List Loan → Option ℕ
borrower_found s ls = cond s.found (some (loan_in ls s.place).borrower) none

abbrev pub asked_loans : List ℕ → List Loan → Answer ℕ
asked_loans c ls = holder_of (borrower_found (searched c ls) ls)
