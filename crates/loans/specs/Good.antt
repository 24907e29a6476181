-- What registers hold: at most 256 loans, each of a permitted code to a 32-bit borrower, in rising order of their codes, and a 32-bit
-- number. The promises are stated over these.
use Rattle.std.specs.Prelude.{ℕ, ◌≤◌, ◌<◌, ◌≡◌, true, List, [], ◌∷◌, length}
use Rattle.std.proofs.Math.Option.{Option, none, some}
use Rattle.iscc.specs.Digits.{Below}
use Rattle.loans.specs.Loan.{Loan, loan_of, one_code, find}
use Rattle.loans.specs.Map.{Change, issue_code, return_code}
use Rattle.loans.specs.Calls.{Call, issue, take_back, ask}
use Rattle.octets.specs.Order.{before}
use Rattle.loans.specs.Register.{Register}
use Rattle.loans.specs.Numbered.{Contents}

-- a code as it stands in a register: the bytes of one permitted unit or composite
pub record IsCode (c : List ℕ) : Type 0 where
  pub one : one_code c ≡ true
  pub bytes : Below 256 c
  pub some : 0 < length c
  pub most : length c ≤ 42

pub record GoodLoan (l : Loan) : Type 0 where
  pub code : IsCode l.code
  pub borrower : l.borrower < 4294967296

abbrev pub GoodPlace : Option Loan → Type 0
GoodPlace none = Unit {0}
GoodPlace (some l) = GoodLoan l

abbrev pub GoodPlaces : List (Option Loan) → Type 0
GoodPlaces [] = Unit {0}
GoodPlaces (p ∷ ps) = GoodPlace p × GoodPlaces ps

abbrev pub GoodLoans : List Loan → Type 0
GoodLoans [] = Unit {0}
GoodLoans (l ∷ ls) = GoodLoan l × GoodLoans ls

-- no code stands twice
abbrev pub Distinct : List Loan → Type 0
Distinct [] = Unit {0}
Distinct (l ∷ ls) = (find l.code ls ≡ none) × Distinct ls

-- each code comes before all that are behind it
abbrev pub AllBehind : List ℕ → List Loan → Type 0
AllBehind c [] = Unit {0}
AllBehind c (l ∷ ls) = (before c l.code ≡ true) × AllBehind c ls

abbrev pub Rising : List Loan → Type 0
Rising [] = Unit {0}
Rising (l ∷ ls) = AllBehind l.code ls × Rising ls

pub record GoodList (ls : List Loan) : Type 0 where
  pub count : length ls ≤ 256
  pub loans : GoodLoans ls
  pub order : Rising ls

pub record GoodContents (s : Contents) : Type 0 where
  pub list : GoodList s.loans
  pub last : s.last < 4294967296

abbrev pub GoodChange : Change → Type 0
GoodChange (issue_code c b) = GoodLoan (loan_of c b)
GoodChange (return_code c) = IsCode c

-- a call's borrower is a 32-bit number
abbrev pub GoodCall : Call → Type 0
GoodCall (issue t b) = b < 4294967296
GoodCall (take_back t) = Unit {0}
GoodCall (ask t) = Unit {0}

abbrev pub GoodCalls : List Call → Type 0
GoodCalls [] = Unit {0}
GoodCalls (k ∷ ks) = GoodCall k × GoodCalls ks

-- The areas that get no 23 are exactly the bytes of good contents, there and back.
pub record Sound {S : Type 0} (r : Register S) (Good : S → Type 0) : Type 0 where
  pub valid : (s : S) → Good s → r.valid (r.bytes s) ≡ true
  pub back : (s : S) → Good s → r.contents (r.bytes s) ≡ s
  pub good : (area : List ℕ) → Below 256 area → r.valid area ≡ true → Good (r.contents area)
  pub again : (area : List ℕ) → Below 256 area → r.valid area ≡ true → r.bytes (r.contents area) ≡ area
