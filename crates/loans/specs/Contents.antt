-- The loans register: counts, 256 places in order and the last number, which areas are one, and its calls.
use Rattle.std.specs.Prelude.{ℕ, Bool, ◌&&◌, List, ◌++◌, length, take, drop, eqb}
use Rattle.iscc.specs.Refusals.{not_register}
use Rattle.iscc.specs.Answer.{Answer, accept, refuse, ◌>>=◌, ◌>>◌, ◌otherwise◌}
use Rattle.iscc.specs.Lists.{same_bytes}
use Rattle.iscc.specs.Digits.{digits, value}
use Rattle.iscc.specs.Doors.{code_bytes}
use Rattle.loans.specs.Loan.{Loan, without}
use Rattle.loans.specs.Map.{Change, change_with}
use Rattle.loans.specs.Calls.{issued, returned, borrower_of}
use Rattle.loans.specs.Place.{zeros, places_bytes}
use Rattle.loans.specs.Order.{placed, are_ordered, loans_at, put}
use Rattle.loans.specs.Halving.{looks, asked_loans}
use Rattle.loans.specs.Counts.{counts, counts_bytes}
use Rattle.loans.specs.Numbered.{Contents, loans_of, taking_next}
use Rattle.loans.specs.Register.{Register, changed_area, asked_area}

-- "16 bytes before the places", "4 bytes behind them": the three parts of an area
abbrev pub counts_part : List ℕ → List ℕ
counts_part area = take 16 area

abbrev pub places_part : List ℕ → List ℕ
places_part area = take 12288 (drop 16 area)

abbrev pub number_part : List ℕ → List ℕ
number_part area = take 4 (drop 12304 area)

-- the loans, in rising order of their codes, and the last number, "high byte first"
abbrev pub contents_of : List ℕ → Contents
contents_of area = record { loans = loans_at (places_part area); last = value 8 (number_part area) }

-- 23 unless the area "has 12,308 bytes", its places are 256 in order, and the counts are theirs: "a disagreement is 23". Every last
-- number is good.
unfoldable pub is_register : List ℕ → Bool
is_register area =
    eqb (length area) 12308 && are_ordered (places_part area) && same_bytes (counts_part area) (counts_bytes (loans_at (places_part area)))

unfoldable pub bytes_of : Contents → List ℕ
bytes_of s = counts_bytes s.loans ++ (places_bytes (placed 256 s.loans) ++ digits 8 4 s.last)

-- "A return closes its gap.": a place is free only behind those that are used
abbrev pub changed_loans : Change → List Loan → Answer (List Loan)
changed_loans ch ls = change_with (λ (ks : List Loan). ks) put without ch ls

abbrev pub applied : Change → Contents → Answer Contents
applied ch s = taking_next changed_loans ch s

abbrev pub register : Register Contents
register = record { valid = is_register; contents = contents_of; bytes = bytes_of; changes = applied; asks = λ c s. asked_loans c s.loans }

-- "An empty register is an area of zeros."
abbrev pub empty_register : List ℕ
empty_register = zeros 12308

-- ---- the calls on a lent area: of an issue and a return the area afterwards, of a question the borrower

abbrev pub issue_text : List ℕ → ℕ → List ℕ → Answer (List ℕ)
issue_text t b area = issued (changed_area register) t b area

abbrev pub return_text : List ℕ → List ℕ → Answer (List ℕ)
return_text t area = returned (changed_area register) t area

abbrev pub ask_text : List ℕ → List ℕ → Answer ℕ
ask_text t area = borrower_of (asked_area register) t area

-- the number that an issue or a return took, which is the last one now; "A refusal takes none": it tells 0
abbrev pub number_taken : Answer (List ℕ) → ℕ
number_taken (accept area) = (contents_of area).last
number_taken (refuse q) = 0

-- ---- how many places a question looked at: "So does a question's 22"; its other refusals report 0

abbrev pub reported : Answer ℕ → ℕ
reported (accept n) = n
reported (refuse q) = 0

unfoldable pub looks_text : List ℕ → List ℕ → ℕ
looks_text t area = reported (do
  c ← code_bytes t
  is_register area otherwise not_register
  accept (looks c (loans_of (contents_of area))))

-- ---- how many codes are out, in all and by main type: 23, or the eight numbers

unfoldable pub counts_asked : List ℕ → Answer (List ℕ)
counts_asked area = do
  is_register area otherwise not_register
  accept (counts (loans_of (contents_of area)))
