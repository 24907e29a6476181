-- What is promised of the register's order and of a question's looks, a field for each sentence; the file of this name in proofs/
-- proves it.
use Rattle.std.specs.Prelude.{ℕ, suc, ◌+◌, ◌-◌, ◌*◌, ◌≤◌, ◌<◌, ◌≡◌, true, false, List, ◌++◌, length, get_or, take, drop}
use Rattle.std.proofs.Math.Option.{some}
use Rattle.iscc.specs.Refusals.{Refusal}
use Rattle.iscc.specs.Answer.{accept, refuse}
use Rattle.iscc.specs.Digits.{digits, Below}
use Rattle.iscc.specs.Doors.{code_bytes}
use Rattle.octets.specs.Order.{before}
use Rattle.loans.specs.Loan.{Loan, loan_of, is_out}
use Rattle.loans.specs.Place.{zeros, place_bytes}
use Rattle.loans.specs.Order.{loans_at}
use Rattle.loans.specs.Halving.{halving, searched, loan_in}
use Rattle.loans.specs.Counts.{code_type}
use Rattle.loans.specs.Numbered.{loans_of}
use Rattle.loans.specs.Contents.{counts_part, places_part, is_register, contents_of, issue_text, return_text, looks_text}
use Rattle.loans.specs.Good.{Distinct}
use Rattle.loans.specs.Moves.{put_in, taken_out, one_more, one_less}

-- the bytes of the code in a place
abbrev pub code_at : ℕ → List ℕ → List ℕ
code_at place places = take (get_or places (48 * place) 0) (drop (48 * place + 1) places)

-- "Used places stand first, in rising order of their codes' bytes.": the first `used` places are those, and each code comes before
-- all that are behind it
pub record InOrder (places : List ℕ) (used : ℕ) : Type 0 where
  pub most : used ≤ 256
  pub first : (j : ℕ) → j < used → 0 < get_or places (48 * j) 0
  pub behind : drop (48 * used) places ≡ zeros (48 * (256 - used))
  pub rising : (i j : ℕ) → i < j → j < used → before (code_at i places) (code_at j places) ≡ true
  -- what is told of a place is told of the loan in it
  pub held : (j : ℕ) → j < used → code_at j places ≡ (loan_in (loans_at places) j).code

-- "An issue makes room at its place in the order.": before it stand the codes that come before its own, behind it the others, and
-- those move one place on; the loan is written there, one code more is counted, the next number is taken, and no byte elsewhere is
-- written
pub record IssueMoves (c : List ℕ) (b : ℕ) (area area' : List ℕ) (used : ℕ) : Type 0 where
  pub place : ℕ
  pub within : place ≤ used
  pub room : used < 256
  pub earlier : (j : ℕ) → j < place → before (code_at j (places_part area)) c ≡ true
  pub later : (j : ℕ) → place ≤ j → j < used → before c (code_at j (places_part area)) ≡ true
  pub bytes : area'
      ≡ one_more (code_type c) (counts_part area)
      ++ (put_in (48 * place) (48 * used) (place_bytes (some (loan_of c b))) (places_part area) ++ digits 8 4 (suc (contents_of area).last))

-- "A return closes its gap.": the places behind the code's move one back, the last of them is zeros, one code less is counted, the next
-- number is taken, and no byte elsewhere is written
pub record ReturnMoves (c area area' : List ℕ) (used : ℕ) : Type 0 where
  pub place : ℕ
  pub within : place < used
  pub code : code_at place (places_part area) ≡ c
  pub bytes : area' ≡ one_less (code_type c) (counts_part area) ++ (taken_out (48 * place) 48 (48 * used) (places_part area) ++ digits 8 4 (suc (contents_of area).last))

-- "The answer reports how many places it looked at."
pub record LooksCounted : Type 0 where
  -- "one look for each step of the halving, where the code is out and where it is not",
  pub steps : (t c area : List ℕ) → code_bytes t ≡ accept c → is_register area ≡ true
      → looks_text t area ≡ length (searched c (loans_of (contents_of area))).looked
  -- none of which the bound cuts off: with any other that is no less than their count the search is the same;
  pub bound : (n : ℕ) (c : List ℕ) (ls : List Loan) → length ls ≤ n → halving n c ls 0 (length ls) ≡ searched c ls
  -- "at most 9",
  pub nine : (t area : List ℕ) → looks_text t area ≤ 9
  -- and 0 with every other refusal
  pub no_text : (t area : List ℕ) (q : Refusal) → code_bytes t ≡ refuse q → looks_text t area ≡ 0
  pub no_register : (t area : List ℕ) → is_register area ≡ false → looks_text t area ≡ 0

-- the search, on a register: it finds a code exactly if it is out, and ends at its place
pub record SearchFinds (c area : List ℕ) : Type 0 where
  pub out : (searched c (loans_of (contents_of area))).found ≡ is_out c (loans_of (contents_of area))
  pub there : (searched c (loans_of (contents_of area))).found ≡ true → (loan_in (loans_of (contents_of area)) (searched c (loans_of (contents_of area))).place).code ≡ c

pub record RegisterInOrder : Type 0 where
  pub order : (area : List ℕ) → Below 256 area → is_register area ≡ true → InOrder (places_part area) (length (loans_of (contents_of area)))
  -- "So no code stands in two places."
  pub apart : (area : List ℕ) → is_register area ≡ true → Distinct (loans_of (contents_of area))
  pub makes_room : (t c : List ℕ) (b : ℕ) (area area' : List ℕ) → Below 256 area → code_bytes t ≡ accept c → issue_text t b area ≡ accept area'
      → IssueMoves c b area area' (length (loans_of (contents_of area)))
  pub closes_gap : (t c area area' : List ℕ) → Below 256 area → code_bytes t ≡ accept c → return_text t area ≡ accept area'
      → ReturnMoves c area area' (length (loans_of (contents_of area)))
  pub finds : (c area : List ℕ) → is_register area ≡ true → SearchFinds c area
  pub looks : LooksCounted
