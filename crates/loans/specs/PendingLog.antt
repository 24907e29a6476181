-- The pending issues log of the register: a record is a change with its number, tag 3 "an issue", tag 4 "a return". Its writer and its
-- replay.
use Rattle.std.specs.Prelude.{ℕ, suc, Bool, cond, not, ◌&&◌, List, [], ◌∷◌, ◌++◌, take, drop, eqb, leb}
use Rattle.iscc.specs.Answer.{Answer, accept, ◌>>=◌, ◌>>◌, ◌otherwise◌}
use Rattle.iscc.specs.Refusals.{not_record, number_gap}
use Rattle.iscc.specs.Digits.{digits, value}
use Rattle.loans.specs.Loan.{Loan, one_code}
use Rattle.loans.specs.Map.{Change, map_changed}
use Rattle.loans.specs.Numbered.{Contents}
use Rattle.loans.specs.Contents.{changed_loans, register}
use Rattle.loans.specs.Fields.{Field, field_bytes}
use Rattle.loans.specs.Replay.{Replayed, replayed}
use Rattle.loans.specs.Writer.{Written, appended}
use Rattle.loans.specs.Records.{code_of, tag_of, body_of, is_record, change_of}

pub record NumberedChange : Type 0 where
  pub number : ℕ
  pub change : Change

-- ---- a record: "the record's number in 4 bytes, high byte first", and behind it the change

abbrev pub record_of : NumberedChange → Field
record_of n = record { tag = tag_of 3 n.change; body = digits 8 4 n.number ++ body_of n.change }

abbrev pub number_in : Field → ℕ
number_in f = value 8 (take 4 f.body)

abbrev pub behind_number : Field → Field
behind_number f = record { tag = f.tag; body = drop 4 f.body }

-- 24 for "another tag, or with a body that is no such record", and for number 0; a body shorter than its number leaves no code
unfoldable pub is_numbered : Field → Bool
is_numbered f = is_record 3 (behind_number f) && not (eqb (number_in f) 0)

unfoldable pub numbered_of : Field → NumberedChange
numbered_of f = record { number = number_in f; change = change_of 3 (behind_number f) }

-- ---- the writer

-- 24 "if the record's number is 0 or the code's bytes are not exactly one item"; then 15
unfoldable pub write_record : NumberedChange → List ℕ → ℕ → Answer Written
write_record n log position = do
  (one_code (code_of n.change) && not (eqb n.number 0)) otherwise not_record
  appended (field_bytes (record_of n)) log position

-- one record behind the other
abbrev pub write_all : List NumberedChange → Written → Answer Written
write_all [] w = accept w
write_all (n ∷ ns) w = do
  w' ← write_record n w.log w.position
  write_all ns w'

-- ---- replay

-- "A record whose number is not above the last is skipped"; of any other 25 "if its number is not the next"; then what the change gives
unfoldable pub in_turn : {S : Type 0} → ℕ → ℕ → S → Answer S → Answer S
in_turn number last s next = cond (leb number last) (accept s) (eqb number (suc last) otherwise number_gap >> next)

-- a change with its number, over a list of loans: "20 and 21 for an issue, 22 for a return"
abbrev pub numbering : (Change → List Loan → Answer (List Loan)) → NumberedChange → Contents → Answer Contents
numbering change n s = change n.change s.loans >>= λ ls. accept (record { loans = ls; last = n.number })

-- a record applied: 24, then skipped, 25 or its change
unfoldable pub apply_with : (Change → List Loan → Answer (List Loan)) → Field → Contents → Answer Contents
apply_with change f s = do
  is_numbered f otherwise not_record
  in_turn (number_in f) s.last s (numbering change (numbered_of f) s)

-- to the register, and to the plain map with its number
abbrev pub apply_record : Field → Contents → Answer Contents
apply_record = apply_with changed_loans

abbrev pub apply_to_map : Field → Contents → Answer Contents
apply_to_map = apply_with map_changed

-- replay of a log over a lent area
abbrev pub replay_log : List ℕ → List ℕ → Answer (Replayed (List ℕ))
replay_log log area = replayed register apply_record log area
