-- What the code tells of a command that was served. The area afterwards is each function's own promise.
use Rattle.std.specs.Prelude.{ℕ, Bool, ◌<◌, ◌≡◌, true, false, cond, List, [], ◌∷◌, ◌++◌, length, drop}
use Rattle.iscc.specs.Answer.{is_accepted}
use Rattle.iscc.specs.Doors.{code_bytes}
use Rattle.loans.specs.Map.{Change, issue_code, return_code}
use Rattle.loans.specs.Fields.{field_bytes}
use Rattle.loans.specs.PendingLog.{record_of}
use Rattle.answers.specs.Answers.{issued_line, returned_line}
use Rattle.hall.specs.Serving as serving
use Rattle.hall.specs.Serving.{text_of_typed, code_of_typed}
use Rattle.hall.specs.declared.serving.Outcome.{Outcome}
use Rattle.hall.specs.declared.serving.Outcome.TheVariants as outcomes
use Rattle.hall.specs.declared.serving.Served.{Served}

-- what an outcome tells: that the command was refused, that the sheet's other lines follow, and how large the record is
abbrev pub is_refused : Outcome → Bool
is_refused outcomes.Refused = true
is_refused outcomes.Answered = false
is_refused outcomes.Sheet = false
is_refused (outcomes.Recorded n) = false

abbrev pub is_sheet : Outcome → Bool
is_sheet outcomes.Refused = false
is_sheet outcomes.Answered = false
is_sheet outcomes.Sheet = true
is_sheet (outcomes.Recorded n) = false

abbrev pub entry_size : Outcome → ℕ
entry_size outcomes.Refused = 0
entry_size outcomes.Answered = 0
entry_size outcomes.Sheet = 0
entry_size (outcomes.Recorded n) = n

-- the one outcome of what was served: only what has a record is told as one, since a record is appended and synced
abbrev pub outcome_by : List ℕ → Outcome
outcome_by [] = outcomes.Answered
outcome_by (b ∷ bs) = outcomes.Recorded (length (b ∷ bs))

abbrev pub outcome_of : serving.Served → Outcome
outcome_of s = cond s.refused outcomes.Refused (cond s.sheet outcomes.Sheet (outcome_by s.entry))

pub record Said (s : serving.Served) (r : Served) : Type 0 where
  pub answer : r.line ≡ s.answer
  pub outcome : r.outcome ≡ outcome_of s
  pub refused : is_refused r.outcome ≡ s.refused
  pub sheet : is_sheet r.outcome ≡ s.sheet
  pub size : entry_size r.outcome ≡ length s.entry

-- and the record stands in front of the area for it, whose other bytes stay
pub record Tells (s : serving.Served) (r : Served) (entry entry' : List ℕ) : Type 0 where
  pub said : Said s r
  pub bytes : entry' ≡ s.entry ++ drop (entry_size r.outcome) entry

-- ---- a change that was made, under its number

-- what the code knows of it: the text holds a code, and numbers start at 1
abbrev pub Recordable : List ℕ → ℕ → Type 0
Recordable t number = (is_accepted (code_bytes t) ≡ true) × (0 < number)

abbrev pub record_bytes : Change → ℕ → List ℕ
record_bytes ch number = field_bytes (record_of (record { number = number; change = ch }))

abbrev pub made_as : List ℕ → List ℕ → serving.Served
made_as answer entry = record { answer = answer; entry = entry; area = []; refused = false; sheet = false }

abbrev pub issued_as : List ℕ → ℕ → ℕ → serving.Served
issued_as t b number = made_as (issued_line (text_of_typed t) b number) (record_bytes (issue_code (code_of_typed t) b) number)

abbrev pub returned_as : List ℕ → ℕ → serving.Served
returned_as t number = made_as (returned_line (text_of_typed t) number) (record_bytes (return_code (code_of_typed t)) number)
