-- A command of the counter against the register in an area: the answer line, the record to append, and the area afterwards. All three
-- by the definitions of the register and the log.
use Rattle.std.specs.Prelude.{ℕ, Bool, true, false, cond, List, []}
use Rattle.iscc.specs.Answer.{Answer, accept, refuse}
use Rattle.iscc.specs.Refusals.{not_register}
use Rattle.iscc.specs.Doors.{code_bytes, intake}
use Rattle.loans.specs.Map.{Change, issue_code, return_code}
use Rattle.loans.specs.Calls.{Call, issue, take_back, ask}
use Rattle.loans.specs.Counts.{counts}
use Rattle.loans.specs.Contents.{is_register, contents_of, issue_text, return_text, ask_text}
use Rattle.loans.specs.Fields.{field_bytes}
use Rattle.loans.specs.PendingLog.{record_of}
use Rattle.commands.specs.Commands.{Command, calls, sheet, faulty, command_of}
use Rattle.answers.specs.Answers.{value_of, issued_line, returned_line, out_line, counts_line, refused_line}
use Rattle.hall.specs.Faults.{fault_line}

-- the answer line, the record's bytes (none where nothing changed), the area afterwards, whether the command was refused, and whether
-- the sheet's other lines follow
pub record Served : Type 0 where
  pub answer : List ℕ
  pub entry : List ℕ
  pub area : List ℕ
  pub refused : Bool
  pub sheet : Bool

-- what changes nothing
abbrev pub told : List ℕ → List ℕ → Served
told answer area = record { answer = answer; entry = []; area = area; refused = false; sheet = false }

abbrev pub not_served : List ℕ → List ℕ → Served
not_served answer area = record { answer = answer; entry = []; area = area; refused = true; sheet = false }

-- the one text of the code that a typed text holds, as intake writes it; and the code's bytes
abbrev pub text_of_typed : List ℕ → List ℕ
text_of_typed t = value_of (intake t 73)

abbrev pub code_of_typed : List ℕ → List ℕ
code_of_typed t = value_of (code_bytes t)

-- the record of a change, with the number that it took: the last one of the area after it
abbrev pub entry_of : Change → List ℕ → List ℕ
entry_of ch area = field_bytes (record_of (record { number = (contents_of area).last; change = ch }))

abbrev pub issue_served : List ℕ → ℕ → List ℕ → Answer (List ℕ) → Served
issue_served t b area (accept after) =
    record {
      answer = issued_line (text_of_typed t) b (contents_of after).last;
      entry = entry_of (issue_code (code_of_typed t) b) after;
      area = after;
      refused = false;
      sheet = false;
    }
issue_served t b area (refuse q) = not_served (refused_line q) area

abbrev pub return_served : List ℕ → List ℕ → Answer (List ℕ) → Served
return_served t area (accept after) =
    record {
      answer = returned_line (text_of_typed t) (contents_of after).last;
      entry = entry_of (return_code (code_of_typed t)) after;
      area = after;
      refused = false;
      sheet = false;
    }
return_served t area (refuse q) = not_served (refused_line q) area

abbrev pub ask_served : List ℕ → List ℕ → Answer ℕ → Served
ask_served t area (accept b) = told (out_line (text_of_typed t) b) area
ask_served t area (refuse q) = not_served (refused_line q) area

unfoldable pub call_served : Call → List ℕ → Served
call_served (issue t b) area = issue_served t b area (issue_text t b area)
call_served (take_back t) area = return_served t area (return_text t area)
call_served (ask t) area = ask_served t area (ask_text t area)

-- the sheet's first line; 23 as with every call
abbrev pub sheet_served : List ℕ → Served
sheet_served area =
    cond (is_register area) (record { answer = counts_line (counts (contents_of area).loans); entry = []; area = area; refused = false; sheet = true })
    (not_served (refused_line not_register) area)

abbrev pub command_served : Command → List ℕ → Served
command_served (calls k) area = call_served k area
command_served sheet area = sheet_served area
command_served (faulty f) area = not_served (fault_line f) area

-- a line of the counter's input
unfoldable pub served : List ℕ → List ℕ → Served
served line area = command_served (command_of line) area
