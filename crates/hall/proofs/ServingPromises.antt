-- The counter's steps are those of the model of the disk.
use Prim.Native.Nat.{ℕ}
use mathlib.Core.Path.{◌≡◌, refl, ◌∙◌}
use mathlib.Core.Bool.{Bool, true, false}
use mathlib.Core.List.{List, [], ◌∷◌, ◌++◌, map}
use native.Mathlib.Omega.{arith}
use Rattle.iscc.specs.Answer.{Answer, accept, refuse}
use Rattle.iscc.specs.Refusals.{Refusal}
use Rattle.iscc.specs.Doors.{code_bytes}
use Rattle.loans.specs.Map.{Change, issue_code, return_code}
use Rattle.loans.specs.Calls.{Call, issue, take_back, ask, afterwards, done, issued, returned}
use Rattle.loans.specs.Contents.{is_register, issue_text, return_text, ask_text}
use Rattle.loans.specs.Fields.{field_bytes}
use Rattle.loans.specs.Operations.{made_of, with_last}
use Rattle.commands.specs.Commands.{sheet}
use Rattle.recovery.specs.Disk.{acknowledge, serve, acknowledged, steps_of}
use Rattle.hall.specs.Serving.{code_of_typed, entry_of, issue_served, return_served, ask_served, call_served, command_served}
use Rattle.hall.specs.ServingPromises.{steps_with, steps_for, CounterServes}

-- ---- a change

module _ (t area : List ℕ) (q : Refusal) (no : code_bytes t ≡ refuse q) where
  no-issue : (b : ℕ) → issue_text t b area ≡ refuse q
  unfolding issued
  no-issue b = rw no

  no_return : return_text t area ≡ refuse q
  unfolding returned
  no_return = rw no

-- the record of what the register answered
abbrev entry_for : (List ℕ → Change) → List ℕ → Answer (List ℕ) → List ℕ
entry_for of t (accept after) = entry_of (of (code_of_typed t)) after
entry_for of t (refuse q) = []

-- in the model's words and in those of the answer
made : (of : List ℕ → Change) (t area : List ℕ) (x y : Answer (List ℕ)) → code_bytes t ≡ x → ((q : Refusal) → code_bytes t ≡ refuse q → y ≡ refuse q)
    → acknowledged (map (with_last (afterwards area y)) (made_of of x (done y)) ++ []) (afterwards area y) ≡ steps_with (entry_for of t y) (afterwards area y)
unfolding field_bytes
made of t area (accept c) (accept after) e missing = rw e
made of t area (accept c) (refuse q) e missing = refl
made of t area (refuse p) (accept after) e missing =
    let wrong = missing p e in
    let z : ◌≡◌ {A = ℕ} 0 1 = cc in absurd (omega arith)
made of t area (refuse p) (refuse q) e missing = refl

issue-steps : (t : List ℕ) (b : ℕ) (area : List ℕ) (y : Answer (List ℕ)) → steps_with (entry_for (λ c. issue_code c b) t y) (afterwards area y) ≡ steps_for (issue_served t b area y)
issue-steps t b area (accept after) = refl
issue-steps t b area (refuse q) = refl

return-steps : (t area : List ℕ) (y : Answer (List ℕ)) → steps_with (entry_for return_code t y) (afterwards area y) ≡ steps_for (return_served t area y)
return-steps t area (accept after) = refl
return-steps t area (refuse q) = refl

-- ---- what changes nothing

ask-steps : (t area : List ℕ) (y : Answer ℕ) → acknowledge area ∷ [] ≡ steps_for (ask_served t area y)
ask-steps t area (accept b) = refl
ask-steps t area (refuse q) = refl

steps : (k : Call) (area : List ℕ) → steps_of (serve k) area ≡ steps_for (call_served k area)
unfolding call_served
steps (issue t b) area =
    made (λ c. issue_code c b) t area (code_bytes t) (issue_text t b area) refl (λ q e. no-issue t area q e b) ∙ issue-steps t b area (issue_text t b area)
steps (take_back t) area =
    made return_code t area (code_bytes t) (return_text t area) refl (λ q e. no_return t area q e) ∙ return-steps t area (return_text t area)
steps (ask t) area = ask-steps t area (ask_text t area)

sheet-keeps : (area : List ℕ) → steps_for (command_served sheet area) ≡ acknowledge area ∷ []
sheet-keeps area = by (is_register area) refl
  where
    by : (b : Bool) → is_register area ≡ b → steps_for (command_served sheet area) ≡ acknowledge area ∷ []
    by true e = rw e
    by false e = rw e

pub counter-serves : CounterServes
counter-serves = record { steps = steps; sheet_keeps = sheet-keeps; fault_keeps = λ f area. refl }
