-- What ties the counter's answers to what is promised of a crash (recovery/specs/Recovery.antt); the file of this name in proofs/ proves it.
use Rattle.std.specs.Prelude.{ℕ, ◌≡◌, List, [], ◌∷◌}
use Rattle.loans.specs.Calls.{Call}
use Rattle.commands.specs.Commands.{sheet, faulty, Fault}
use Rattle.recovery.specs.Disk.{Step, writes, append, sync, acknowledge, serve, steps_of}
use Rattle.hall.specs.Serving.{Served, call_served, command_served}

-- the steps that the program makes of a command that was served: "A record is appended and synced before it is acknowledged"
abbrev pub steps_with : List ℕ → List ℕ → List Step
steps_with [] area = acknowledge area ∷ []
steps_with (b ∷ bs) area = writes (append (b ∷ bs)) ∷ sync ∷ acknowledge area ∷ []

abbrev pub steps_for : Served → List Step
steps_for s = steps_with s.entry s.area

pub record CounterServes : Type 0 where
  -- these are the steps of the model of the disk: the same record and the same register
  pub steps : (k : Call) (area : List ℕ) → steps_of (serve k) area ≡ steps_for (call_served k area)
  -- the sheet, and a line that is no command, change nothing and append nothing
  pub sheet_keeps : (area : List ℕ) → steps_for (command_served sheet area) ≡ acknowledge area ∷ []
  pub fault_keeps : (f : Fault) (area : List ℕ) → steps_for (command_served (faulty f) area) ≡ acknowledge area ∷ []
