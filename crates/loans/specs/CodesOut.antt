-- The changes that calls and replays made, and the first number, which counts them.
use Rattle.std.specs.Prelude.{ℕ, suc, ◌+◌, ◌≡◌, cond, List, [], ◌∷◌, ◌++◌, leb}
use Rattle.iscc.specs.Answer.{Answer, accept, refuse, ◌otherwise◌}
use Rattle.iscc.specs.Refusals.{not_register}
use Rattle.loans.specs.Map.{Change, issue_code, return_code}
use Rattle.loans.specs.Register.{Register, changed_area, asked_area, call_area}
use Rattle.loans.specs.Numbered.{Contents}
use Rattle.loans.specs.Moves.{number_at}
use Rattle.loans.specs.Fields.{Field}
use Rattle.loans.specs.Log.{Record, records_from}
use Rattle.loans.specs.Replay.{replayed}
use Rattle.loans.specs.PendingLog.{number_in, numbered_of}
use Rattle.loans.specs.Operations.{Operation, live, replay, GoodOperations, Performed, perform, made_by}

abbrev pub issues : List Change → ℕ
issues [] = 0
issues (issue_code c b ∷ chs) = suc (issues chs)
issues (return_code c ∷ chs) = issues chs

abbrev pub returns : List Change → ℕ
returns [] = 0
returns (issue_code c b ∷ chs) = returns chs
returns (return_code c ∷ chs) = suc (returns chs)

-- what follows where something is accepted; behind a refusal nothing does
abbrev pub onward : {A : Type 0} → Answer A → (A → List Change) → List Change
onward (accept a) more = more a
onward (refuse q) more = []

-- over a register, and what a record makes of its contents
module _ {S : Type 0} (r : Register S) (apply : Field → S → Answer S) where
  abbrev pub perform_on : Operation → List ℕ → Performed (List ℕ)
  perform_on w area = perform (changed_area r) (asked_area r) (replayed r apply) w area

  -- the area after any operations
  abbrev pub all_done : List Operation → List ℕ → List ℕ
  all_done [] area = area
  all_done (w ∷ ws) area = all_done ws (perform_on w area).state

-- with the changes that an accepted record stands for
module _ {S : Type 0} (r : Register S) (apply : Field → S → Answer S) (takes : Field → S → List Change) where
  -- "those that replay applies": none from the record on that stops it
  unfoldable pub applied_in : List Record → S → List Change
  applied_in [] s = []
  applied_in (e ∷ es) s = onward (apply e.field s) (λ s'. takes e.field s ++ applied_in es s')

  -- the changes of one operation: that of an issue or a return that is accepted, those of a replay
  unfoldable pub changes_by : Operation → List ℕ → List Change
  changes_by (live k) area = made_by k (call_area r k area).answer
  changes_by (replay log) area = onward (r.valid area otherwise not_register) (λ _. applied_in (records_from 0 log).whole (r.contents area))

  -- and of any operations
  abbrev pub all_changes : List Operation → List ℕ → List Change
  all_changes [] area = []
  all_changes (w ∷ ws) area = changes_by w area ++ all_changes ws (perform_on r apply w area).state

  -- "the first number is accepted issues minus accepted returns, those that replay applies included, since the area was empty, if only
  -- these calls write it"
  abbrev pub FirstNumber : List ℕ → Type 0
  FirstNumber empty =
      (ws : List Operation) → GoodOperations ws → number_at 0 (all_done r apply ws empty) + returns (all_changes ws empty) ≡ issues (all_changes ws empty)

-- an accepted record of this log stands for its change, and one that is skipped for none
abbrev pub takes_record : Field → Contents → List Change
takes_record f s = cond (leb (number_in f) s.last) [] ((numbered_of f).change ∷ [])
