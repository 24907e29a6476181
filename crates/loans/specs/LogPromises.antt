-- What is promised of the pending issues log, a field for each sentence; the file of this name in proofs/ proves it.
use Rattle.iscc.specs.Refusals.{refusal_number}
use Rattle.std.specs.Prelude.{ℕ, ◌≤◌, ◌<◌, ◌≡◌, true, List, [], ◌∷◌, ◌++◌, map, length, take}
use Rattle.std.proofs.Math.Option.{none}
use Rattle.iscc.specs.Refusals.{Refusal, not_register}
use Rattle.iscc.specs.Answer.{Answer, accept, refuse}
use Rattle.iscc.specs.Digits.{Below}
use Rattle.iscc.specs.Exactly.{RuleOn, Exactly, once}
use Rattle.loans.specs.Map.{Change}
use Rattle.loans.specs.Calls.{Call, state_after}
use Rattle.loans.specs.Register.{Register, changed_area, asked_area}
use Rattle.loans.specs.Numbered.{nothing, map_numbered, map_numbered_asked}
use Rattle.loans.specs.Contents.{register, is_register, empty_register}
use Rattle.loans.specs.Good.{GoodCalls}
use Rattle.loans.specs.Fields.{Field, field_bytes}
use Rattle.loans.specs.Log.{records_from, laid}
use Rattle.loans.specs.Replay.{ended, stopped, replay_from, replayed}
use Rattle.loans.specs.Writer.{Written, Appended}
use Rattle.loans.specs.Tears.{TornOff, Tears, RestUnread, Settled}
use Rattle.loans.specs.PendingLog.{NumberedChange, record_of, numbered_of, write_record, write_all, apply_record, apply_to_map, replay_log}
use Rattle.loans.specs.LogOrder.{write_stages, Meeting, record_rules, record_stage, stop_of, StopTold}
use Rattle.loans.specs.Operations.{Operation, GoodOperations, all_told, records_made, InBytes, AllInBytes}

-- ---- of any register and any records

-- a replay, by the rules on its records
pub record Replays {S : Type 0} (r : Register S) (apply : Field → S → Answer S) (rules : List (RuleOn (Meeting S))) : Type 0 where
  -- "23 comes before anything is read of the log", and a replay has no other number but a record's
  pub tests : (log area : List ℕ) → Exactly (once not_register (r.valid area) ∷ []) (replayed r apply log area)
  -- "Wherever a log is torn off": `TornOff`
  pub torn_off : (log area : List ℕ) (k : ℕ) → k ≤ length log → r.valid area ≡ true → TornOff r apply log area k
  -- a record's number is given exactly when its rule is the first that is broken, at the first record where one is
  pub stops : (log : List ℕ) (s : S) → Exactly (record_stage apply rules (records_from 0 log).whole s ∷ []) (stop_of (replay_from apply 0 log s).end)
  -- where that record starts is told, and "The records before it stay applied."
  pub tells : (log : List ℕ) (s : S) (q : Refusal) (offset : ℕ) → (replay_from apply 0 log s).end ≡ stopped q offset
      → StopTold apply rules (records_from 0 log).whole s (replay_from apply 0 log s).state q offset
  pub rest_unread : RestUnread apply
  pub settled : Settled apply

-- "Over any calls and replays, in any turn, from an empty register, written by them alone, all that is told is what a plain map tells.":
-- the map has the number of its last change
abbrev pub AsMapReplayed : {S M : Type 0} → Register S → (Field → S → Answer S) → List ℕ → (Change → M → Answer M) → (List ℕ → M → Answer ℕ) → (Field → M → Answer M) → M → Type 0
AsMapReplayed r apply empty change question apply_m empty_m =
    (ws : List Operation) → GoodOperations ws
    → all_told (changed_area r) (asked_area r) (replayed r apply) ws empty ≡ all_told change question (λ log m. accept (replay_from apply_m 0 log m)) ws empty_m

-- ---- of this one

pub record PendingLog : Type 1 where
  pub as_map : AsMapReplayed register apply_record empty_register map_numbered map_numbered_asked apply_to_map nothing
  pub tears : Tears
  pub replays : Replays register apply_record record_rules
  -- the writer: 24, then 15
  pub writer_tests : (n : NumberedChange) (log : List ℕ) (position : ℕ) → Exactly (write_stages n log position) (write_record n log position)
  -- "The record is written at the position, and the next position is behind it. No byte elsewhere is written."
  pub appends : (n : NumberedChange) (log : List ℕ) (position : ℕ) (w : Written) → write_record n log position ≡ accept w
      → Appended (field_bytes (record_of n)) log position w
  -- "What the writer appends, replay reads back as those records, in their order.": behind any log that is not torn,
  pub reads_back : (ns : List NumberedChange) (log : List ℕ) (position : ℕ) (w : Written) → AllInBytes ns → (records_from 0 (take position log)).tear ≡ none
      → write_all ns (record { log = log; position = position }) ≡ accept w
      → records_from 0 (take w.position w.log) ≡ record { whole = (records_from 0 (take position log)).whole ++ laid position (map record_of ns); tear = none }
  -- and each of them as its change and its number
  pub same_change : (n : NumberedChange) (log : List ℕ) (position : ℕ) (w : Written) → n.number < 4294967296 → InBytes n.change
      → write_record n log position ≡ accept w → numbered_of (record_of n) ≡ n
  -- "A log that has a record for each change of a live run, in their order, with the numbers that they took, makes from the register
  -- before that run the register after it, byte for byte."
  pub live_run : (ks : List Call) (area log : List ℕ) (w : Written) → GoodCalls ks → Below 256 area → is_register area ≡ true
      → write_all (records_made ks area) (record { log = log; position = 0 }) ≡ accept w
      → replay_log (take w.position w.log) area ≡ accept (record { state = state_after (changed_area register) (asked_area register) ks area; end = ended })
  -- the numbers that they give, none of which is 0
  pub write_number : (n : NumberedChange) (log : List ℕ) (position : ℕ) (q : Refusal) → write_record n log position ≡ refuse q → (1 ≤ (refusal_number q)) × ((refusal_number q) ≤ 24)
  pub stop_number : (log area : List ℕ) (q : Refusal) (offset : ℕ) → (replay_from apply_record 0 log (register.contents area)).end ≡ stopped q offset
      → (20 ≤ (refusal_number q)) × ((refusal_number q) ≤ 25)
