-- What the register and its log promise, over what the entries tell C and leave in the area, as their contracts have it.
-- proofs/Loans.antt proves it.
use Rattle.iscc.specs.Refusals.{refusal_number}
use Rattle.std.specs.Prelude.{ℕ, suc, ◌+◌, ◌≤◌, ◌<◌, ◌≡◌, List, [], ◌∷◌, map, length, take}
use Rattle.iscc.specs.Refusals.{Refusal}
use Rattle.iscc.specs.Answer.{Answer, accept, refuse}
use Rattle.iscc.specs.Digits.{Below}
use Rattle.loans.specs.Map.{Change, map_changed, map_asked}
use Rattle.loans.specs.Calls.{Call, issue, take_back, ask, afterwards, answers}
use Rattle.loans.specs.Numbered.{nothing, map_numbered, map_numbered_asked}
use Rattle.loans.specs.Contents.{contents_of, register, empty_register, issue_text, return_text, ask_text, looks_text, counts_asked}
use Rattle.loans.specs.Good.{GoodCalls}
use Rattle.loans.specs.Replay.{ended, replay_from, area_replayed}
use Rattle.loans.specs.PendingLog.{apply_record, apply_to_map, replay_log}
use Rattle.loans.specs.Operations.{Operation, live, replay, GoodOperations, Told, answered, ran}
use Rattle.loans.specs.Operations as operations
use Rattle.loans.specs.CodesOut.{issues, returns, all_changes, takes_record}
use Rattle.console.specs.declared.lending.HolderAnswer.{HolderAnswer}
use Rattle.console.specs.declared.logging.ReplayAnswer.{ReplayAnswer}
use Rattle.console.specs.Representation.{change_answer_as, holder_answer_as, end_answer, replay_answer_as, counts_answer_as}

-- an answer as a plain map has it, which knows no looks and tells no record number
pub record CallAnswer : Type 0 where
  pub number : ℕ
  pub borrower : ℕ

abbrev pub answer_as : Answer ℕ → CallAnswer
answer_as (accept b) = record { number = 0; borrower = b }
answer_as (refuse q) = record { number = (refusal_number q); borrower = 0 }

abbrev pub without_looks : HolderAnswer → CallAnswer
without_looks a = record { number = a.number; borrower = a.borrower }

-- what an entry tells; an issue and a return tell no borrower
abbrev pub told : Call → List ℕ → CallAnswer
told (issue t b) area = record { number = (change_answer_as (issue_text t b area)).number; borrower = 0 }
told (take_back t) area = record { number = (change_answer_as (return_text t area)).number; borrower = 0 }
told (ask t) area = without_looks (holder_answer_as (ask_text t area) (looks_text t area))

-- and the area after it
abbrev pub left : Call → List ℕ → List ℕ
left (issue t b) area = afterwards area (issue_text t b area)
left (take_back t) area = afterwards area (return_text t area)
left (ask t) area = area

abbrev pub all_told : List Call → List ℕ → List CallAnswer
all_told [] area = []
all_told (k ∷ ks) area = told k area ∷ all_told ks (left k area)

-- ---- with replays among the calls

pub data Heard : Type 0 where
  of_call : CallAnswer → Heard
  of_replay : ReplayAnswer → Heard

-- what the definitions tell, as C hears it
abbrev pub heard_as : Told → Heard
heard_as (answered x) = of_call (answer_as x)
heard_as (ran (accept e)) = of_replay (end_answer e)
heard_as (ran (refuse q)) = of_replay (record { number = (refusal_number q); end = 0; offset = 0 })

-- what an operation's entry tells, and the area after it
abbrev pub heard : Operation → List ℕ → Heard
heard (live k) area = of_call (told k area)
heard (replay log) area = of_replay (replay_answer_as (replay_log log area))

abbrev pub leaves : Operation → List ℕ → List ℕ
leaves (live k) area = left k area
leaves (replay log) area = area_replayed area (replay_log log area)

abbrev pub all_heard : List Operation → List ℕ → List Heard
all_heard [] area = []
all_heard (w ∷ ws) area = heard w area ∷ all_heard ws (leaves w area)

abbrev pub all_left : List Operation → List ℕ → List ℕ
all_left [] area = area
all_left (w ∷ ws) area = all_left ws (leaves w area)

-- the changes that they made: the accepted issues and returns, and those that replay applied
abbrev pub all_made : List Operation → List Change
all_made ws = all_changes register apply_record takes_record ws empty_register

-- what a replay tells, and the area after it
pub record AfterReplay : Type 0 where
  pub answer : ReplayAnswer
  pub area : List ℕ

abbrev pub after_replay : List ℕ → List ℕ → AfterReplay
after_replay log area = record { answer = replay_answer_as (replay_log log area); area = leaves (replay log) area }

-- it ran to its end, and left this area
abbrev pub ran_to : List ℕ → AfterReplay
ran_to area = record { answer = end_answer ended; area = area }

pub record ConsoleLoans : Type 0 where
  -- "Over any calls from an empty register, written by them alone, the answers are those of a plain map of at most 256 codes": of the map
  -- with the number of its last change, and, as long as there are no more calls than numbers, of the map alone
  pub as_numbered_map : (ks : List Call) → GoodCalls ks → all_told ks empty_register ≡ map answer_as (answers map_numbered map_numbered_asked ks nothing)
  pub as_plain_map : (ks : List Call) → GoodCalls ks → length ks ≤ 4294967295 → all_told ks empty_register ≡ map answer_as (answers map_changed map_asked ks [])
  -- "Over any calls and replays, in any turn, from an empty register, written by them alone, all that is told is what a plain map tells."
  pub as_map : (ws : List Operation) → GoodOperations ws
      → all_heard ws empty_register ≡ map heard_as (operations.all_told map_numbered map_numbered_asked (λ log m. accept (replay_from apply_to_map 0 log m)) ws nothing)
  -- "at most 9"
  pub nine : (t area : List ℕ) → (holder_answer_as (ask_text t area) (looks_text t area)).looks ≤ 9
  -- "the first number is accepted issues minus accepted returns", and it is told without 23
  pub codes_out : (ws : List Operation) → GoodOperations ws
      → let a = counts_answer_as (counts_asked (all_left ws empty_register)) in (a.number ≡ 0) × (a.out + returns (all_made ws) ≡ issues (all_made ws))
  -- "An issue and a return take the next number", and tell it; a refusal tells 0
  pub issue_takes : (t : List ℕ) (b : ℕ) (area area' : List ℕ) → Below 256 area → b < 4294967296 → issue_text t b area ≡ accept area'
      → (change_answer_as (issue_text t b area)).record_number ≡ suc (contents_of area).last
  pub return_takes : (t area area' : List ℕ) → Below 256 area → return_text t area ≡ accept area'
      → (change_answer_as (return_text t area)).record_number ≡ suc (contents_of area).last
  pub none_taken : (x : Answer (List ℕ)) (q : Refusal) → x ≡ refuse q → (change_answer_as x).record_number ≡ 0
  -- "Replaying a log that ran to its end changes nothing the second time"
  pub second : (log area : List ℕ) → Below 256 log → Below 256 area → (after_replay log area).answer ≡ end_answer ended
      → let after = (after_replay log area).area in after_replay log after ≡ ran_to after
  -- "Replaying any part of a log from its start, and then the whole, is replaying the whole."
  pub prefix_then_whole : (log area : List ℕ) (k : ℕ) → Below 256 log → Below 256 area
      → after_replay log (after_replay (take k log) area).area ≡ after_replay log area
