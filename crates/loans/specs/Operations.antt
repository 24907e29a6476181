-- Calls and replays in any turn, and what they tell; a live run, and the changes that it made, each with the number that it took.
use Rattle.std.specs.Prelude.{ℕ, ◌<◌, List, [], ◌∷◌, ◌++◌, map}
use Rattle.iscc.specs.Answer.{Answer, accept, refuse}
use Rattle.iscc.specs.Digits.{Below}
use Rattle.iscc.specs.Doors.{code_bytes}
use Rattle.loans.specs.Map.{Change, issue_code, return_code}
use Rattle.loans.specs.Calls.{Call, issue, take_back, ask, CallResult, call}
use Rattle.loans.specs.Replay.{End, Replayed}
use Rattle.loans.specs.Good.{GoodCall}
use Rattle.loans.specs.Register.{call_area}
use Rattle.loans.specs.Contents.{register, contents_of}
use Rattle.loans.specs.PendingLog.{NumberedChange}

pub data Operation : Type 0 where
  live : Call → Operation
  replay : (log : List ℕ) → Operation

abbrev pub GoodOperation : Operation → Type 0
GoodOperation (live k) = GoodCall k
GoodOperation (replay log) = Below 256 log

abbrev pub GoodOperations : List Operation → Type 0
GoodOperations [] = Unit {0}
GoodOperations (w ∷ ws) = GoodOperation w × GoodOperations ws

-- what an operation tells: a call's answer, or how a replay ended
pub data Told : Type 0 where
  answered : Answer ℕ → Told
  ran : Answer End → Told

pub record Performed (S : Type 0) : Type 0 where
  pub told : Told
  pub state : S

abbrev pub of_call : {S : Type 0} → CallResult S → Performed S
of_call x = record { told = answered x.answer; state = x.state }

abbrev pub of_replay : {S : Type 0} → S → Answer (Replayed S) → Performed S
of_replay s (accept x) = record { told = ran (accept x.end); state = x.state }
of_replay s (refuse q) = record { told = ran (refuse q); state = s }

module _ {S : Type 0} (change : Change → S → Answer S) (question : List ℕ → S → Answer ℕ) (replays : List ℕ → S → Answer (Replayed S)) where
  abbrev pub perform : Operation → S → Performed S
  perform (live k) s = of_call (call change question k s)
  perform (replay log) s = of_replay s (replays log s)

  abbrev pub all_told : List Operation → S → List Told
  all_told [] s = []
  all_told (w ∷ ws) s = (perform w s).told ∷ all_told ws (perform w s).state

-- ---- a live run

-- the change of an issue or a return that was accepted
abbrev pub made_of : (List ℕ → Change) → Answer (List ℕ) → Answer ℕ → List Change
made_of of (accept c) (accept n) = of c ∷ []
made_of of (accept c) (refuse q) = []
made_of of (refuse q) x = []

abbrev pub made_by : Call → Answer ℕ → List Change
made_by (issue t b) x = made_of (λ c. issue_code c b) (code_bytes t) x
made_by (take_back t) x = made_of return_code (code_bytes t) x
made_by (ask t) x = []

abbrev pub with_last : List ℕ → Change → NumberedChange
with_last area ch = record { number = (contents_of area).last; change = ch }

-- what calls on the register make, in their order: each change with the number that it took, the last one of the area after it
abbrev pub records_made : List Call → List ℕ → List NumberedChange
records_made [] area = []
records_made (k ∷ ks) area =
    let x : CallResult (List ℕ) = call_area register k area in
    map (with_last x.state) (made_by k x.answer) ++ records_made ks x.state

-- a change's code is a byte string, and its borrower and its number are of 32 bits
abbrev pub InBytes : Change → Type 0
InBytes (issue_code c b) = Below 256 c × (b < 4294967296)
InBytes (return_code c) = Below 256 c

abbrev pub AllInBytes : List NumberedChange → Type 0
AllInBytes [] = Unit {0}
AllInBytes (n ∷ ns) = ((n.number < 4294967296) × InBytes n.change) × AllInBytes ns
