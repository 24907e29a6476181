-- The three calls by text, over any state that has changes and questions: the plain map, or a lent area.
use Rattle.std.specs.Prelude.{ℕ, List, [], ◌∷◌}
use Rattle.iscc.specs.Answer.{Answer, accept, refuse, ◌>>=◌}
use Rattle.iscc.specs.Doors.{code_bytes}
use Rattle.loans.specs.Map.{Change, issue_code, return_code}

pub data Call : Type 0 where
  issue : (text : List ℕ) (borrower : ℕ) → Call
  take_back : (text : List ℕ) → Call
  ask : (text : List ℕ) → Call

-- what a call answers (0 where it hands over nothing), and the state after it
pub record CallResult (S : Type 0) : Type 0 where
  pub answer : Answer ℕ
  pub state : S

-- the state after a change: a refusal leaves it as it was
abbrev pub afterwards : {S : Type 0} → S → Answer S → S
afterwards s (accept s') = s'
afterwards s (refuse q) = s

-- what a change answers: it hands over nothing
abbrev pub done : {S : Type 0} → Answer S → Answer ℕ
done (accept s) = accept 0
done (refuse q) = refuse q

abbrev pub result_of : {S : Type 0} → S → Answer S → CallResult S
result_of s x = record { answer = done x; state = afterwards s x }

-- the numbers of the text come first, then those of the state
module _ {S : Type 0} (change : Change → S → Answer S) where
  unfoldable pub issued : List ℕ → ℕ → S → Answer S
  issued t b s = do
    c ← code_bytes t
    change (issue_code c b) s

  unfoldable pub returned : List ℕ → S → Answer S
  returned t s = do
    c ← code_bytes t
    change (return_code c) s

unfoldable pub borrower_of : {S : Type 0} → (List ℕ → S → Answer ℕ) → List ℕ → S → Answer ℕ
borrower_of question t s = do
  c ← code_bytes t
  question c s

module _ {S : Type 0} (change : Change → S → Answer S) (question : List ℕ → S → Answer ℕ) where
  abbrev pub call : Call → S → CallResult S
  call (issue t b) s = result_of s (issued change t b s)
  call (take_back t) s = result_of s (returned change t s)
  call (ask t) s = record { answer = borrower_of question t s; state = s }

  -- over any calls: their answers, and the state after them
  abbrev pub answers : List Call → S → List (Answer ℕ)
  answers [] s = []
  answers (k ∷ ks) s = (call k s).answer ∷ answers ks (call k s).state

  abbrev pub state_after : List Call → S → S
  state_after [] s = s
  state_after (k ∷ ks) s = state_after ks (call k s).state
