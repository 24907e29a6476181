-- The numbers and lengths that the entries answer, as their contracts have them: what C may read from them.
-- proofs/Numbers.antt proves it.
use Rattle.std.specs.Prelude.{ℕ, ◌≤◌, ◌≡◌, ◌↔◌, List, length}
use Rattle.iscc.specs.Answer.{Answer, Accepted, number_of, written, ◌>>=◌}
use Rattle.iscc.specs.Digits.{Below}
use Rattle.iscc.specs.Items.{join, split}
use Rattle.iscc.specs.Doors.{intake, strict, read_code, write_text}
use Rattle.iscc.specs.Distance.{distance}
use Rattle.iscc.specs.Representation.{written_as, outcome_as}
use Rattle.iscc.specs.declared.outcome.Outcome.{Outcome}
use Rattle.distance.specs.Representation.{measured_as}
use Rattle.loans.specs.Contents.{issue_text, return_text, ask_text, looks_text, counts_asked}
use Rattle.loans.specs.Fields.{field_bytes}
use Rattle.loans.specs.Replay.{Replayed}
use Rattle.loans.specs.LogOrder.{stop_of}
use Rattle.loans.specs.PendingLog.{NumberedChange, record_of, write_record, replay_log}
use Rattle.loans.specs.Promotion.{promotion}
use Rattle.loans.specs.PromotionOrder.{verdict_answer}
use Rattle.console.specs.Representation.{distance_answer_as, change_answer_as, holder_answer_as, record_outcome, replay_answer_as, promotion_answer_as, counts_answer_as}

-- a number that is 0 exactly where the definition accepts, and else one of the table up to the given one
pub record NumberFor {A : Type 0} (most : ℕ) (x : Answer A) (number : ℕ) : Type 0 where
  pub success : (number ≡ 0) ↔ Accepted x
  pub table : number ≤ most

-- what a writer tells: such a number, and the length written
pub record ToldOf (x : Answer (List ℕ)) (o : Outcome) : Type 0 where
  pub number : NumberFor 19 x o.number
  pub length : o.length ≡ written x

-- a replay as an answer: refused by 23, or by the record that stops it; a tear is no refusal
abbrev pub not_stopped : Answer (Replayed (List ℕ)) → Answer (Unit {0})
not_stopped x = do
  y ← x
  stop_of y.end

pub record ConsoleNumbers : Type 0 where
  pub intake_told : (t : List ℕ) (area : ℕ) → ToldOf (intake t area) (outcome_as (written_as (intake t area)))
  pub code_told : (t : List ℕ) (area : ℕ) → ToldOf (read_code t area) (outcome_as (written_as (read_code t area)))
  pub text_told : (bs : List ℕ) (area : ℕ) → ToldOf (write_text bs area) (outcome_as (written_as (write_text bs area)))
  pub join_told : (bs : List ℕ) (area : ℕ) → Below 256 bs → ToldOf (join bs area) (outcome_as (written_as (join bs area)))
  pub split_told : (bs : List ℕ) (area : ℕ) → ToldOf (split bs area) (outcome_as (written_as (split bs area)))
  pub strict_told : (t : List ℕ) → NumberFor 19 (strict t) (number_of (strict t))
  pub distance_told : (x y : List ℕ) → NumberFor 19 (distance x y) (distance_answer_as (measured_as (distance x y))).number
  -- those of the register, which have 20 to 23 too, and a change 26
  pub issue_told : (t : List ℕ) (b : ℕ) (area : List ℕ) → NumberFor 26 (issue_text t b area) (change_answer_as (issue_text t b area)).number
  pub return_told : (t area : List ℕ) → NumberFor 26 (return_text t area) (change_answer_as (return_text t area)).number
  pub ask_told : (t area : List ℕ) → NumberFor 23 (ask_text t area) (holder_answer_as (ask_text t area) (looks_text t area)).number
  pub counts_told : (area : List ℕ) → NumberFor 23 (counts_asked area) (counts_answer_as (counts_asked area)).number
  -- those of the log, which have 24 too: a record's length is told,
  pub record_told : (n : NumberedChange) (log : List ℕ) (position : ℕ) → NumberFor 24 (write_record n log position) (record_outcome position (write_record n log position)).number
  pub record_length : (n : NumberedChange) (log : List ℕ) (position : ℕ) → Accepted (write_record n log position)
      → (record_outcome position (write_record n log position)).length ≡ length (field_bytes (record_of n))
  -- and a number that is 0 exactly where no record stopped the replay and the area was a register
  pub replay_told : (log area : List ℕ) → NumberFor 25 (not_stopped (replay_log log area)) (replay_answer_as (replay_log log area)).number
  -- a promotion's, which has 27, 36 and 37 too, is 0 exactly where it says yes
  pub promote_told : (log replica work : List ℕ) → NumberFor 37 (verdict_answer (promotion log replica work)) (promotion_answer_as (promotion log replica work)).number
