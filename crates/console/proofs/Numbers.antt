-- The numbers and lengths that C is told.
use Rattle.iscc.specs.Refusals.{refusal_number}
use Prim.Native.Nat.{ℕ, ◌+◌, ◌≤◌}
use mathlib.Core.Path.{◌≡◌, refl, sym, ap}
use mathlib.Core.Bool.{Bool, true, false}
use mathlib.Core.List.{List}
use native.Mathlib.Omega.{arith}
use lib.ListN.{length}
use Rattle.iscc.specs.Refusals.{Refusal, not_register}
use Rattle.iscc.specs.Answer.{Answer, accept, refuse, Accepted, number_of, ◌>>◌, ◌otherwise◌}
use Rattle.iscc.specs.Doors.{strict}
use Rattle.iscc.specs.Distance.{distance, Distance}
use Rattle.iscc.specs.Representation.{written_as, outcome_as}
use Rattle.iscc.proofs.Numbers.{Numbered, number-table, number-0, outcome-number, outcome-length, intake-numbered, strict-numbered, distance-numbered, code-numbered, text-numbered, join-numbered, split-numbered}
use Rattle.distance.specs.Representation.{measured_as}
use Rattle.iscc.proofs.Answer.{never, refuse-inj, value_of}
use Rattle.loans.specs.Contents.{is_register, register, ask_text, looks_text, counts_asked}
use Rattle.loans.specs.Fields.{field_bytes}
use Rattle.loans.specs.Writer.{Written}
use Rattle.loans.specs.Replay.{End, ended, torn, stopped, Replayed, replay_from, in_bytes, replayed}
use Rattle.loans.specs.LogOrder.{stop_of}
use Rattle.loans.specs.PendingLog.{NumberedChange, record_of, write_record, apply_record, replay_log}
use Rattle.loans.proofs.Promises.{loans-register}
use Rattle.loans.proofs.LogPromises.{pending-log}
use Rattle.loans.proofs.CountPromises.{not-told}
use Rattle.loans.proofs.PromotionPromises.{may-be-promoted}
use Rattle.console.specs.Representation.{distance_answer_as, holder_answer_as, record_outcome, end_answer, replay_answer_as, counts_answer_as}
use Rattle.console.specs.Numbers.{NumberFor, ToldOf, not_stopped, ConsoleNumbers}

exact : {A : Type 0} (most : ℕ) (x : Answer A) → ((q : Refusal) → x ≡ refuse q → (1 ≤ (refusal_number q)) × ((refusal_number q) ≤ most)) → NumberFor most x (number_of x)
exact most x h = record { success = number-0 x (λ q e. (h q e).0); table = go x h }
  where
    go : {A : Type 0} (x : Answer A) → ((q : Refusal) → x ≡ refuse q → (1 ≤ (refusal_number q)) × ((refusal_number q) ≤ most)) → number_of x ≤ most
    go (accept a) h = omega arith
    go (refuse q) h = (h q refl).1

pub of-table : {A : Type 0} (x : Answer A) → Numbered x → NumberFor 19 x (number_of x)
of-table x h = exact 19 x (number-table x h)

pub told_of : (x : Answer (List ℕ)) → Numbered x → ToldOf x (outcome_as (written_as x))
told_of x h = record { number = rw (outcome-number x) (of-table x h); length = outcome-length x }

distance-number : (x : Answer Distance) → (distance_answer_as (measured_as x)).number ≡ number_of x
unfolding measured_as
distance-number (accept r) = refl
distance-number (refuse q) = refl

holder-number : (x : Answer ℕ) (looks : ℕ) → (holder_answer_as x looks).number ≡ number_of x
holder-number (accept b) looks = refl
holder-number (refuse q) looks = refl

counts-number : (x : Answer (List ℕ)) → (counts_answer_as x).number ≡ number_of x
counts-number (accept ns) = refl
counts-number (refuse q) = refl

counts-numbers : (area : List ℕ) (q : Refusal) → counts_asked area ≡ refuse q → (1 ≤ (refusal_number q)) × ((refusal_number q) ≤ 23)
counts-numbers area q e = let n : (refusal_number q) ≡ 23 = ap refusal_number (not-told area q e).0 in (omega arith, omega arith)

-- ---- the log

record-number : (position : ℕ) (x : Answer Written) → (record_outcome position x).number ≡ number_of x
record-number position (accept w) = refl
record-number position (refuse q) = refl

record-length : (n : NumberedChange) (log : List ℕ) (position : ℕ) → Accepted (write_record n log position)
    → (record_outcome position (write_record n log position)).length ≡ length (field_bytes (record_of n))
record-length n log position a =
    let w = value_of (write_record n log position) a in
    let m : w.0.position ≡ position + length (field_bytes (record_of n)) = (pending-log.appends n log position w.0 w.1).moved in
    rw w.1 (omega arith)

end-number : (x : End) → (end_answer x).number ≡ number_of (stop_of x)
end-number ended = refl
end-number (torn offset) = refl
end-number (stopped q offset) = refl

replay-number : (x : Answer (Replayed (List ℕ))) → (replay_answer_as x).number ≡ number_of (not_stopped x)
replay-number (accept y) = end-number y.end
replay-number (refuse q) = refl

stopped_by : (x : End) (q : Refusal) → stop_of x ≡ refuse q → (offset : ℕ) × (x ≡ stopped q offset)
stopped_by ended q e = absurd (never (sym e))
stopped_by (torn offset) q e = absurd (never (sym e))
stopped_by (stopped p offset) q e = (offset, ap (λ (r : Refusal). stopped r offset) (refuse-inj e))

replay-numbers : (log area : List ℕ) (q : Refusal) → not_stopped (replay_log log area) ≡ refuse q → (1 ≤ (refusal_number q)) × ((refusal_number q) ≤ 25)
unfolding replayed
replay-numbers log area q = go (is_register area)
  where
    go : (v : Bool) → not_stopped (v otherwise not_register >> accept (in_bytes register apply_record (replay_from apply_record 0 log (register.contents area)))) ≡ refuse q
        → (1 ≤ (refusal_number q)) × ((refusal_number q) ≤ 25)
    go true e =
        let s = stopped_by (replay_from apply_record 0 log (register.contents area)).end q e in
        let n = pending-log.stop_number log area q s.0 s.1 in
        (omega (arith, n.0), n.1)
    go false e =
        let n : 23 ≡ (refusal_number q) = ap refusal_number (refuse-inj e) in
        (omega arith, omega arith)

pub console-numbers : ConsoleNumbers
console-numbers =
    record {
      intake_told = λ t area. told_of _ (intake-numbered t area);
      code_told = λ t area. told_of _ (code-numbered t area);
      text_told = λ bs area. told_of _ (text-numbered bs area);
      join_told = λ bs area b. told_of _ (join-numbered bs area b);
      split_told = λ bs area. told_of _ (split-numbered bs area);
      strict_told = λ t. of-table (strict t) (strict-numbered t);
      issue_told = λ t b area. exact 26 _ (loans-register.numbers.issue_number t b area);
      return_told = λ t area. exact 26 _ (loans-register.numbers.return_number t area);
      ask_told = λ t area. rw (holder-number (ask_text t area) (looks_text t area)) (exact 23 _ (loans-register.numbers.ask_number t area));
      counts_told = λ area. rw (counts-number (counts_asked area)) (exact 23 _ (counts-numbers area));
      record_told = λ n log position. rw (record-number position (write_record n log position)) (exact 24 _ (pending-log.write_number n log position));
      record_length = record-length;
      replay_told = λ log area. rw (replay-number (replay_log log area)) (exact 25 _ (replay-numbers log area));
      promote_told = λ log replica work. exact 37 _ (may-be-promoted.numbers log replica work);
      distance_told = λ x y. rw (distance-number (distance x y)) (of-table (distance x y) (distance-numbered x y));
    }
