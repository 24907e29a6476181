-- What the register and its log promise holds of what C sees.
use Prim.Native.Nat.{ℕ, ◌+◌}
use mathlib.Core.Path.{◌≡◌, refl, sym, ◌∙◌, ap, ap₂}
use mathlib.Core.Bool.{Bool, true, false, true≢false}
use mathlib.Core.List.{List, [], ◌∷◌, map}
use native.Mathlib.Omega.{arith}
use lib.ListN.{get_or, take}
use Rattle.iscc.specs.Refusals.{Refusal, not_register}
use Rattle.iscc.specs.Answer.{Answer, accept, refuse, ◌>>◌, ◌otherwise◌}
use Rattle.iscc.specs.Digits.{Below}
use Rattle.iscc.proofs.Answer.{passed, never}
use Rattle.loans.specs.Calls.{Call, issue, take_back, ask, done, answers}
use Rattle.loans.specs.Register.{changed_area, asked_area, call_area}
use Rattle.loans.specs.Contents.{is_register, contents_of, register, empty_register, issue_text, return_text, ask_text, looks_text, counts_asked}
use Rattle.loans.specs.Replay.{End, ended, torn, stopped, Replayed, replay_from, in_bytes, replayed, area_replayed}
use Rattle.loans.specs.PendingLog.{apply_record, replay_log}
use Rattle.loans.specs.Operations.{Operation, live, replay, GoodOperations, perform}
use Rattle.loans.specs.Operations as operations
use Rattle.loans.proofs.Promises.{loans-register}
use Rattle.loans.proofs.OrderPromises.{register-in-order}
use Rattle.loans.specs.Moves.{number_at}
use Rattle.loans.specs.CodesOut.{issues, returns, all_done}
use Rattle.loans.proofs.LogPromises.{pending-log}
use Rattle.loans.proofs.CountPromises.{how-many-out, not-told}
use Rattle.loans.proofs.NumberPromises.{record-numbers}
use Rattle.console.specs.declared.logging.ReplayAnswer.{ReplayAnswer}
use Rattle.console.specs.Representation.{change_answer_as, holder_answer_as, end_answer, replay_answer_as, counts_answer_as}
use Rattle.console.specs.Loans.{CallAnswer, answer_as, without_looks, told, left, all_told, Heard, of_call, of_replay, heard_as, heard, leaves, all_heard, all_left, all_made, after_replay, ran_to, ConsoleLoans}

-- a change tells its number, and no borrower
change-told : (x : Answer (List ℕ)) → ◌≡◌ {A = CallAnswer} (record { number = (change_answer_as x).number; borrower = 0 }) (answer_as (done x))
change-told (accept s) = refl
change-told (refuse q) = refl

ask-told : (x : Answer ℕ) (looks : ℕ) → without_looks (holder_answer_as x looks) ≡ answer_as x
ask-told (accept b) looks = refl
ask-told (refuse q) looks = refl

call-told : (k : Call) (area : List ℕ) → told k area ≡ answer_as (call_area register k area).answer
call-told (issue t b) area = change-told (issue_text t b area)
call-told (take_back t) area = change-told (return_text t area)
call-told (ask t) area = ask-told (ask_text t area) (looks_text t area)

call-left : (k : Call) (area : List ℕ) → left k area ≡ (call_area register k area).state
call-left (issue t b) area = refl
call-left (take_back t) area = refl
call-left (ask t) area = refl

all_told-is : (ks : List Call) (area : List ℕ) → all_told ks area ≡ map answer_as (answers (changed_area register) (asked_area register) ks area)
all_told-is [] area = refl
all_told-is (k ∷ ks) area =
    ap₂ (λ (x : CallAnswer) (xs : List CallAnswer). x ∷ xs) (call-told k area) (ap (all_told ks) (call-left k area) ∙ all_told-is ks (call_area register k area).state)

-- ---- with replays among the calls

abbrev performed : Operation → List ℕ → operations.Performed (List ℕ)
performed = perform (changed_area register) (asked_area register) (replayed register apply_record)

replay-heard : (x : Answer (Replayed (List ℕ))) (area : List ℕ) → of_replay (replay_answer_as x) ≡ heard_as (operations.of_replay area x).told
replay-heard (accept y) area = refl
replay-heard (refuse q) area = refl

replay-leaves : (x : Answer (Replayed (List ℕ))) (area : List ℕ) → area_replayed area x ≡ (operations.of_replay area x).state
replay-leaves (accept y) area = refl
replay-leaves (refuse q) area = refl

is-heard : (w : Operation) (area : List ℕ) → heard w area ≡ heard_as (performed w area).told
is-heard (live k) area = ap (λ (x : CallAnswer). of_call x) (call-told k area)
is-heard (replay log) area = replay-heard (replay_log log area) area

is-left : (w : Operation) (area : List ℕ) → leaves w area ≡ (performed w area).state
is-left (live k) area = call-left k area
is-left (replay log) area = replay-leaves (replay_log log area) area

all-heard : (ws : List Operation) (area : List ℕ)
    → all_heard ws area ≡ map heard_as (operations.all_told (changed_area register) (asked_area register) (replayed register apply_record) ws area)
all-heard [] area = refl
all-heard (w ∷ ws) area =
    ap₂ (λ (x : Heard) (xs : List Heard). x ∷ xs) (is-heard w area) (ap (all_heard ws) (is-left w area) ∙ all-heard ws (performed w area).state)

-- ---- how many are out

all_left-is : (ws : List Operation) (area : List ℕ) → all_left ws area ≡ all_done register apply_record ws area
all_left-is [] area = refl
all_left-is (w ∷ ws) area = ap (all_left ws) (is-left w area) ∙ all_left-is ws (performed w area).state

codes-out : (ws : List Operation) → GoodOperations ws → (area : List ℕ) → all_done register apply_record ws empty_register ≡ area
    → ((counts_answer_as (counts_asked area)).number ≡ 0) × ((counts_answer_as (counts_asked area)).out + returns (all_made ws) ≡ issues (all_made ws))
codes-out ws g area e = go (counts_asked area) refl
  where
    go : (x : Answer (List ℕ)) → counts_asked area ≡ x → ((counts_answer_as x).number ≡ 0) × ((counts_answer_as x).out + returns (all_made ws) ≡ issues (all_made ws))
    go (accept ns) w =
        let n : get_or ns 0 0 ≡ number_at 0 (all_done register apply_record ws empty_register) =
        ap (λ (ks : List ℕ). get_or ks 0 0) (how-many-out.told area ns w) ∙ ap (number_at 0) (sym e) in
        (refl, ap (λ (k : ℕ). k + returns (all_made ws)) n ∙ how-many-out.first_number ws g)
    go (refuse q) w = absurd (true≢false (sym (ap is_register (sym e) ∙ how-many-out.kept_by_all ws g) ∙ (not-told area q w).1))

-- ---- the record numbers

began : (log area : List ℕ) (y : Replayed (List ℕ)) → replay_log log area ≡ accept y → is_register area ≡ true
unfolding replayed
began log area y e = (passed (is_register area) not_register _ e).0

not-begun : (log area : List ℕ) (q : Refusal) → replay_log log area ≡ refuse q → is_register area ≡ false
unfolding replayed
not-begun log area q e = go (is_register area) e
  where
    go : (b : Bool) → (b otherwise not_register >> accept (in_bytes register apply_record (replay_from apply_record 0 log (register.contents area)))) ≡ refuse q → b ≡ false
    go true w = absurd (never (sym w))
    go false w = refl

taken-told : (x : Answer (List ℕ)) (area' : List ℕ) (n : ℕ) → x ≡ accept area' → (contents_of area').last ≡ n → (change_answer_as x).record_number ≡ n
taken-told x area' n e h = ap (λ (y : Answer (List ℕ)). (change_answer_as y).record_number) e ∙ h

second : (log area : List ℕ) → Below 256 log → Below 256 area → (x : Answer (Replayed (List ℕ))) → replay_log log area ≡ x → replay_answer_as x ≡ end_answer ended
    → after_replay log (area_replayed area x) ≡ ran_to (area_replayed area x)
second log area k l (accept y) e h =
    let n : y.end ≡ ended = ran-only y.end h in
    rw (record-numbers.second log area y.state k l (e ∙ ap (λ (z : End). accept (record { state = y.state; end = z })) n))
  where
    ran-only : (z : End) → end_answer z ≡ end_answer ended → z ≡ ended
    ran-only ended w = refl
    ran-only (torn offset) w = absurd (omega (arith, ap (λ (a : ReplayAnswer). a.end) w))
    ran-only (stopped q offset) w = absurd (omega (arith, ap (λ (a : ReplayAnswer). a.end) w))
second log area k l (refuse q) e h = absurd (omega (arith, ap (λ (a : ReplayAnswer). a.end) h))

-- what a replay answers settles the area after it, but for that of 23
settles : (log area area' : List ℕ) → replay_log log area' ≡ replay_log log area → (x : Answer (Replayed (List ℕ))) → replay_log log area ≡ x
    → ((q : Refusal) → x ≡ refuse q → area' ≡ area) → after_replay log area' ≡ after_replay log area
settles log area area' s (accept y) e h = rw (s, e)
settles log area area' s (refuse q) e h = ap (after_replay log) (h q refl)

part-then-whole : (log area : List ℕ) (n : ℕ) → Below 256 log → Below 256 area → (x : Answer (Replayed (List ℕ))) → replay_log (take n log) area ≡ x
    → after_replay log (area_replayed area x) ≡ after_replay log area
part-then-whole log area n k l (accept y) e =
    settles log area y.state (record-numbers.prefix_then_whole log area n y k l e) (replay_log log area) refl
    (λ q f. absurd (true≢false (sym (began (take n log) area y e) ∙ not-begun log area q f)))
part-then-whole log area n k l (refuse q) e = refl

pub console-loans : ConsoleLoans
console-loans =
    record {
      as_numbered_map = λ ks g. all_told-is ks _ ∙ ap (map answer_as) (loans-register.as_plain_map.numbered ks g);
      as_plain_map = λ ks g l. all_told-is ks _ ∙ ap (map answer_as) (loans-register.as_plain_map.plain ks g l);
      as_map = λ ws g. all-heard ws _ ∙ ap (map heard_as) (pending-log.as_map ws g);
      codes_out = λ ws g. rw (all_left-is ws empty_register) (codes-out ws g (all_done register apply_record ws empty_register) refl);
      nine = λ t area. rw (looks-told (ask_text t area) (looks_text t area)) (register-in-order.looks.nine t area);
      issue_takes = λ t b area area' k h e. taken-told _ area' _ e (record-numbers.issue_takes t b area area' k h e);
      return_takes = λ t area area' k e. taken-told _ area' _ e (record-numbers.return_takes t area area' k e);
      none_taken = λ x q e. ap (λ (y : Answer (List ℕ)). (change_answer_as y).record_number) e;
      second = λ log area k l e. second log area k l (replay_log log area) refl e;
      prefix_then_whole = λ log area n k l. part-then-whole log area n k l (replay_log (take n log) area) refl;
    }
  where
    looks-told : (x : Answer ℕ) (looks : ℕ) → (holder_answer_as x looks).looks ≡ looks
    looks-told (accept b) looks = refl
    looks-told (refuse q) looks = refl
