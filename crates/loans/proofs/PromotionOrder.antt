-- The checker answers as its tests say.
use Prim.Native.Nat.{ℕ}
use mathlib.Core.Path.{◌≡◌, refl, subst}
use mathlib.Core.Bool.{Bool, true, false, not}
use mathlib.Core.Option.{Option, none, some}
use mathlib.Core.List.{List, [], ◌∷◌}
use lib.ListN.{length}
use lib.Dec.{eqb, leb}
use Rattle.iscc.specs.Refusals.{Refusal, area_too_short, not_register, last_numbers_differ, log_torn, loans_differ}
use Rattle.iscc.specs.Answer.{Answer, accept, refuse, ◌>>=◌, ◌>>◌, ◌otherwise◌}
use Rattle.iscc.specs.Exactly.{Rule, once}
use Rattle.iscc.proofs.Answer.{never}
use Rattle.iscc.proofs.Steps.{By, step-once, done, after-part}
use Rattle.loans.specs.Loan.{is_some}
use Rattle.loans.specs.Numbered.{Contents, nothing}
use Rattle.loans.specs.Contents.{is_register, contents_of}
use Rattle.loans.specs.Log.{Record, records_from}
use Rattle.loans.specs.Replay.{End, ended, torn, stopped, Replayed, end_of, go_on, replay_all}
use Rattle.loans.specs.PendingLog.{apply_record}
use Rattle.loans.specs.LogOrder.{record_rules, record_stage, stop_of}
use Rattle.loans.specs.Promotion.{Verdict, difference, by_difference, compared, from_empty, trial_replay, by_end, verdict_of, promotion}
use Rattle.loans.specs.PromotionOrder.{verdict_answer, promotion_stages}
use Rattle.loans.proofs.LogOrder.{record-by, stop-by}

-- the two registers: 37, then 27
difference-by : (o : Option (List ℕ)) (same_last : Bool)
    → By (once loans_differ (not (is_some o)) ∷ once last_numbers_differ same_last ∷ []) (verdict_answer (by_difference o same_last))
difference-by none true = step-once true loans_differ _ _ (step-once true last_numbers_differ _ [] (done tt))
difference-by none false = step-once true loans_differ _ _ (step-once false last_numbers_differ _ [] (done tt))
difference-by (some c) same_last = step-once false loans_differ _ _ (step-once same_last last_numbers_differ _ [] (done tt))

module _ (v : Verdict) (ss : List (List Rule)) (y : By ss (verdict_answer v)) where
  -- the tear: 36
  tear-by : (tear : Option ℕ) → By (once log_torn (not (is_some tear)) ∷ ss) (verdict_answer (by_end (end_of tear) v))
  tear-by none = step-once true log_torn _ ss y
  tear-by (some offset) = step-once false log_torn _ ss y

  -- a replay that is not stopped reads all records, so that the log's own tear is its end
  not_stopped : (es : List Record) (tear : Option ℕ) (s : Contents) → stop_of (replay_all apply_record es tear s).end ≡ accept tt
      → (replay_all apply_record es tear s).end ≡ end_of tear
  unfolding replay_all
  not_stopped [] tear s e = refl
  not_stopped (r ∷ rs) tear s e = go (apply_record r.field s) (λ s'. not_stopped rs tear s') e
    where
      go : (x : Answer Contents) → ((s' : Contents) → stop_of (replay_all apply_record rs tear s').end ≡ accept tt → (replay_all apply_record rs tear s').end ≡ end_of tear)
          → let end = (go_on apply_record s r.offset x (λ s'. replay_all apply_record rs tear s')).end in stop_of end ≡ accept tt → end ≡ end_of tear
      go (accept s') ih w = ih s' w
      go (refuse q) ih w = absurd (never w)

  stop-first : (x : End) → (stop_of x >>= λ u. verdict_answer (by_end x v)) ≡ verdict_answer (by_end x v)
  stop-first ended = refl
  stop-first (torn offset) = refl
  stop-first (stopped q offset) = refl

  -- the records, then the tear
  end_by : (es : List Record) (tear : Option ℕ) (s : Contents)
      → By (record_stage apply_record record_rules es s ∷ once log_torn (not (is_some tear)) ∷ ss) (verdict_answer (by_end (replay_all apply_record es tear s).end v))
  end_by es tear s =
      let x : End = (replay_all apply_record es tear s).end in
      subst (By (record_stage apply_record record_rules es s ∷ once log_torn (not (is_some tear)) ∷ ss)) (stop-first x)
      (after-part (record_stage apply_record record_rules es s ∷ []) (once log_torn (not (is_some tear)) ∷ ss) (stop_of x) (λ u. verdict_answer (by_end x v))
      (stop-by apply_record record_rules record-by es tear s) (λ u e. rw (not_stopped es tear s e) (tear-by tear)))

-- a test before the replay
step-verdict : (held : Contents) (b : Bool) (q : Refusal) (x : Answer (Replayed Contents)) (ss : List (List Rule))
    → By ss (verdict_answer (verdict_of held x)) → By (once q b ∷ ss) (verdict_answer (verdict_of held (b otherwise q >> x)))
step-verdict held true q x ss y = step-once true q _ ss y
step-verdict held false q x ss y = step-once false q _ ss y

pub promotion-by : (log replica work : List ℕ) → By (promotion_stages log replica work) (verdict_answer (promotion log replica work))
unfolding promotion_stages promotion trial_replay compared
promotion-by log replica work =
    let made : Contents = (from_empty log).state in
    let held : Contents = contents_of replica in
    step-verdict held (is_register replica) not_register _ _
    (step-verdict held (leb 12308 (length work)) area_too_short (accept (from_empty log)) _
    (end_by (compared made held) _ (difference-by (difference made.loans held.loans) (eqb made.last held.last))
    (records_from 0 log).whole (records_from 0 log).tear nothing))
