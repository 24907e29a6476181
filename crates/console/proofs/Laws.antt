-- The answers of the strict door, of a change, of a question and of the log as C has them, by each case.
use Rattle.std.specs.Prelude.{Result, Ok, Err, IfOk}
use Rattle.iscc.specs.Refusals.{refusal_number}
use Prim.Native.Nat.{ℕ, ◌≤◌}
use mathlib.Core.Path.{◌≡◌, refl, sym, ◌∙◌, ap, ap₂}
use mathlib.Core.List.{List, []}
use native.Mathlib.Omega.{arith}
use Rattle.iscc.specs.Answer.{Answer, accept, refuse, number_of}
use Rattle.iscc.specs.Refusals.{Refusal}
use Rattle.iscc.specs.Meaning.{Meaning}
use Rattle.iscc.specs.declared.outcome.Outcome.{Outcome}
use Rattle.loans.specs.Writer.{Written}
use Rattle.loans.specs.Replay as loans
use Rattle.loans.specs.PendingLog.{NumberedChange, write_record}
use Rattle.loans.proofs.LogPromises.{pending-log}
use Rattle.pending_log.specs.declared.replay.Replayed.{Replayed}
use Rattle.pending_log.specs.declared.replay.Replayed.TheVariants as ends
use Rattle.pending_log.specs.Representation.{appended_as, end_as, replayed_as}
use Rattle.iscc.specs.Representation.{code_as}
use Rattle.loans.specs.Promotion as promotions
use Rattle.iscc.specs.declared.code.Code.{Code}
use Rattle.promotion.specs.declared.answer.Denial.TheVariants as denials
use Rattle.promotion.specs.Representation.{Promotion, promotion_as}
use Rattle.door.specs.Representation.{checked_number}
use Rattle.door.specs.Representation.{Checked}
use Rattle.loans.specs.Contents.{number_taken}
use Rattle.register.specs.Representation.{changed_number, changed_record, asked_as, holder_number, holder_borrower}
use Rattle.register.specs.Representation.{Changed}
use Rattle.register.specs.declared.answer.Asked.{Asked}
use Rattle.register.specs.Representation.{Holder}
use Rattle.console.specs.declared.lending.ChangeAnswer.{ChangeAnswer}
use Rattle.console.specs.declared.lending.HolderAnswer.{HolderAnswer}
use Rattle.console.specs.declared.logging.ReplayAnswer.{ReplayAnswer}
use Rattle.console.specs.declared.promoting.PromotionAnswer.{PromotionAnswer}
use Rattle.console.specs.Representation.{promotion_with, promotion_answer_as, change_answer_for, change_answer_as, holder_answer_as, moved_on, record_outcome, end_answer, replay_answer_as}

pub taken : (r : Checked) (x : Answer Meaning) → checked_number r ≡ number_of x → r ≡ Ok tt → 0 ≡ number_of x
taken r x e f = ap checked_number (sym f) ∙ e

pub not_taken : (r : Checked) (x : Answer Meaning) (q : Refusal) → checked_number r ≡ number_of x → r ≡ Err q → (refusal_number q) ≡ number_of x
not_taken r x q e f = ap checked_number (sym f) ∙ e

-- ---- a change

pub is-done : (r : Changed) (n : ℕ) → r ≡ Ok n → record { number = 0; record_number = n } ≡ change_answer_for r
is-done r n e = sym (ap change_answer_for e)

pub not_done : (r : Changed) (q : Refusal) → r ≡ Err q → record { number = (refusal_number q); record_number = 0 } ≡ change_answer_for r
not_done r q e = sym (ap change_answer_for e)

-- by a text
pub change-told : (r : Changed) (x : Answer (List ℕ)) (a : ChangeAnswer) → changed_number r ≡ number_of x → changed_record r ≡ number_taken x → a ≡ change_answer_for r
    → a ≡ change_answer_as x
change-told r x a n t e = e ∙ rw (n, t)

-- ---- a question

abbrev answer_for : Asked → HolderAnswer
answer_for a = record { number = holder_number a.holder; borrower = holder_borrower a.holder; looks = a.looks }

asked-answer : (x : Answer ℕ) (looks : ℕ) → answer_for (asked_as x looks) ≡ holder_answer_as x looks
asked-answer (accept b) looks = refl
asked-answer (refuse q) looks = refl

module _ (a : Asked) (x : Answer ℕ) (looks : ℕ) (e : a ≡ asked_as x looks) where
  pub is_held : (b : ℕ) → a.holder ≡ Ok b → record { number = 0; borrower = b; looks = a.looks } ≡ holder_answer_as x looks
  is_held b f = ap (λ (h : Holder). record { number = holder_number h; borrower = holder_borrower h; looks = a.looks }) (sym f) ∙ ap answer_for e ∙ asked-answer x looks

  pub not-held : (q : Refusal) → a.holder ≡ Err q → record { number = (refusal_number q); borrower = 0; looks = a.looks } ≡ holder_answer_as x looks
  not-held q f = ap (λ (h : Holder). record { number = holder_number h; borrower = holder_borrower h; looks = a.looks }) (sym f) ∙ ap answer_for e ∙ asked-answer x looks

-- ---- a record

-- the position never goes back
pub moved_on-is : (n : NumberedChange) (log : List ℕ) (position : ℕ) (r : Result ℕ Refusal) → r ≡ appended_as (write_record n log position) → IfOk r (λ (end : ℕ). position ≤ end)
moved_on-is n log position r e = rw e (go (write_record n log position) refl)
  where
    go : (x : Answer Written) → write_record n log position ≡ x → IfOk (appended_as x) (λ (end : ℕ). position ≤ end)
    go (accept w) f = omega (arith, (pending-log.appends n log position w f).moved)
    go (refuse q) f = tt

pub record-told : (position : ℕ) (x : Answer Written) (r : Result ℕ Refusal) (o : Outcome) → r ≡ appended_as x → o ≡ moved_on position r → o ≡ record_outcome position x
record-told position x r o e f = f ∙ ap (moved_on position) e ∙ go x
  where
    go : (x : Answer Written) → moved_on position (appended_as x) ≡ record_outcome position x
    go (accept w) = refl
    go (refuse q) = refl

-- ---- a replay

abbrev replay_for : Replayed → ReplayAnswer
replay_for ends.Ended = record { number = 0; end = 1; offset = 0 }
replay_for (ends.Torn offset) = record { number = 0; end = 2; offset = offset }
replay_for (ends.Stopped q offset) = record { number = (refusal_number q); end = 3; offset = offset }
replay_for (ends.Refused q) = record { number = (refusal_number q); end = 0; offset = 0 }

end-answer : (x : loans.End) → replay_for (end_as x) ≡ end_answer x
end-answer loans.ended = refl
end-answer (loans.torn offset) = refl
end-answer (loans.stopped q offset) = refl

replay-answer : (x : Answer (loans.Replayed (List ℕ))) → replay_for (replayed_as x) ≡ replay_answer_as x
replay-answer (accept y) = end-answer y.end
replay-answer (refuse q) = refl

module _ (r : Replayed) (x : Answer (loans.Replayed (List ℕ))) (e : r ≡ replayed_as x) where
  answer-of : (s : Replayed) → r ≡ s → replay_for s ≡ replay_answer_as x
  answer-of s f = ap replay_for (sym f ∙ e) ∙ replay-answer x

  pub has_ended : r ≡ ends.Ended → record { number = 0; end = 1; offset = 0 } ≡ replay_answer_as x
  has_ended f = answer-of _ f

  pub is-torn : (offset : ℕ) → r ≡ ends.Torn offset → record { number = 0; end = 2; offset = offset } ≡ replay_answer_as x
  is-torn offset f = answer-of _ f

  pub is-stopped : (q : Refusal) (offset : ℕ) → r ≡ ends.Stopped q offset → record { number = (refusal_number q); end = 3; offset = offset } ≡ replay_answer_as x
  is-stopped q offset f = answer-of _ f

  pub not-begun : (q : Refusal) → r ≡ ends.Refused q → record { number = (refusal_number q); end = 0; offset = 0 } ≡ replay_answer_as x
  not-begun q f = answer-of _ f

-- ---- a promotion

-- by what the code answers, and the code c that it tells
abbrev promotion_for : Promotion → Code → PromotionAnswer
promotion_for (Ok x) c = promotion_with 0 0 c
promotion_for (Err (denials.Refused q)) c = promotion_with (refusal_number q) 0 c
promotion_for (Err (denials.At q offset)) c = promotion_with (refusal_number q) offset c
promotion_for (Err (denials.For q code)) c = promotion_with (refusal_number q) 0 code

promotion-answer : (v : promotions.Verdict) → promotion_for (promotion_as v) (code_as []) ≡ promotion_answer_as v
unfolding code_as
promotion-answer promotions.granted = refl
promotion-answer (promotions.refused q) = refl
promotion-answer (promotions.refused_at q offset) = refl
promotion-answer (promotions.refused_for q c) = refl

pub promotion-told : (p s : Promotion) (v : promotions.Verdict) (c : Code) → p ≡ promotion_as v → p ≡ s → c ≡ code_as [] → promotion_for s c ≡ promotion_answer_as v
promotion-told p s v c e f k = ap₂ promotion_for (sym f ∙ e) k ∙ promotion-answer v
