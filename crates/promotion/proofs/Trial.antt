-- What is compared, the replay from empty in a work area, and the checker's tests.
use Prim.Native.Nat.{ℕ, ◌≤◌, ◌<◌}
use mathlib.Core.Path.{◌≡◌, refl, sym, ◌∙◌, ap, subst}
use mathlib.Core.Bool.{Bool, true, false}
use mathlib.Core.Option.{Option, none, some}
use mathlib.Core.List.{List, ◌++◌}
use native.Mathlib.Omega.{arith}
use lib.ListN.{length, drop, replicate}
use borrow.Author.Tests.{eq-eqb, ne_eqb}
use Rattle.iscc.specs.Refusals.{Refusal, area_too_short, not_register, last_numbers_differ, log_torn, loans_differ}
use Rattle.iscc.specs.Answer.{Answer, accept, refuse, number_of}
use Rattle.iscc.specs.Digits.{Below}
use Rattle.iscc.specs.declared.code.Code.{Code}
use Rattle.iscc.specs.Representation.{code_as}
use Rattle.std.specs.Prelude as code
use Rattle.std.specs.Prelude.{Some, Result, Ok, Err}
use lib.Dec.{eqb}
use Rattle.loans.specs.Place.{zeros}
use Rattle.loans.specs.Numbered.{Contents}
use Rattle.loans.specs.Contents.{is_register, contents_of, bytes_of, empty_register}
use Rattle.loans.specs.Replay.{End, ended, torn, stopped, area_replayed}
use Rattle.loans.specs.Replay as replays
use Rattle.loans.specs.PendingLog.{replay_log}
use Rattle.loans.specs.Promotion.{Verdict, refused, refused_at, difference, by_difference, compared, from_empty, trial_replay, by_end, verdict_of, promotion, work_left, work_after}
use Rattle.loans.specs.PromotionOrder.{verdict_answer}
use Rattle.loans.proofs.Promotion.{empty-valid, empty-replayed, from-valid, from_back, trial-yes, trial-23, trial-15}
use Rattle.pending_log.specs.declared.replay.Replayed.{Replayed}
use Rattle.pending_log.specs.declared.replay.Replayed.TheVariants as ends
use Rattle.pending_log.specs.Representation.{end_as, replayed_as}
use Rattle.promotion.specs.declared.answer.Denial.{Denial}
use Rattle.promotion.specs.declared.answer.Denial.TheVariants as denials
use Rattle.promotion.specs.Representation.{Promotion, difference_as, ended_as, offset_told, code_told, promotion_as, promotion_number, promotion_offset, promotion_code}
use Rattle.promotion.proofs.Answers.{all_told-is}

-- ---- two registers, by the difference d of their loans

module _ (made held : Contents) (d : code.Option Code) (e : d ≡ difference_as (difference made.loans held.loans)) where
  pub loans-differ : (c : Code) → d ≡ Some c → Err (denials.For loans_differ c) ≡ promotion_as (compared made held)
  unfolding compared
  loans-differ c s = go (difference made.loans held.loans) (sym s ∙ e)
    where
      go : (x : Option (List ℕ)) → Some c ≡ difference_as x → Err (denials.For loans_differ c) ≡ promotion_as (by_difference x (eqb made.last held.last))
      go (some b) q = let k : c ≡ code_as b = cc in ap (λ (y : Code). Err (denials.For loans_differ y)) k
      go none q = let o : ◌≡◌ {A = ℕ} 0 1 = cc in absurd (omega arith)

  module _ (f : (c : Code) → d ≡ Some c → ⊥) (a b : ℕ) (g : a ≡ made.last) (h : b ≡ held.last) where
    none-differs : difference made.loans held.loans ≡ none
    none-differs = go (difference made.loans held.loans) e
      where
        go : (x : Option (List ℕ)) → d ≡ difference_as x → x ≡ none
        go none q = refl
        go (some c) q = absurd (f (code_as c) q)

    pub nothing-differs : a ≡ b → Ok tt ≡ promotion_as (compared made held)
    unfolding compared
    nothing-differs w = sym (rw (none-differs, eq-eqb made.last held.last (sym g ∙ w ∙ h)) refl)

    pub last-differs : (a ≡ b → ⊥) → Err (denials.Refused last_numbers_differ) ≡ promotion_as (compared made held)
    unfolding compared
    last-differs w = sym (rw (none-differs, ne_eqb made.last held.last (λ z. w (g ∙ z ∙ sym h))) refl)

-- ---- what the end of a replay says stands in front of the comparison

pub by_end-is : (x : End) (v : Verdict) → ended_as (end_as x) ≡ Ok tt → promotion_as (by_end x v) ≡ promotion_as v
by_end-is ended v e = refl
by_end-is (torn k) v e = let z : ◌≡◌ {A = ℕ} 0 1 = cc in absurd (omega arith)
by_end-is (stopped q k) v e = let z : ◌≡◌ {A = ℕ} 0 1 = cc in absurd (omega arith)

pub by_end-denied : (x : End) (v : Verdict) (d : Denial) → ended_as (end_as x) ≡ Err d → promotion_as (by_end x v) ≡ Err d
by_end-denied ended v d e = let z : ◌≡◌ {A = ℕ} 0 1 = cc in absurd (omega arith)
by_end-denied (torn k) v d e = e
by_end-denied (stopped q k) v d e = e

-- ---- the replay from empty: d is the area before, area it cleared, r the replay's answer and after what it left

pub filled : (n : ℕ) (area : List ℕ) → area ≡ replicate n 0 → area ≡ zeros n
unfolding zeros
filled n area e = e

pub clear-valid : (d area : List ℕ) → length d ≡ 12308 → area ≡ zeros (length d) → is_register area ≡ true
clear-valid d area n e = ap is_register (e ∙ ap (λ (k : ℕ). zeros k) n) ∙ empty-valid

module _ (log d area : List ℕ) (n : length d ≡ 12308) (e : area ≡ zeros (length d)) (r : Replayed) (after : List ℕ)
    (t : (r ≡ replayed_as (replay_log log area)) × (after ≡ area_replayed area (replay_log log area))) where
  from : replay_log log area ≡ replay_log log empty_register
  from = ap (replay_log log) (e ∙ ap (λ (k : ℕ). zeros k) n)

  end-told : r ≡ end_as (from_empty log).end
  end-told = t.0 ∙ ap replayed_as (from ∙ empty-replayed log)

  left : after ≡ bytes_of (from_empty log).state
  left = t.1 ∙ ap (area_replayed area) (from ∙ empty-replayed log)

  module _ (k : Below 256 log) where
    pub made-valid : is_register after ≡ true
    made-valid = subst (λ (a : List ℕ). is_register a ≡ true) (sym left) (from-valid log k)

    made_holds : contents_of after ≡ (from_empty log).state
    made_holds = ap contents_of left ∙ from_back log k

    pub ran-to-end : (held : Contents) → ended_as r ≡ Ok tt → (p : Promotion) → p ≡ promotion_as (compared (contents_of after) held)
        → (p ≡ promotion_as (verdict_of held (accept (from_empty log)))) × (after ≡ bytes_of (from_empty log).state)
    ran-to-end held w p q =
        (q ∙ ap (λ (s : Contents). promotion_as (compared s held)) made_holds ∙ sym (by_end-is (from_empty log).end _ (sym (ap ended_as end-told) ∙ w)), left)

  pub denied-told : (held : Contents) (d : Denial) → ended_as r ≡ Err d → (p : Promotion) → p ≡ Err d
      → (p ≡ promotion_as (verdict_of held (accept (from_empty log)))) × (after ≡ bytes_of (from_empty log).state)
  denied-told held d w p q = (q ∙ sym (by_end-denied (from_empty log).end _ d (sym (ap ended_as end-told) ∙ w)), left)

  pub stopped-told : (held : Contents) (q : Refusal) (offset : ℕ) (p : Promotion) → p ≡ promotion_as (refused_at q offset) → r ≡ ends.Stopped q offset
      → (p ≡ promotion_as (verdict_of held (accept (from_empty log)))) × (after ≡ bytes_of (from_empty log).state)
  stopped-told held q offset p h w = denied-told held (denials.At q offset) (ap ended_as w) p h

  pub torn-told : (held : Contents) (offset : ℕ) (p : Promotion) → p ≡ promotion_as (refused_at log_torn offset) → r ≡ ends.Torn offset
      → (p ≡ promotion_as (verdict_of held (accept (from_empty log)))) × (after ≡ bytes_of (from_empty log).state)
  torn-told held offset p h w = denied-told held (denials.At log_torn offset) (ap ended_as w) p h

  -- 23 is no end of a replay from empty
  never : (x : End) → r ≡ end_as x → (q : Refusal) → r ≡ ends.Refused q → ⊥
  never ended f q w = let z : ◌≡◌ {A = ℕ} 0 1 = cc in omega arith
  never (torn k) f q w = let z : ◌≡◌ {A = ℕ} 0 1 = cc in omega arith
  never (stopped s k) f q w = let z : ◌≡◌ {A = ℕ} 0 1 = cc in omega arith

  pub not-refused : (q : Refusal) → r ≡ ends.Refused q → ⊥
  not-refused q w = never (from_empty log).end end-told q w

-- ---- the checker

module _ (log replica work : List ℕ) (p : Promotion) (after : List ℕ) where
  -- what is promised of it, by the answer to its two first tests
  abbrev Told : Type 0
  Told =
      (p ≡ promotion_as (promotion log replica work))
      × ((promotion_number p ≡ number_of (verdict_answer (promotion log replica work)))
      × ((promotion_offset p ≡ offset_told (promotion log replica work))
      × ((promotion_code p ≡ code_told (promotion log replica work)) × (after ≡ work_after log replica work))))

  told-by : (x : Answer (replays.Replayed Contents)) → trial_replay log replica work ≡ x → p ≡ promotion_as (verdict_of (contents_of replica) x)
      → after ≡ work_left work x → Told
  unfolding promotion work_after
  told-by x e q w =
      let f = q ∙ ap (λ (y : Answer (replays.Replayed Contents)). promotion_as (verdict_of (contents_of replica) y)) (sym e) in
      let t = all_told-is (verdict_of (contents_of replica) (trial_replay log replica work)) p f in
      (f, (t.0, (t.1, (t.2, w ∙ ap (work_left work) (sym e)))))

  module _ (b : Bool) (v : b ≡ is_register replica) where
    pub told-23 : b ≡ false → p ≡ promotion_as (refused not_register) → after ≡ work → Told
    told-23 f q w = told-by (refuse not_register) (trial-23 log replica work (sym v ∙ f)) q w

    pub told-15 : b ≡ true → length work < 12308 → p ≡ promotion_as (refused area_too_short) → after ≡ work → Told
    told-15 f h q w = told-by (refuse area_too_short) (trial-15 log replica work (sym v ∙ f) h) q w

    pub told-replay : b ≡ true → 12308 ≤ length work → (area : List ℕ)
        → (p ≡ promotion_as (verdict_of (contents_of replica) (accept (from_empty log)))) × (area ≡ bytes_of (from_empty log).state)
        → after ≡ area ++ drop 12308 work → Told
    told-replay f h area t w =
        told-by (accept (from_empty log)) (trial-yes log replica work (sym v ∙ f) h) t.0 (w ∙ ap (λ (a : List ℕ). a ++ drop 12308 work) t.1)
