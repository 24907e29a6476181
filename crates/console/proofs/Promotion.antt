-- What a promotion promises holds over what C is told.
use Rattle.iscc.specs.Refusals.{refusal_number}
use Prim.Native.Nat.{ℕ}
use mathlib.Core.Path.{◌≡◌, refl, sym, ap, subst}
use mathlib.Core.Logic.{inl, inr, ◌↔◌}
use mathlib.Core.List.{List}
use native.Mathlib.Omega.{arith}
use lib.ListN.{length, take}
use lib.Seq.{take-append_seam}
use Rattle.iscc.specs.Refusals.{Refusal}
use Rattle.iscc.specs.Answer.{Answer, accept, refuse, number_of, Accepted}
use Rattle.iscc.specs.Digits.{Below}
use Rattle.iscc.specs.Lists.{zero_filled}
use Rattle.iscc.proofs.Answer.{accept-inj}
use Rattle.loans.specs.Contents.{issue_text, ask_text, looks_text}
use Rattle.loans.specs.Replay.{torn}
use Rattle.loans.specs.Promotion.{Verdict, granted, refused, refused_at, refused_for, from_empty, promotion}
use Rattle.loans.specs.PromotionOrder.{verdict_answer}
use Rattle.loans.specs.PromotionPromises.{LoansApart, LastAlone, Admitted}
use Rattle.loans.proofs.Promises.{loans-register}
use Rattle.loans.proofs.PromotionPromises.{may-be-promoted}
use Rattle.loans.proofs.Verdict.{Means, means}
use Rattle.promotion.specs.Representation.{offset_told, code_told}
use Rattle.console.specs.Representation.{change_answer_as, holder_answer_as}
use Rattle.console.specs.Promotion.{told, ConsolePromotion}

module _ (log replica work : List ℕ) where
  -- which verdict it is, by its number
  by-0 : (v : Verdict) → Means log replica work v → number_of (verdict_answer v) ≡ 0 → v ≡ granted
  by-0 granted m e = refl
  by-0 (refused q) m e = absurd (omega (arith, m.0, e))
  by-0 (refused_at q offset) m e = elim m.0 [ inl w ↦ absurd (omega (arith, w, e)) | inr w ↦ absurd (omega (arith, ap refusal_number w.0, e)) ]
  by-0 (refused_for q c) m e = absurd (omega (arith, ap refusal_number m.0, e))

  by-27 : (v : Verdict) → Means log replica work v → number_of (verdict_answer v) ≡ 27 → LastAlone log replica work
  by-27 granted m e = absurd (omega (arith, e))
  by-27 (refused q) m e = m.1 e
  by-27 (refused_at q offset) m e = elim m.0 [ inl w ↦ absurd (omega (arith, w, e)) | inr w ↦ absurd (omega (arith, ap refusal_number w.0, e)) ]
  by-27 (refused_for q c) m e = absurd (omega (arith, ap refusal_number m.0, e))

  by-36 : (v : Verdict) → Means log replica work v → number_of (verdict_answer v) ≡ 36 → Admitted replica work × ((from_empty log).end ≡ torn (offset_told v))
  by-36 granted m e = absurd (omega (arith, e))
  by-36 (refused q) m e = absurd (omega (arith, m.0, e))
  by-36 (refused_at q offset) m e = elim m.0 [ inl w ↦ absurd (omega (arith, w, e)) | inr w ↦ (m.1.admitted, w.1) ]
  by-36 (refused_for q c) m e = absurd (omega (arith, ap refusal_number m.0, e))

  by-37 : (v : Verdict) → Means log replica work v → Below 256 log → number_of (verdict_answer v) ≡ 37 → LoansApart log replica work (code_told v)
  by-37 granted m k e = absurd (omega (arith, e))
  by-37 (refused q) m k e = absurd (omega (arith, m.0, e))
  by-37 (refused_at q offset) m k e = elim m.0 [ inl w ↦ absurd (omega (arith, w, e)) | inr w ↦ absurd (omega (arith, ap refusal_number w.0, e)) ]
  by-37 (refused_for q c) m k e = m.1 k

  is-yes : (told log replica work).number ≡ 0 → promotion log replica work ≡ granted
  is-yes e = by-0 (promotion log replica work) (means log replica work) e

front : (c : List ℕ) → take (length c) (zero_filled 42 c) ≡ c
unfolding zero_filled
front c = take-append_seam c _

-- a question's answer, as C has it
holder-told : (x : Answer ℕ) (looks b : ℕ) → ((q : Refusal) → x ≡ refuse q → (refusal_number q) ≡ 0 → ⊥)
    → (((holder_answer_as x looks).number ≡ 0) × ((holder_answer_as x looks).borrower ≡ b)) ↔ (x ≡ accept b)
holder-told (accept a) looks b f = ((λ e. ap accept e.1), λ e. (refl, accept-inj e))
holder-told (refuse q) looks b f = ((λ e. absurd (f q refl e.0)), λ e. let z : ◌≡◌ {A = ℕ} 0 1 = cc in absurd (omega arith))

done : (x : Answer (List ℕ)) → ((q : Refusal) → x ≡ refuse q → (refusal_number q) ≡ 0 → ⊥) → (change_answer_as x).number ≡ 0 → Accepted x
done (accept a) f e = tt
done (refuse q) f e = f q refl e

pub console-promotion : ConsolePromotion
console-promotion =
    record {
      yes = λ log replica work k. ((λ e. (may-be-promoted.yes log replica work k).0 (is-yes log replica work e)), λ m. ap (λ (v : Verdict). number_of (verdict_answer v)) ((may-be-promoted.yes log replica work k).1 m));
      code = λ log replica work k e. subst (LoansApart log replica work) (sym (front (code_told (promotion log replica work)))) (by-37 log replica work (promotion log replica work) (means log replica work) k e);
      torn = λ log replica work e. by-36 log replica work (promotion log replica work) (means log replica work) e;
      last_alone = λ log replica work e. by-27 log replica work (promotion log replica work) (means log replica work) e;
      same_bytes = λ log replica work k e. may-be-promoted.same_bytes log replica work k (is-yes log replica work e);
      shows = λ log replica work t c b k e h.
          let s = may-be-promoted.shows log replica work t c b k (is-yes log replica work e) h in
          let a = holder-told (ask_text t replica) (looks_text t replica) b (λ q w z. omega (arith, z, loans-register.numbers.ask_number t replica q w)) in
          ((λ w. s.0 (a.0 w)), λ l. a.1 (s.1 l));
      not_twice = λ log replica work t c b b' k e h l z.
          may-be-promoted.not_twice log replica work t c b b' k (is-yes log replica work e) h l
          (done (issue_text t b' replica) (λ q w y. omega (arith, y, loans-register.numbers.issue_number t b' replica q w)) z);
    }
