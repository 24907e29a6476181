-- What is promised of a promotion holds.
use Prim.Native.Nat.{ℕ, ◌≤◌}
use mathlib.Core.Path.{◌≡◌, refl, sym, ◌∙◌, ap, subst}
use mathlib.Core.Logic.{inl, inr, ◌↔◌}
use mathlib.Core.Bool.{true, not, false≢true}
use mathlib.Core.Option.{Option, none, some}
use mathlib.Core.List.{List}
use native.Mathlib.Omega.{arith}
use lib.ListN.{length, take, drop}
use lib.Seq.{take_at}
use Rattle.iscc.specs.Refusals.{Refusal, already_out}
use Rattle.iscc.specs.Answer.{Answer, accept, refuse, ◌>>=◌, Accepted}
use Rattle.iscc.specs.Digits.{Below}
use Rattle.iscc.specs.Doors.{code_bytes}
use Rattle.iscc.proofs.Answer.{never, value_of, passed, answered, accept-inj, refuse-inj}
use Rattle.iscc.proofs.Exactly.{exactly}
use Rattle.loans.specs.Loan.{find, is_out}
use Rattle.loans.specs.Map.{issue_code, change_with, holder_of}
use Rattle.loans.specs.Calls.{issued, borrower_of}
use Rattle.loans.specs.Register.{changed_area, asked_area}
use Rattle.loans.specs.Numbered.{Contents, nothing}
use Rattle.loans.specs.Contents.{is_register, contents_of, bytes_of, changed_loans, applied, empty_register, issue_text, ask_text}
use Rattle.loans.specs.Replay.{ended, Replayed, area_replayed}
use Rattle.loans.specs.PendingLog.{apply_record}
use Rattle.loans.specs.Promotion.{Verdict, granted, refused, refused_at, refused_for, from_empty, verdict_of, promotion, work_left, work_after}
use Rattle.loans.specs.PromotionOrder.{verdict_answer}
use Rattle.loans.specs.PromotionPromises.{held_loans, May, LastIsIssue, changes_in, MayBePromoted}
use Rattle.loans.proofs.Numbered.{taken}
use Rattle.loans.proofs.Numbers.{Within}
use Rattle.loans.proofs.Contents.{register-sound, register-known, contents-rising, asks-find, no-loans}
use Rattle.loans.proofs.Replay.{replay-end}
use Rattle.loans.proofs.LiveRun.{run-follows}
use Rattle.loans.proofs.Promotion.{nothing-good, empty-replayed, from-valid, from_back, trial-23, trial-15}
use Rattle.loans.proofs.Verdict.{Means, means, told_at, may-granted, last-told, code-told, by_end-is, work-is, work-front, work-rest}
use Rattle.loans.proofs.PromotionOrder.{promotion-by}
use Rattle.loans.proofs.Night.{last-decides}

in_table : (log replica work : List ℕ) (v : Verdict) (q : Refusal) → Means log replica work v → verdict_answer v ≡ refuse q → Within 1 37 q
in_table log replica work granted q m e = absurd (never (sym e))
in_table log replica work (refused p) q m e = subst (Within 1 37) (refuse-inj e) (omega (arith, m.0), omega (arith, m.0))
in_table log replica work (refused_at p offset) q m e =
    subst (Within 1 37) (refuse-inj e) (elim m.0 [ inl w ↦ (omega (arith, w), omega (arith, w)) | inr w ↦ rw w.0 (omega arith, omega arith) ])
in_table log replica work (refused_for p c) q m e = subst (Within 1 37) (refuse-inj e) (rw m.0 (omega arith, omega arith))

holder-is : (o : Option ℕ) (b : ℕ) → holder_of o ≡ accept b → o ≡ some b
holder-is none b e = absurd (never e)
holder-is (some a) b e = ap some (accept-inj e)

-- a replica that is what the log gives
given-granted : (log work : List ℕ) → Below 256 log → (from_empty log).end ≡ ended → 12308 ≤ length work → promotion log (bytes_of (from_empty log).state) work ≡ granted
given-granted log work k e h =
    let b = sym (from_back log k) in
    may-granted log (bytes_of (from_empty log).state) work k
    (record {
      end = record { admitted = record { valid = from-valid log k; room = h }; ran = e };
      same = λ c. ap (λ (s : Contents). find c s.loans) b;
      last = ap (λ (s : Contents). s.last) b;
    })

module _ (log replica work : List ℕ) where
  said : {v : Verdict} → promotion log replica work ≡ v → Means log replica work v
  said e = subst (Means log replica work) e (means log replica work)

  module _ (p : promotion log replica work ≡ granted) where
    may : May log replica work
    may = (said p).0

    valid : is_register replica ≡ true
    valid = may.end.admitted.valid

    same_bytes : Below 256 replica → bytes_of (from_empty log).state ≡ replica
    same_bytes k = ap bytes_of (said p).1 ∙ register-sound.again replica k valid

    work-same : Below 256 replica → take 12308 (work_after log replica work) ≡ replica
    work-same k =
        ap (take 12308) (work-is log replica work may.end.admitted) ∙ rw (same_bytes k) (take_at replica (drop 12308 work) 12308 (register-known replica valid).size)

    module _ (t c : List ℕ) (b : ℕ) (k : Below 256 log) (e : code_bytes t ≡ accept c) where
      asked : ask_text t replica ≡ holder_of (find c (held_loans replica))
      unfolding borrower_of asked_area
      asked = rw (e, valid) (asks-find c (held_loans replica) (contents-rising replica valid))

      out : LastIsIssue c b (changes_in log) → find c (held_loans replica) ≡ some b
      out l = sym (may.same c) ∙ (last-decides c log b k).1 l

      shows : (ask_text t replica ≡ accept b) ↔ LastIsIssue c b (changes_in log)
      shows =
          ((λ a. (last-decides c log b k).0 (may.same c ∙ holder-is (find c (held_loans replica)) b (sym asked ∙ a))), λ l. asked ∙ ap holder_of (out l))

      not-twice : (b' : ℕ) → LastIsIssue c b (changes_in log) → Accepted (issue_text t b' replica) → ⊥
      unfolding issued changed_area change_with
      not-twice b' l a =
          let x : Answer Contents = applied (issue_code c b') (contents_of replica) in
          let w = answered x (λ s. accept (bytes_of s)) (value_of (x >>= λ s. accept (bytes_of s)) (rw (e, valid) at a)).1 in
          let q = passed (not (is_out c (held_loans replica))) already_out _ (taken changed_loans (issue_code c b') (contents_of replica) w.0 w.1).loans in
          false≢true (rw (out l) at q.0)

pub may-be-promoted : MayBePromoted
unfolding promotion work_after
may-be-promoted =
    record {
      yes = λ log replica work k. ((λ e. may log replica work e), may-granted log replica work k);
      tests = λ log replica work. exactly _ _ (promotion-by log replica work);
      offset = λ log replica work q offset. ((λ e. (said log replica work e).1), told_at log replica work q offset);
      code = λ log replica work c k. ((λ e. (said log replica work e).1 k), code-told log replica work k c);
      last_alone = λ log replica work k. ((λ e. (said log replica work e).1 refl), last-told log replica work k);
      any_work = λ log replica work work' a a'. by_end-is log replica work a ∙ sym (by_end-is log replica work' a');
      replays = λ log replica work k a. work-front log replica work k a ∙ sym (ap (area_replayed empty_register) (empty-replayed log));
      rest = λ log replica work k. (work-rest log replica work k).1;
      size = λ log replica work k. (work-rest log replica work k).0;
      kept23 = λ log replica work v. let r = trial-23 log replica work v in (ap (verdict_of (contents_of replica)) r, ap (work_left work) r);
      kept15 = λ log replica work v h. let r = trial-15 log replica work v h in (ap (verdict_of (contents_of replica)) r, ap (work_left work) r);
      of_replay = λ log work k e h. ap (λ (a : List ℕ). promotion log a work) (ap (area_replayed empty_register) (empty-replayed log)) ∙ given-granted log work k e h;
      same_bytes = λ log replica work k p. work-same log replica work p k;
      shows = λ log replica work t c b k p e. shows log replica work p t c b k e;
      not_on_shelf = λ log replica work t c b k p e i n. never (sym n ∙ (shows log replica work p t c b k e).1 i);
      not_twice = λ log replica work t c b b' k p e. not-twice log replica work p t c b k e b';
      as_counter =
          λ ks log w replica work g k e p.
          let f = run-follows nothing ks empty_register nothing log 0 w (sym no-loans) nothing-good g (replay-end apply_record 0 nothing) e in
          sym (f.bytes ∙ ap (λ (x : Replayed Contents). bytes_of x.state) (sym f.runs) ∙ same_bytes (take w.position w.log) replica work p k);
      numbers = λ log replica work q e. in_table log replica work (promotion log replica work) q (means log replica work) e;
    }
