-- A record that was applied or skipped once is skipped from then on: so a log changes nothing the second time, and any part of it from its
-- start, and then the whole, is the whole.
use Prim.Native.Nat.{ℕ, ◌+◌, ◌≤◌}
use mathlib.Core.Path.{◌≡◌, refl, sym, ◌∙◌, ap, subst}
use mathlib.Core.Bool.{Bool, true, false, cond}
use mathlib.Core.Logic.{◌⊎◌, inl, inr}
use mathlib.Core.Option.{Option, none}
use mathlib.Core.List.{List, [], ◌∷◌, ◌++◌, append-nil}
use native.Mathlib.Nat.{le_refl}
use native.Mathlib.Omega.{arith}
use lib.ListN.{length, length-append}
use lib.Seq.{take-append_seam}
use lib.Dec.{leb}
use borrow.Author.Tests.{leb-true, leb-false}
use Rattle.iscc.specs.Answer.{Answer, accept, refuse}
use Rattle.iscc.specs.Refusals.{not_register}
use Rattle.iscc.specs.Digits.{Below}
use Rattle.iscc.proofs.Answer.{passed, accept-inj, accepted-value}
use Rattle.loans.specs.Fields.{Field}
use Rattle.loans.specs.Log.{Record, Records, records_from}
use Rattle.loans.specs.Replay.{ended, Replayed, go_on, replay_all, replay_from, in_bytes, replayed}
use Rattle.loans.specs.Tears.{end_of_record, ending_by}
use Rattle.loans.specs.Numbered.{Contents}
use Rattle.loans.specs.Contents.{contents_of, is_register, bytes_of, changed_loans, register}
use Rattle.loans.specs.PendingLog.{number_in, is_numbered, numbered_of, apply_record, replay_log}
use Rattle.loans.specs.Good.{GoodContents}
use Rattle.loans.proofs.Tears.{cut-anywhere}
use Rattle.loans.proofs.Replay.{on_from, replay-tear, replay-more, ended-only}
use Rattle.loans.proofs.Contents.{register-sound}
use Rattle.loans.proofs.PendingLog.{is-record, skip-in-turn, skipped, next, took, replay-good}

-- ---- one record

-- accepted: it is a record, its number is not above the last one then, and that one is not below the last one before
record Passed (f : Field) (s s' : Contents) : Type 0 where
  is : is_numbered f ≡ true
  number : number_in f ≤ s'.last
  rises : s.last ≤ s'.last

passes : (f : Field) (s s' : Contents) → apply_record f s ≡ accept s' → Passed f s s'
unfolding numbered_of
passes f s s' e =
    let t = took f s s' e in
    elim t.1 [
      | skipped w q ↦ subst (Passed f s) q (record { is = t.0; number = leb-true (number_in f) s.last w; rises = le_refl s.last })
      | next w q ↦
          let h = leb-false (number_in f) s.last w in
          accepted-value (changed_loans (numbered_of f).change s.loans) _ (Passed f s)
          (λ ls a. record { is = t.0; number = le_refl (number_in f); rises = omega (arith, h) }) s' q
    ]

skips : (f : Field) (s : Contents) → is_numbered f ≡ true → number_in f ≤ s.last → apply_record f s ≡ accept s
skips f s e h = is-record changed_loans f s e ∙ skip-in-turn (number_in f) s.last s _ h

-- ---- records from the left

-- on a state that has got as far, where they ran to their end, or on the one where they stopped: they end there as they did
record Resumes (es : List Record) (s : Contents) (x : Replayed Contents) : Type 0 where
  rises : s.last ≤ x.state.last
  again : (t : Contents) → x.state.last ≤ t.last → (x.end ≡ ended) ⊎ (x.state ≡ t) → (fs : List Record) (tear : Option ℕ)
      → replay_all apply_record (es ++ fs) tear t ≡ on_from t x.end (λ s'. replay_all apply_record fs tear s')

resumes : (es : List Record) (s : Contents) → Resumes es s (replay_all apply_record es none s)
unfolding replay_all
resumes [] s = record { rises = le_refl s.last; again = λ t l h fs tear. refl }
resumes (e ∷ es) s = go (apply_record e.field s) refl (λ s'. resumes es s')
  where
    go : (y : Answer Contents) → apply_record e.field s ≡ y → ((s' : Contents) → Resumes es s' (replay_all apply_record es none s'))
        → Resumes (e ∷ es) s (go_on apply_record s e.offset y (λ s'. replay_all apply_record es none s'))
    go (accept s') w ih =
        let p : Passed e.field s s' = passes e.field s s' w in
        let i : Resumes es s' (replay_all apply_record es none s') = ih s' in
        record {
          rises = omega (arith, p.rises, i.rises);
          again = λ t l h fs tear. rw (skips e.field t p.is (omega (arith, p.number, i.rises, l))) (i.again t l h fs tear);
        }
    go (refuse q) w ih =
        record {
          rises = le_refl s.last;
          again = λ t l h fs tear. elim h [ inl z ↦ (let c : ◌≡◌ {A = ℕ} 0 1 = cc in absurd (omega arith)) | inr z ↦ rw (← z, w) ];
        }

-- ---- the records of a part of a log, from its start

ending-first : (k : ℕ) (es : List Record) → (fs : List Record) × (es ≡ ending_by k es ++ fs)
unfolding ending_by
ending-first k [] = ([], refl)
ending-first k (e ∷ es) = go (leb (end_of_record e) k) (ending-first k es)
  where
    go : (b : Bool) → ((fs : List Record) × (es ≡ ending_by k es ++ fs)) → (fs : List Record) × (e ∷ es ≡ cond b (e ∷ ending_by k es) [] ++ fs)
    go true p = (p.0, ap (λ (rs : List Record). e ∷ rs) p.1)
    go false p = (e ∷ es, refl)

part-first : (part rest : List ℕ) → (fs : List Record) × ((records_from 0 (part ++ rest)).whole ≡ (records_from 0 part).whole ++ fs)
part-first part rest =
    let c = cut-anywhere 0 (part ++ rest) (length part) (omega (arith, length-append part rest)) in
    let p = ending-first (0 + length part) (records_from 0 (part ++ rest)).whole in
    (p.0, p.1 ∙ ap (λ (x : Records). x.whole ++ p.0) (sym c ∙ ap (records_from 0) (take-append_seam part rest)))

-- ---- logs

state-is : (log : List ℕ) (s : Contents) → (replay_from apply_record 0 log s).state ≡ (replay_all apply_record (records_from 0 log).whole none s).state
state-is log s = ap (λ (x : Replayed Contents). x.state) (replay-tear apply_record (records_from 0 log).whole (records_from 0 log).tear s)

part-whole : (part rest : List ℕ) (s : Contents)
    → replay_from apply_record 0 (part ++ rest) (replay_from apply_record 0 part s).state ≡ replay_from apply_record 0 (part ++ rest) s
part-whole part rest s =
    let es : List Record = (records_from 0 part).whole in
    let tear : Option ℕ = (records_from 0 (part ++ rest)).tear in
    let p = part-first part rest in
    let t : Contents = (replay_all apply_record es none s).state in
    rw (state-is part s, p.1) ((resumes es s).again t (le_refl t.last) (inr refl) p.0 tear ∙ sym (replay-more apply_record es p.0 tear s))

ran-again : (log : List ℕ) (s t : Contents) → (replay_from apply_record 0 log s).end ≡ ended → (replay_from apply_record 0 log s).state.last ≤ t.last
    → replay_from apply_record 0 log t ≡ record { state = t; end = ended }
unfolding replay_all
ran-again log s t e l =
    let es : List Record = (records_from 0 log).whole in
    let tear : Option ℕ = (records_from 0 log).tear in
    let n = ended-only apply_record tear (replay_all apply_record es none s).end (sym (ap (λ (x : Replayed Contents). x.end) (replay-tear apply_record es tear s)) ∙ e) in
    ap (λ (rs : List Record). replay_all apply_record rs tear t) (sym (append-nil es))
    ∙ (resumes es s).again t (subst (λ (x : Contents). x.last ≤ t.last) (state-is log s) l) (inl n.1) [] tear ∙ rw (n.1, n.0)

-- ---- areas

module _ (log area : List ℕ) (x : Replayed (List ℕ)) (k : Below 256 log) (l : Below 256 area) (e : replay_log log area ≡ accept x) where
  abbrev left : Contents
  left = (replay_from apply_record 0 log (contents_of area)).state

  ran : (is_register area ≡ true) × (in_bytes register apply_record (replay_from apply_record 0 log (contents_of area)) ≡ x)
  unfolding replayed
  ran = let p = passed (is_register area) not_register _ e in (p.0, accept-inj p.1)

  left-good : GoodContents left
  left-good = replay-good log (contents_of area) k (register-sound.good area l ran.0)

  left-bytes : bytes_of left ≡ x.state
  left-bytes = ap (λ (y : Replayed (List ℕ)). y.state) ran.1

  left_back : contents_of x.state ≡ left
  left_back = ap contents_of (sym left-bytes) ∙ register-sound.back left left-good

  -- this log is a part of another, from its start
  pub part-then-whole : (rest : List ℕ) → replay_log (log ++ rest) x.state ≡ replay_log (log ++ rest) area
  unfolding replayed
  part-then-whole rest =
      let v : is_register x.state ≡ true = subst (λ (a : List ℕ). is_register a ≡ true) left-bytes (register-sound.valid left left-good) in
      rw (v, ran.0, left_back, part-whole log rest (contents_of area))

  pub again-later : x.end ≡ ended → (now : List ℕ) → Below 256 now → is_register now ≡ true → (contents_of x.state).last ≤ (contents_of now).last
      → replay_log log now ≡ accept (record { state = now; end = ended })
  unfolding replayed
  again-later n now m v h =
      let o : left.last ≤ (contents_of now).last = subst (λ (c : Contents). c.last ≤ (contents_of now).last) left_back h in
      rw (v, ran-again log (contents_of area) (contents_of now) (ap (λ (y : Replayed (List ℕ)). y.end) ran.1 ∙ n) o)
      (ap (λ (a : List ℕ). accept (record { state = a; end = ended })) (register-sound.again now m v))
