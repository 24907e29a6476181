-- The writer and replay answer as their tests say, and a replay that is stopped tells where that record starts.
use Rattle.iscc.specs.Refusals.{refusal_number}
use Prim.Native.Nat.{ℕ, zero, suc, ◌+◌, ◌<◌}
use mathlib.Core.Path.{◌≡◌, refl, sym, ap}
use mathlib.Core.Bool.{Bool, true, false, cond, not, ◌&&◌, ◌||◌}
use mathlib.Core.Option.{Option, none, some}
use mathlib.Core.List.{List, [], ◌∷◌}
use native.Mathlib.Nat.{not-suc-le-zero, le_of_suc-le-suc}
use native.Mathlib.Omega.{arith}
use lib.ListN.{length}
use lib.Dec.{eqb, leb, ltb}
use Rattle.iscc.specs.Refusals.{Refusal, area_too_short, already_out, all_out, not_out, not_record, number_gap}
use Rattle.iscc.specs.Answer.{Answer, accept, refuse, ◌>>◌, ◌otherwise◌}
use Rattle.iscc.specs.Exactly.{Rule, HoldAt, RuleOn, in_turn, once}
use Rattle.iscc.proofs.Answer.{never}
use Rattle.iscc.proofs.Steps.{By, refusing, holding, step-once, done, made_of}
use Rattle.iscc.proofs.Stages.{hold-all, hold-turn, broken-turn, hold-moved, broken-moved}
use Rattle.loans.specs.Loan.{Loan, loan_of, one_code, is_out, without}
use Rattle.loans.specs.Map.{Change, issue_code, return_code, change_with}
use Rattle.loans.specs.Order.{put}
use Rattle.loans.specs.Numbered.{Contents}
use Rattle.loans.specs.Contents.{changed_loans}
use Rattle.loans.specs.Fields.{Field, field_bytes}
use Rattle.loans.specs.Log.{Record}
use Rattle.loans.specs.Replay.{End, ended, torn, stopped, Replayed, end_of, go_on, replay_all}
use Rattle.loans.specs.Writer.{appended}
use Rattle.loans.specs.Records.{code_of}
use Rattle.loans.specs.PendingLog.{NumberedChange, record_of, number_in, is_numbered, numbered_of, write_record, in_turn as turn, numbering, apply_with, apply_record}
use Rattle.loans.specs.LogOrder.{write_stages, Meeting, not_yet_out, has_room, is_there, record_rules, record_test, record_stage, stop_of, StopTold}

-- ---- the writer

pub write-by : (n : NumberedChange) (log : List ℕ) (position : ℕ) → By (write_stages n log position) (write_record n log position)
unfolding write_stages write_record appended
write-by n log position =
    step-once (one_code (code_of n.change) && not (eqb n.number 0)) not_record (appended (field_bytes (record_of n)) log position) _
    (step-once (leb (position + length (field_bytes (record_of n))) (length log)) area_too_short _ [] (done _))

-- ---- one record: its rules in turn

change-turn : (ch : Change) (ls : List Loan)
    → By (once already_out (not_yet_out ch ls) ∷ once all_out (has_room ch ls) ∷ once not_out (is_there ch ls) ∷ []) (changed_loans ch ls)
unfolding change_with
change-turn (issue_code c b) ls =
    let x : Answer (List Loan) = accept (put (loan_of c b) ls) in
    step-once (not (is_out c ls)) already_out _ _ (step-once (ltb (length ls) 256) all_out x _ (step-once true not_out x [] (done _)))
change-turn (return_code c) ls =
    let x = step-once (is_out c ls) not_out (accept (without c ls)) [] (done _) in
    step-once true already_out _ _ (step-once true all_out _ _ x)

pub record-by : (f : Field) (s : Contents) → By (in_turn record_rules (record { field = f; state = s })) (apply_record f s)
unfolding apply_with turn
record-by f s = step-once (is_numbered f) not_record _ _ (go (leb (number_in f) s.last))
  where
    n : NumberedChange
    n = numbered_of f

    next : Bool
    next = eqb (number_in f) (suc s.last)

    go : (b : Bool)
        → By
        (once number_gap (b || next) ∷ once already_out (b || not_yet_out n.change s.loans) ∷ once all_out (b || has_room n.change s.loans) ∷ once not_out (b || is_there n.change s.loans) ∷ [])
        (cond b (accept s) (next otherwise number_gap >> numbering changed_loans n s))
    go true = step-once true number_gap _ _ (step-once true already_out _ _ (step-once true all_out _ _ (step-once true not_out _ [] (done s))))
    go false = step-once next number_gap _ _ (made_of _ (changed_loans n.change s.loans) _ (change-turn n.change s.loans))

-- ---- records from the left

not_stopped : (tear : Option ℕ) (q : Refusal) (offset : ℕ) → end_of tear ≡ stopped q offset → ⊥
not_stopped none q offset e = let z : ◌≡◌ {A = ℕ} 0 1 = cc in omega arith
not_stopped (some k) q offset e = let z : ◌≡◌ {A = ℕ} 0 1 = cc in omega arith

pub stop-inj : (q r : Refusal) (a b : ℕ) → stopped q a ≡ stopped r b → (q ≡ r) × (a ≡ b)
stop-inj q r a b e = (cc, cc)

module _ {S : Type 0} (apply : Field → S → Answer S) (rules : List (RuleOn (Meeting S)))
    (one : (f : Field) (s : S) → By (in_turn rules (record { field = f; state = s })) (apply f s)) where
  -- a replay's end: where it is not stopped all rules hold at every record; where it is, it tells the record
  record Stops (rs : List Record) (s : S) (x : Replayed S) : Type 0 where
    runs : stop_of x.end ≡ accept tt → (j : ℕ) → HoldAt (record_stage apply rules rs s) j
    told : (q : Refusal) (offset : ℕ) → x.end ≡ stopped q offset → StopTold apply rules rs s x.state q offset

  module _ (r : Record) (rs : List Record) (s : S) where
    abbrev stage : List Rule
    stage = record_stage apply rules (r ∷ rs) s

    abbrev met : Meeting S
    met = record { field = r.field; state = s }

    module _ (s' : S) (a : apply r.field s ≡ accept s') where
      moved : (j : ℕ) (p : Meeting S → Bool) → record_test apply (r ∷ rs) s p (suc j) ≡ record_test apply rs s' p j
      unfolding record_test
      moved j p = rw a

      hold-next : (k : ℕ) → ((j : ℕ) → j < k → HoldAt (record_stage apply rules rs s') j) → (j : ℕ) → j < suc k → HoldAt stage j
      unfolding record_test
      hold-next k h zero l = hold-turn (record_test apply (r ∷ rs) s) 0 met (λ p. refl) rules ((one r.field s).accepted s' a)
      hold-next k h (suc j) l = hold-moved _ (suc j) (record_test apply rs s') j (moved j) rules (h j (le_of_suc-le-suc l))

      told-next : (s'' : S) (q : Refusal) (offset : ℕ) → StopTold apply rules rs s' s'' q offset → StopTold apply rules (r ∷ rs) s s'' q offset
      unfolding replay_all
      told-next s'' q offset t =
          record {
            index = suc t.index;
            earlier = hold-next t.index t.earlier;
            broken = broken-moved _ (suc t.index) (record_test apply rs s') t.index (moved t.index) rules (refusal_number q) t.broken;
            told = t.told;
            stay = rw a t.stay;
          }

    stop-here : (p : Refusal) → apply r.field s ≡ refuse p → StopTold apply rules (r ∷ rs) s s p r.offset
    unfolding replay_all record_test
    stop-here p a =
        let y = (one r.field s).refused p a in
        record {
          index = 0;
          earlier = λ j l. absurd (not-suc-le-zero l);
          broken = broken-turn (record_test apply (r ∷ rs) s) 0 met (λ m. refl) rules (refusal_number p) y.0 y.1;
          told = refl;
          stay = refl;
        }

  stops : (rs : List Record) (tear : Option ℕ) (s : S) → Stops rs s (replay_all apply rs tear s)
  unfolding replay_all record_test
  stops [] tear s = record { runs = λ e j. hold-all _ j (λ p. refl) rules; told = λ q offset e. absurd (not_stopped tear q offset e) }
  stops (r ∷ rs) tear s = go (apply r.field s) refl (λ s'. stops rs tear s')
    where
      go : (x : Answer S) → apply r.field s ≡ x → ((s' : S) → Stops rs s' (replay_all apply rs tear s'))
          → Stops (r ∷ rs) s (go_on apply s r.offset x (λ s'. replay_all apply rs tear s'))
      go (accept s') a ih =
          record {
            runs = λ e j. hold-next r rs s s' a j (λ i l. (ih s').runs e i) j (omega arith);
            told = λ q offset e. told-next r rs s s' a _ q offset ((ih s').told q offset e);
          }
      go (refuse p) a ih =
          record {
            runs = λ e. absurd (never e);
            told = λ q offset e.
                let i = stop-inj p q r.offset offset e in
                rw (sym i.0, sym i.1) (stop-here r rs s p a);
          }

  pub stop-told : (rs : List Record) (tear : Option ℕ) (s : S) (q : Refusal) (offset : ℕ) → (replay_all apply rs tear s).end ≡ stopped q offset
      → StopTold apply rules rs s (replay_all apply rs tear s).state q offset
  stop-told rs tear s = (stops rs tear s).told

  pub stop-by : (rs : List Record) (tear : Option ℕ) (s : S) → By (record_stage apply rules rs s ∷ []) (stop_of (replay_all apply rs tear s).end)
  stop-by rs tear s = go (replay_all apply rs tear s).end refl
    where
      h : Stops rs s (replay_all apply rs tear s)
      h = stops rs tear s

      go : (x : End) → (replay_all apply rs tear s).end ≡ x → By (record_stage apply rules rs s ∷ []) (stop_of x)
      go ended w = holding _ [] (accept tt) (h.runs (ap stop_of w)) (done tt)
      go (torn offset) w = holding _ [] (accept tt) (h.runs (ap stop_of w)) (done tt)
      go (stopped q offset) w = let t = h.told q offset w in refusing q t.index _ [] (t.earlier, t.broken)
