-- What is promised of the pending issues log holds.
use Prim.Native.Nat.{ℕ, suc, ◌+◌}
use mathlib.Core.Path.{◌≡◌, sym}
use mathlib.Core.Bool.{Bool, true, false, cond, not, ◌&&◌}
use mathlib.Core.List.{List, [], ◌∷◌}
use native.Mathlib.Omega.{arith}
use lib.ListN.{length}
use lib.Dec.{eqb, leb}
use Rattle.iscc.specs.Refusals.{Refusal, area_too_short, not_register, not_record, number_gap}
use Rattle.iscc.specs.Answer.{Answer, accept, refuse, ◌>>◌, ◌otherwise◌}
use Rattle.iscc.specs.Exactly.{RuleOn, in_turn, once}
use Rattle.iscc.proofs.Answer.{never}
use Rattle.iscc.proofs.Steps.{By, step-once, done}
use Rattle.iscc.proofs.Exactly.{exactly}
use Rattle.loans.specs.Loan.{one_code}
use Rattle.loans.specs.Register.{Register}
use Rattle.loans.specs.Numbered.{Contents, nothing}
use Rattle.loans.specs.Contents.{changed_loans, empty_register, register}
use Rattle.loans.specs.Fields.{Field, field_bytes}
use Rattle.loans.specs.Log.{records_from}
use Rattle.loans.specs.Replay.{replay_from, in_bytes, replayed}
use Rattle.loans.specs.Writer.{appended}
use Rattle.loans.specs.Records.{code_of}
use Rattle.loans.specs.PendingLog.{NumberedChange, record_of, number_in, is_numbered, numbered_of, write_record, in_turn as turn, numbering, apply_with, apply_record}
use Rattle.loans.specs.LogOrder.{Meeting, record_rules}
use Rattle.loans.specs.LogPromises.{Replays, PendingLog}
use Rattle.loans.proofs.Contents.{empty-held}
use Rattle.loans.proofs.Numbers.{Within, test-numbers, loans-numbers}
use Rattle.loans.proofs.Cuts.{tears}
use Rattle.loans.proofs.Replay.{torn-off}
use Rattle.loans.proofs.Settled.{settled, rest-unread, stop-number}
use Rattle.loans.proofs.PendingLog.{register-told, write-appends}
use Rattle.loans.proofs.LogOrder.{write-by, record-by, stop-told, stop-by}
use Rattle.loans.proofs.ReadBack.{same-change, reads-back}
use Rattle.loans.proofs.LiveRun.{live-run}

-- ---- of any register and any records

module _ {S : Type 0} (r : Register S) (apply : Field → S → Answer S) (rules : List (RuleOn (Meeting S)))
    (one : (f : Field) (s : S) → By (in_turn rules (record { field = f; state = s })) (apply f s)) where
  replay-by : (log area : List ℕ) → By (once not_register (r.valid area) ∷ []) (replayed r apply log area)
  unfolding replayed
  replay-by log area = step-once (r.valid area) not_register (accept (in_bytes r apply (replay_from apply 0 log (r.contents area)))) [] (done _)

  pub replays : Replays r apply rules
  replays =
      record {
        tests = λ log area. exactly _ _ (replay-by log area);
        torn_off = torn-off apply r;
        stops = λ log s. exactly _ _ (stop-by apply rules one (records_from 0 log).whole (records_from 0 log).tear s);
        tells = λ log s. stop-told apply rules one (records_from 0 log).whole (records_from 0 log).tear s;
        rest_unread = rest-unread apply;
        settled = settled apply;
      }

-- ---- the numbers

write-numbers : (n : NumberedChange) (log : List ℕ) (position : ℕ) (q : Refusal) → write_record n log position ≡ refuse q → Within 1 24 q
unfolding write_record appended
write-numbers n log position q e =
    test-numbers 1 24 not_record (one_code (code_of n.change) && not (eqb n.number 0)) _ q (omega arith, omega arith)
    (λ p. test-numbers 1 24 area_too_short (leb (position + length (field_bytes (record_of n))) (length log)) _ p (omega arith, omega arith)
    (λ r d. absurd (never (sym d)))) e

pub record-numbers : (f : Field) (s : Contents) (q : Refusal) → apply_record f s ≡ refuse q → Within 20 25 q
unfolding apply_with turn
record-numbers f s q e = test-numbers 20 25 not_record (is_numbered f) _ q (omega arith, omega arith) (go (leb (number_in f) s.last)) e
  where
    n : NumberedChange
    n = numbered_of f

    next : Bool
    next = eqb (number_in f) (suc s.last)

    go : (b : Bool) (p : Refusal) → cond b (accept s) (next otherwise number_gap >> numbering changed_loans n s) ≡ refuse p → Within 20 25 p
    go true p d = absurd (never (sym d))
    go false p d =
        test-numbers 20 25 number_gap next _ p (omega arith, omega arith)
        (λ r c. let w = loans-numbers n.change s.loans n.number r c in (w.0, omega (arith, w.1))) d

-- ---- all of it

pub pending-log : PendingLog
pending-log =
    record {
      as_map = λ ws g. register-told ws empty_register nothing g empty-held;
      tears = tears;
      replays = replays register apply_record record_rules record-by;
      writer_tests = λ n log position. exactly _ _ (write-by n log position);
      appends = write-appends;
      reads_back = reads-back;
      same_change = same-change;
      live_run = live-run;
      write_number = write-numbers;
      stop_number = λ log area. stop-number apply_record (Within 20 25) record-numbers log (register.contents area);
    }
