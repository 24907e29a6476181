-- "May this replica be promoted?": the log is replayed from empty, and the register that this gives is held against the replica.
use Rattle.std.specs.Prelude.{ℕ, Bool, true, false, cond, List, [], ◌∷◌, ◌++◌, length, drop, eqb, leb}
use Rattle.std.proofs.Math.Option.{Option, none, some}
use Rattle.iscc.specs.Refusals.{Refusal, area_too_short, not_register, last_numbers_differ, log_torn, loans_differ}
use Rattle.iscc.specs.Answer.{Answer, accept, refuse, ◌>>◌, ◌otherwise◌}
use Rattle.iscc.specs.Lists.{same_bytes}
use Rattle.octets.specs.Order.{before}
use Rattle.loans.specs.Loan.{Loan}
use Rattle.loans.specs.Numbered.{Contents, nothing}
use Rattle.loans.specs.Contents.{is_register, contents_of, bytes_of}
use Rattle.loans.specs.Replay.{End, ended, torn, stopped, Replayed, replay_from}
use Rattle.loans.specs.PendingLog.{apply_record}

-- yes; or a refusal, with an offset in the log or with a code where one is told
pub data Verdict : Type 0 where
  granted : Verdict
  refused : (refusal : Refusal) → Verdict
  refused_at : (refusal : Refusal) (offset : ℕ) → Verdict
  refused_for : (refusal : Refusal) (code : List ℕ) → Verdict

-- ---- two registers

-- Loans in rising order of their codes, gone through side by side: the first code that is not the same in both, or has another borrower.
-- It is "the least code, in byte order, that is held by one register only or with another borrower" (PromotionPromises.antt).
unfoldable pub difference : List Loan → List Loan → Option (List ℕ)
difference [] [] = none
difference [] (k ∷ ks) = some k.code
difference (l ∷ ls) [] = some l.code
difference (l ∷ ls) (k ∷ ks) =
    cond (same_bytes l.code k.code)
    (cond (eqb l.borrower k.borrower) (difference ls ks) (some l.code))
    (cond (before l.code k.code) (some l.code) (some k.code))

-- 37 and that code; "27 if the last numbers differ"; else yes
abbrev pub by_difference : Option (List ℕ) → Bool → Verdict
by_difference (some c) same_last = refused_for loans_differ c
by_difference none true = granted
by_difference none false = refused last_numbers_differ

unfoldable pub compared : Contents → Contents → Verdict
compared made held = by_difference (difference made.loans held.loans) (eqb made.last held.last)

-- ---- the checker

-- "replay from empty"
abbrev pub from_empty : List ℕ → Replayed Contents
from_empty log = replay_from apply_record 0 log nothing

-- "23 if the replica is not a register; 15 if the work area is shorter than a register"; then the replay
unfoldable pub trial_replay : List ℕ → List ℕ → List ℕ → Answer (Replayed Contents)
trial_replay log replica work = do
  is_register replica otherwise not_register
  leb 12308 (length work) otherwise area_too_short
  accept (from_empty log)

-- "the number of the record that stops the replay", and "where that record starts"; "36 if the log is torn", and "where the torn record
-- starts"
abbrev pub by_end : End → Verdict → Verdict
by_end ended v = v
by_end (torn offset) v = refused_at log_torn offset
by_end (stopped q offset) v = refused_at q offset

abbrev pub verdict_of : Contents → Answer (Replayed Contents) → Verdict
verdict_of held (accept x) = by_end x.end (compared x.state held)
verdict_of held (refuse q) = refused q

unfoldable pub promotion : List ℕ → List ℕ → List ℕ → Verdict
promotion log replica work = verdict_of (contents_of replica) (trial_replay log replica work)

-- "The work area keeps its bytes on 23 and 15. After every other answer its first 12,308 bytes are the register that the replay left, and
-- the rest is as it was."
abbrev pub work_left : List ℕ → Answer (Replayed Contents) → List ℕ
work_left work (accept x) = bytes_of x.state ++ drop 12308 work
work_left work (refuse q) = work

unfoldable pub work_after : List ℕ → List ℕ → List ℕ → List ℕ
work_after log replica work = work_left work (trial_replay log replica work)
