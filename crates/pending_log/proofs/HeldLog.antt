-- What a writer that holds its log is, once an append has answered.
use Prim.Native.Nat.{ℕ}
use mathlib.Core.Path.{◌≡◌, ◌∙◌, sym, ap, ap₂}
use mathlib.Core.List.{List}
use native.Mathlib.Omega.{arith}
use denote.Ref.{at_last}
use Rattle.std.specs.Prelude.{Result, Ok, Err}
use Rattle.iscc.specs.Answer.{Answer, accept, refuse, number_of}
use Rattle.iscc.specs.Refusals.{Refusal}
use Rattle.iscc.specs.Representation.{number_in}
use Rattle.loans.specs.Writer.{Written, written_after}
use Rattle.loans.specs.PendingLog.{NumberedChange}
use Rattle.pending_log.specs.declared.writer.LogWriter.{LogWriter}
use Rattle.pending_log.specs.Representation.{appended_as}
use Rattle.pending_log.specs.Held.{written, writer_after}

module _ (w : LogWriter) (r : Result ℕ Refusal) (log : List ℕ) where
  -- the writer with another log and position
  abbrev with : List ℕ → ℕ → LogWriter
  with l k = record { log = at_last w.log l; position = k }

  -- the number, and the writer: at the position that was told, or where it was
  abbrev Tells : Answer Written → Type 0
  Tells x =
      (number_in r ≡ number_of x)
      × (((p : ℕ) → r ≡ Ok p → with log p ≡ with (written_after w.log.now w.position x).log (written_after w.log.now w.position x).position)
      × ((q : Refusal) → r ≡ Err q → with log w.position ≡ with (written_after w.log.now w.position x).log (written_after w.log.now w.position x).position))

  told : (x : Answer Written) → r ≡ appended_as x → log ≡ (written_after w.log.now w.position x).log → Tells x
  told (accept v) e l =
      (ap number_in e, (λ p f. let k : p ≡ v.position = cc in ap₂ with l k, λ q f. let z : ◌≡◌ {A = ℕ} 0 1 = cc in absurd (omega arith)))
  told (refuse s) e l =
      (ap number_in e, (λ p f. let z : ◌≡◌ {A = ℕ} 0 1 = cc in absurd (omega arith), λ q f. ap (λ (a : List ℕ). with a w.position) l))

pub writer-told : (w : LogWriter) (n : NumberedChange) (r : Result ℕ Refusal) (log : List ℕ)
    → r ≡ appended_as (written w n) → log ≡ (written_after w.log.now w.position (written w n)).log
    → (number_in r ≡ number_of (written w n))
    × (((p : ℕ) → r ≡ Ok p → ◌≡◌ {A = LogWriter} (record { log = at_last w.log log; position = p }) (writer_after w n))
    × ((q : Refusal) → r ≡ Err q → ◌≡◌ {A = LogWriter} (record { log = at_last w.log log; position = w.position }) (writer_after w n)))
writer-told w n r log e l = told w r log (written w n) e l
