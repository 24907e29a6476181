-- No line is cut.
use Rattle.iscc.specs.Refusals.{refusal_number}
use Prim.Native.Nat.{ℕ, ◌≤◌}
use mathlib.Core.List.{List, ◌++◌}
use native.Mathlib.Omega.{arith}
use lib.ListN.{length, length-append}
use Rattle.iscc.specs.Ascii.{ascii}
use Rattle.iscc.specs.Refusals.{Refusal}
use Rattle.loans.specs.Numbered.{Contents}
use Rattle.commands.specs.Commands.{Fault, long_line, no_command, unknown_command, issue_words, return_words, ask_words, sheet_words, bad_borrower}
use Rattle.answers.specs.Answers.{in_decimal}
use Rattle.answers.proofs.Lengths.{length-decimal}
use Rattle.answers.proofs.Others.{length-sentence}
use Rattle.hall.specs.Faults.{fault_sentence, fault_line}
use Rattle.hall.specs.Standby.{numbered, replayed_to}

pub length-fault : (f : Fault) → length (fault_line f) ≤ 200
unfolding fault_line fault_sentence
length-fault long_line = omega arith
length-fault no_command = omega arith
length-fault unknown_command = omega arith
length-fault issue_words = omega arith
length-fault return_words = omega arith
length-fault ask_words = omega arith
length-fault sheet_words = omega arith
length-fault bad_borrower = omega arith

pub length-replayed : (s : Contents) → length (replayed_to s) ≤ 66
unfolding replayed_to
length-replayed s = simp length-append (omega (arith, length-decimal s.last, length-decimal (length s.loans)))

pub length-torn : (s : Contents) (offset : ℕ) → length (replayed_to s ++ (ascii "; the log is torn at byte " ++ in_decimal offset)) ≤ 200
length-torn s offset = simp length-append (omega (arith, length-replayed s, length-decimal offset))

-- a refusal with its place
pub length-numbered : (q : Refusal) (w : List ℕ) → length w ≤ 78 → length (numbered q w) ≤ 167
length-numbered q w h = simp length-append (omega (arith, length-decimal (refusal_number q), length-sentence (refusal_number q)))

pub length_at : (offset : ℕ) → length (ascii " at byte " ++ in_decimal offset) ≤ 78
length_at offset = simp length-append (omega (arith, length-decimal offset))

pub length-for : (t : List ℕ) → length t ≤ 73 → length (ascii " for " ++ t) ≤ 78
length-for t h = simp length-append (omega arith)
