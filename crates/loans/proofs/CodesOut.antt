-- The numbers in front of the places are true in every register, and the first is accepted issues minus accepted returns.
use Prim.Native.Nat.{ℕ, ◌+◌, ◌-◌, ◌*◌, ◌≤◌, ◌<◌}
use mathlib.Core.Path.{◌≡◌, refl, sym, ◌∙◌, ap}
use mathlib.Core.Bool.{true}
use mathlib.Core.List.{List, [], ◌∷◌}
use native.Mathlib.Omega.{arith}
use lib.ListN.{length, get_or, take, drop}
use lib.Seq.{take-take}
use Rattle.iscc.specs.Answer.{accept}
use Rattle.iscc.specs.Digits.{value, Below}
use Rattle.iscc.proofs.Answer.{accepted-value}
use Rattle.iscc.proofs.Parts.{drop-take}
use Rattle.loans.specs.Loan.{Loan, without}
use Rattle.loans.specs.Map.{Change}
use Rattle.loans.specs.Order.{put}
use Rattle.loans.specs.Counts.{counts}
use Rattle.loans.specs.Moves.{number_at}
use Rattle.loans.specs.Numbered.{Contents, nothing, loans_of}
use Rattle.loans.specs.Contents.{counts_part, places_part, contents_of, is_register, bytes_of, changed_loans, applied, register, empty_register}
use Rattle.loans.specs.Fields.{Field}
use Rattle.loans.specs.PendingLog.{numbered_of, apply_record}
use Rattle.loans.specs.Operations.{Operation, GoodOperation, GoodOperations}
use Rattle.loans.specs.Good.{GoodContents}
use Rattle.loans.specs.CodesOut.{perform_on, all_done, FirstNumber, takes_record}
use Rattle.loans.proofs.Loan.{length_without}
use Rattle.loans.proofs.Order.{put_same}
use Rattle.loans.proofs.OrderedPlaces.{loans-few}
use Rattle.loans.proofs.Counts.{number_is}
use Rattle.loans.proofs.Numbered.{taken}
use Rattle.loans.proofs.Contents.{register-known, register-sound, held-good, applied-good, empty-held}
use Rattle.loans.proofs.PendingLog.{skipped, next, took, record-good}
use Rattle.loans.proofs.Balance.{Balance, change-balance, stays-valid, all_valid, first-number}

-- ---- the numbers in front

number-part : (i n : ℕ) (area : List ℕ) → 2 * i + 2 ≤ n → number_at i (take n area) ≡ number_at i area
unfolding number_at
number-part i n area h = ap (value 8) (ap (take 2) (drop-take (2 * i) n area) ∙ take-take 2 (n - 2 * i) (drop (2 * i) area) (omega (arith, h)))

-- in the first sixteen bytes alone, and in the area
module _ (area : List ℕ) (e : is_register area ≡ true) (i : ℕ) (h : i < 8) where
  pub front-true : number_at i (counts_part area) ≡ get_or (counts (loans_of (contents_of area))) i 0
  front-true = ap (number_at i) (register-known area e).counted ∙ number_is (loans_of (contents_of area)) (loans-few (places_part area)) i h

  pub numbers-true : number_at i area ≡ get_or (counts (loans_of (contents_of area))) i 0
  numbers-true = sym (number-part i 16 area (omega (arith, h))) ∙ front-true

-- ---- over any calls and replays

list-balance : (ch : Change) (ls ls' : List Loan) → changed_loans ch ls ≡ accept ls' → Balance (length ls) (length ls') (ch ∷ [])
list-balance = change-balance (λ (ls : List Loan). ls) put without (λ l ls o. (put_same l ls o).sizes) length_without

applied-balance : (ch : Change) (s s' : Contents) → applied ch s ≡ accept s' → Balance (length s.loans) (length s'.loans) (ch ∷ [])
applied-balance ch s s' e = list-balance ch s.loans s'.loans (taken changed_loans ch s s' e).loans

-- what a change makes of the loans, an accepted record makes by the change that it stands for
pub record-takes : (Rel : List Loan → List Loan → List Change → Type 0) → ((ls : List Loan) → Rel ls ls [])
    → ((ch : Change) (ls ls' : List Loan) → changed_loans ch ls ≡ accept ls' → Rel ls ls' (ch ∷ []))
    → (f : Field) (s s' : Contents) → apply_record f s ≡ accept s' → Rel s.loans s'.loans (takes_record f s)
record-takes Rel none one f s s' e =
    let ch : Change = (numbered_of f).change in
    elim (took f s s' e).1 [
      | skipped w q ↦ rw (w, ← q) (none s.loans)
      | next w q ↦ rw w (accepted-value (changed_loans ch s.loans) _ (λ x. Rel s.loans x.loans (ch ∷ [])) (one ch s.loans) s' q)
    ]

record-balance : (f : Field) (s s' : Contents) → apply_record f s ≡ accept s' → Balance (length s.loans) (length s'.loans) (takes_record f s)
record-balance = record-takes (λ ls ls' chs. Balance (length ls) (length ls') chs) (λ ls. refl) list-balance

pub kept : (w : Operation) (area : List ℕ) → GoodOperation w → Below 256 area → is_register area ≡ true
    → is_register (perform_on register apply_record w area).state ≡ true
kept = stays-valid register GoodContents register-sound loans_of applied-good applied-balance apply_record takes_record record-good record-balance

empty-good : GoodContents empty-held.contents
empty-good = held-good empty-held.contents nothing empty-held.held

pub kept-by-all : (ws : List Operation) → GoodOperations ws → is_register (all_done register apply_record ws empty_register) ≡ true
kept-by-all =
    all_valid register GoodContents register-sound loans_of applied-good applied-balance apply_record takes_record record-good record-balance
    empty_register empty-held.contents (sym empty-held.bytes) empty-good

pub codes-out : FirstNumber register apply_record takes_record empty_register
codes-out =
    first-number register GoodContents register-sound loans_of applied-good applied-balance apply_record takes_record record-good record-balance
    empty_register empty-held.contents (sym empty-held.bytes) empty-good empty-held.held.list.same.sizes
    (λ s g. numbers-true (bytes_of s) (register-sound.valid s g) 0 (omega arith) ∙ ap (λ (x : Contents). length x.loans) (register-sound.back s g))
