-- Each call answers as its tests say: intake's numbers, then 23, then 26 for a change, then 20 to 22.
use Prim.Native.Nat.{ℕ, suc}
use mathlib.Core.Path.{◌≡◌, sym, subst}
use mathlib.Core.Bool.{true, false, not}
use mathlib.Core.Option.{Option, none, some}
use mathlib.Core.List.{List, [], ◌∷◌}
use lib.ListN.{length}
use lib.Dec.{ltb}
use Rattle.iscc.specs.Refusals.{already_out, all_out, not_out, not_register, numbers_spent}
use Rattle.iscc.specs.Answer.{accept, ◌>>=◌}
use Rattle.iscc.specs.Exactly.{Rule, once}
use Rattle.iscc.specs.RefusalOrder.{door_stages}
use Rattle.iscc.specs.Item.{item_bytes, item_of}
use Rattle.iscc.specs.Doors.{meaning_of_text, code_bytes}
use Rattle.iscc.proofs.Steps.{By, step-known, step-once, done, behind, made_of}
use Rattle.iscc.proofs.CallTests.{door-by}
use Rattle.loans.specs.Loan.{Loan, loan_of, find, is_some, is_out, without}
use Rattle.loans.specs.Map.{Change, issue_code, return_code, change_with, holder_of}
use Rattle.loans.specs.Calls.{issued, returned, borrower_of}
use Rattle.loans.specs.Register.{Register, changed_area, asked_area}
use Rattle.loans.specs.Order.{put}
use Rattle.loans.specs.Numbered.{Contents, taking_next}
use Rattle.loans.specs.Contents.{changed_loans, applied}
use Rattle.loans.specs.RefusalOrder.{change_stages, live_stages, change_call_stages, ask_stages}

pub code_by : (t : List ℕ) → By (door_stages t) (code_bytes t)
unfolding code_bytes
code_by t = made_of (door_stages t) (meaning_of_text t) (λ m. item_bytes (item_of m)) (door-by t)

-- ---- a change, and a question

pub change-by : {S : Type 0} (loans : S → List Loan) (put : Loan → S → S) (cleared : List ℕ → S → S) (ch : Change) (s : S)
    → By (change_stages ch (loans s)) (change_with loans put cleared ch s)
unfolding change_stages change_with
change-by loans put cleared (issue_code c b) s =
    step-once (not (is_out c (loans s))) already_out _ _ (step-once (ltb (length (loans s)) 256) all_out (accept (put (loan_of c b) s)) [] (done (put (loan_of c b) s)))
change-by loans put cleared (return_code c) s = step-once (is_out c (loans s)) not_out (accept (cleared c s)) [] (done (cleared c s))

-- of a list of loans, with a number at the end
pub loans-by : (ch : Change) (ls : List Loan) (n : ℕ)
    → By {A = Contents} (change_stages ch ls) (changed_loans ch ls >>= λ ks. accept (record { loans = ks; last = n }))
loans-by ch ls n = made_of (change_stages ch ls) (changed_loans ch ls) (λ ks. record { loans = ks; last = n }) (change-by (λ (ks : List Loan). ks) put without ch ls)

pub live-by : (ch : Change) (s : Contents) → By (live_stages ch s) (applied ch s)
unfolding live_stages taking_next
live-by ch s = step-once (ltb s.last 4294967295) numbers_spent _ (change_stages ch s.loans) (loans-by ch s.loans (suc s.last))

ask-by : (o : Option ℕ) → By (once not_out (is_some o) ∷ []) (holder_of o)
ask-by none = step-once false not_out (accept 0) [] (done 0)
ask-by (some b) = step-once true not_out (accept b) [] (done b)

-- ---- the calls

module _ {S : Type 0} (r : Register S) where
  module _ (own : Change → S → List (List Rule)) (own-by : (ch : Change) (s : S) → By (own ch s) (r.changes ch s)) where
    changed-by : (ch : Change) (area : List ℕ) → By (once not_register (r.valid area) ∷ own ch (r.contents area)) (changed_area r ch area)
    unfolding changed_area
    changed-by ch area =
        step-once (r.valid area) not_register (r.changes ch (r.contents area) >>= λ s. accept (r.bytes s)) (own ch (r.contents area))
        (made_of (own ch (r.contents area)) (r.changes ch (r.contents area)) r.bytes (own-by ch (r.contents area)))

    pub issue-by : (t : List ℕ) (b : ℕ) (area : List ℕ) → By (change_call_stages r own (λ c. issue_code c b) t area) (issued (changed_area r) t b area)
    unfolding change_call_stages issued
    issue-by t b area = behind (door_stages t) (code_bytes t) _ _ (code_by t) (λ c e. changed-by (issue_code c b) area)

    pub return-by : (t area : List ℕ) → By (change_call_stages r own return_code t area) (returned (changed_area r) t area)
    unfolding change_call_stages returned
    return-by t area = behind (door_stages t) (code_bytes t) _ _ (code_by t) (λ c e. changed-by (return_code c) area)

  pub question-by : (loans : S → List Loan) (t area : List ℕ)
      → ((c : List ℕ) → r.valid area ≡ true → r.asks c (r.contents area) ≡ holder_of (find c (loans (r.contents area))))
      → By (ask_stages r loans t area) (borrower_of (asked_area r) t area)
  unfolding ask_stages borrower_of asked_area
  question-by loans t area f =
      behind (door_stages t) (code_bytes t) _ _ (code_by t)
      (λ c e. step-known (r.valid area) not_register (r.asks c (r.contents area)) _
      (λ v. subst (By (once not_out (is_out c (loans (r.contents area))) ∷ [])) (sym (f c v)) (ask-by (find c (loans (r.contents area))))))
