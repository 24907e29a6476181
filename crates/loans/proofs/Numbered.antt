-- A change that takes the next number: what it is where it is accepted, and as long as a number is left. So the map with its number
-- answers as the plain map until the numbers are spent.
use Prim.Native.Nat.{ℕ, suc, ◌+◌, ◌≤◌, ◌<◌}
use mathlib.Core.Path.{◌≡◌, refl, sym, ◌∙◌, ap, ap₂}
use mathlib.Core.List.{List, [], ◌∷◌}
use native.Mathlib.Omega.{arith}
use lib.ListN.{length}
use lib.Dec.{ltb}
use borrow.Author.Tests.{lt-ltb, ltb-true}
use Rattle.iscc.specs.Answer.{Answer, accept, refuse, ◌>>=◌}
use Rattle.iscc.specs.Refusals.{numbers_spent}
use Rattle.iscc.specs.Doors.{code_bytes}
use Rattle.iscc.proofs.Answer.{passed, answered, accept-inj}
use Rattle.loans.specs.Loan.{Loan}
use Rattle.loans.specs.Map.{Change, issue_code, return_code, map_changed, map_asked}
use Rattle.loans.specs.Calls.{Call, issue, take_back, ask, CallResult, result_of, issued, returned, borrower_of, call, answers}
use Rattle.loans.specs.Numbered.{Contents, taking_next, map_numbered, map_numbered_asked}

module _ (change : Change → List Loan → Answer (List Loan)) (ch : Change) (s : Contents) where
  -- where it is accepted: a number was left, and was taken
  pub record Taken (s' : Contents) : Type 0 where
    pub left : s.last < 4294967295
    pub loans : change ch s.loans ≡ accept s'.loans
    pub last : s'.last ≡ suc s.last

  pub taken : (s' : Contents) → taking_next change ch s ≡ accept s' → Taken s'
  unfolding taking_next
  taken s' e =
      let p = passed (ltb s.last 4294967295) numbers_spent _ e in
      let a = answered (change ch s.loans) (λ ls. accept (record { loans = ls; last = suc s.last })) p.1 in
      record {
        left = ltb-true s.last 4294967295 p.0;
        loans = a.1 ∙ ap (λ (x : Contents). accept x.loans) (accept-inj a.2);
        last = sym (ap (λ (x : Contents). x.last) (accept-inj a.2));
      }

  pub number-left : s.last < 4294967295 → taking_next change ch s ≡ (change ch s.loans >>= λ ls. accept (record { loans = ls; last = suc s.last }))
  unfolding taking_next
  number-left h = rw (lt-ltb s.last 4294967295 h)

-- ---- the two maps: the same answer and the same loans, and a number more at most

record OneMore (m : Contents) (x : CallResult Contents) (y : CallResult (List Loan)) : Type 0 where
  answer : x.answer ≡ y.answer
  loans : x.state.loans ≡ y.state
  last : x.state.last ≤ suc m.last

module _ (m : Contents) (h : m.last < 4294967295) where
  change-more : (x : Answer (List Loan)) → OneMore m (result_of m (x >>= λ ls. accept (record { loans = ls; last = suc m.last }))) (result_of m.loans x)
  change-more (accept ls) = record { answer = refl; loans = refl; last = omega arith }
  change-more (refuse q) = record { answer = refl; loans = refl; last = omega arith }

  text-more : (of : List ℕ → Change) (x : Answer (List ℕ))
      → OneMore m (result_of m (x >>= λ c. map_numbered (of c) m)) (result_of m.loans (x >>= λ c. map_changed (of c) m.loans))
  text-more of (accept c) = rw (number-left map_changed (of c) m h) (change-more (map_changed (of c) m.loans))
  text-more of (refuse q) = record { answer = refl; loans = refl; last = omega arith }

  call-more : (k : Call) → OneMore m (call map_numbered map_numbered_asked k m) (call map_changed map_asked k m.loans)
  unfolding issued returned borrower_of
  call-more (issue t b) = text-more (λ c. issue_code c b) (code_bytes t)
  call-more (take_back t) = text-more (λ c. return_code c) (code_bytes t)
  call-more (ask t) = record { answer = refl; loans = refl; last = omega arith }

pub plain-answers : (ks : List Call) (m : Contents) → m.last + length ks ≤ 4294967295
    → answers map_numbered map_numbered_asked ks m ≡ answers map_changed map_asked ks m.loans
plain-answers [] m h = refl
plain-answers (k ∷ ks) m h =
    let o : OneMore m (call map_numbered map_numbered_asked k m) (call map_changed map_asked k m.loans) = call-more m (omega arith) k in
    let l : (call map_numbered map_numbered_asked k m).state.last ≤ suc m.last = o.last in
    ap₂ (λ (x : Answer ℕ) (xs : List (Answer ℕ)). x ∷ xs) o.answer
    (plain-answers ks (call map_numbered map_numbered_asked k m).state (omega arith) ∙ ap (answers map_changed map_asked ks) o.loans)
