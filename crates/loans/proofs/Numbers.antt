-- The numbers of the calls: those of a text are 1 to 19, 23 is given where the area is no register, the register's own are 20 to 22, and
-- 26 before them.
use Rattle.iscc.specs.Refusals.{refusal_number}
use Prim.Native.Nat.{ℕ, suc, ◌≤◌}
use mathlib.Core.Path.{◌≡◌, refl, sym, ◌∙◌, ap, subst}
use mathlib.Core.Logic.{inl, inr}
use mathlib.Core.Bool.{Bool, true, false, not}
use mathlib.Core.Option.{Option, none, some}
use mathlib.Core.List.{List}
use native.Mathlib.Omega.{arith}
use lib.ListN.{length}
use lib.Dec.{ltb}
use Rattle.iscc.specs.Refusals.{Refusal, already_out, all_out, not_out, not_register, numbers_spent}
use Rattle.iscc.specs.Answer.{Answer, accept, refuse, ◌>>=◌, ◌>>◌, ◌otherwise◌}
use Rattle.iscc.specs.Doors.{code_bytes, read_code}
use Rattle.iscc.proofs.Answer.{refuse-inj, bind-refused, never}
use Rattle.iscc.proofs.Numbers.{code-numbered, number-table}
use Rattle.loans.specs.Loan.{Loan, is_out, without}
use Rattle.loans.specs.Map.{Change, issue_code, return_code, change_with, holder_of}
use Rattle.loans.specs.Calls.{Call, issue, take_back, ask, result_of, issued, returned, borrower_of}
use Rattle.loans.specs.Order.{put}
use Rattle.loans.specs.Numbered.{Contents, taking_next}
use Rattle.loans.specs.Contents.{changed_loans, applied}
use Rattle.loans.specs.Register.{Register, changed_area, asked_area, call_area}
use Rattle.loans.proofs.Loan.{read_is}

-- a refusal has a number from n to m
abbrev pub Within : ℕ → ℕ → Refusal → Type 0
Within n m q = (n ≤ (refusal_number q)) × ((refusal_number q) ≤ m)

within-as : {A : Type 0} (n m : ℕ) (p q : Refusal) → Within n m p → ◌≡◌ {A = Answer A} (refuse p) (refuse q) → Within n m q
within-as n m p q w e = subst (Within n m) (refuse-inj e) w

-- a test's number, and those of the rest
pub test-numbers : {A : Type 0} (n m : ℕ) (k : Refusal) (b : Bool) (x : Answer A) (q : Refusal) → Within n m k → ((p : Refusal) → x ≡ refuse p → Within n m p)
    → (b otherwise k >> x) ≡ refuse q → Within n m q
test-numbers n m k true x q w f e = f q e
test-numbers n m k false x q w f e = within-as n m k q w e

pub text-numbers : (t : List ℕ) (q : Refusal) → code_bytes t ≡ refuse q → Within 1 19 q
text-numbers t q e = number-table (read_code t 42) (code-numbered t 42) q (read_is t ∙ e)

-- ---- the register's own

pub change-numbers : {S : Type 0} (loans : S → List Loan) (put : Loan → S → S) (cleared : List ℕ → S → S) (ch : Change) (s : S) (q : Refusal)
    → change_with loans put cleared ch s ≡ refuse q → Within 20 22 q
unfolding change_with
change-numbers loans put cleared (issue_code c b) s q e =
    test-numbers 20 22 already_out (not (is_out c (loans s))) _ q (omega arith, omega arith)
    (λ p. test-numbers 20 22 all_out (ltb (length (loans s)) 256) _ p (omega arith, omega arith) (λ r d. absurd (never (sym d)))) e
change-numbers loans put cleared (return_code c) s q e =
    test-numbers 20 22 not_out (is_out c (loans s)) _ q (omega arith, omega arith) (λ p d. absurd (never (sym d))) e

-- with a number at the end
pub loans-numbers : (ch : Change) (ls : List Loan) (n : ℕ) (q : Refusal)
    → ◌≡◌ {A = Answer Contents} (changed_loans ch ls >>= λ ks. accept (record { loans = ks; last = n })) (refuse q) → Within 20 22 q
loans-numbers ch ls n q e =
    elim (bind-refused (changed_loans ch ls) (λ ks. accept (record { loans = ks; last = n })) e) [
      | inl x ↦ change-numbers (λ (ks : List Loan). ks) put without ch ls q x
      | inr x ↦ absurd (never (sym x.2))
    ]

-- of a change that takes a number: 20 to 22, or 26
abbrev pub Own : Refusal → Type 0
Own q = Within 20 26 q × ((refusal_number q) ≡ 23 → ⊥)

pub own-numbers : (ch : Change) (s : Contents) (q : Refusal) → applied ch s ≡ refuse q → Own q
unfolding taking_next
own-numbers ch s q e = go (ltb s.last 4294967295) e
  where
    go : (b : Bool) → ◌≡◌ {A = Answer Contents} (b otherwise numbers_spent >> (changed_loans ch s.loans >>= λ ls. accept (record { loans = ls; last = suc s.last }))) (refuse q) → Own q
    go true d = let w = loans-numbers ch s.loans (suc s.last) q d in ((w.0, omega (arith, w.1)), λ n. omega (arith, n, w.1))
    go false d = let n : 26 ≡ (refusal_number q) = ap refusal_number (refuse-inj d) in ((omega arith, omega arith), λ m. omega (arith, m, n))

pub answer-numbers : (o : Option ℕ) (q : Refusal) → holder_of o ≡ refuse q → Within 20 22 q
answer-numbers none q e = within-as 20 22 not_out q (omega arith, omega arith) e
answer-numbers (some b) q e = absurd (never (sym e))

-- ---- the calls

module _ {S : Type 0} (r : Register S) (own : (ch : Change) (s : S) (q : Refusal) → r.changes ch s ≡ refuse q → Own q)
    (asks : (c : List ℕ) (s : S) (q : Refusal) → r.asks c s ≡ refuse q → Within 20 22 q) (area : List ℕ) where
  own-bytes : (ch : Change) (q : Refusal) → (r.changes ch (r.contents area) >>= λ s. accept (r.bytes s)) ≡ refuse q → Own q
  own-bytes ch q e =
      elim (bind-refused (r.changes ch (r.contents area)) (λ s. accept (r.bytes s)) e) [
        | inl x ↦ own ch (r.contents area) q x
        | inr x ↦ absurd (never (sym x.2))
      ]

  changed-numbers : (ch : Change) (q : Refusal) → changed_area r ch area ≡ refuse q → Within 20 26 q
  unfolding changed_area
  changed-numbers ch q e = test-numbers 20 26 not_register (r.valid area) _ q (omega arith, omega arith) (λ p d. (own-bytes ch p d).0) e

  asked-numbers : (c : List ℕ) (q : Refusal) → asked_area r c area ≡ refuse q → Within 20 23 q
  unfolding asked_area
  asked-numbers c q e =
      test-numbers 20 23 not_register (r.valid area) _ q (omega arith, omega arith)
      (λ p d. let w = asks c (r.contents area) p d in (w.0, omega (arith, w.1))) e

  by-text : {A : Type 0} (most : ℕ) → 19 ≤ most → (t : List ℕ) (f : List ℕ → Answer A) (q : Refusal) → ((c : List ℕ) → f c ≡ refuse q → Within 20 most q)
      → (code_bytes t >>= f) ≡ refuse q → Within 1 most q
  by-text most h t f q n e =
      elim (bind-refused (code_bytes t) f e) [
        | inl x ↦ let w = text-numbers t q x in (w.0, omega (arith, h, w.1))
        | inr x ↦ let w = n x.0 x.2 in (omega (arith, w.0), w.1)
      ]

  pub issue-numbers : (t : List ℕ) (b : ℕ) (q : Refusal) → issued (changed_area r) t b area ≡ refuse q → Within 1 26 q
  unfolding issued
  issue-numbers t b q e = by-text 26 (omega arith) t _ q (λ c. changed-numbers (issue_code c b) q) e

  pub return-numbers : (t : List ℕ) (q : Refusal) → returned (changed_area r) t area ≡ refuse q → Within 1 26 q
  unfolding returned
  return-numbers t q e = by-text 26 (omega arith) t _ q (λ c. changed-numbers (return_code c) q) e

  pub ask-numbers : (t : List ℕ) (q : Refusal) → borrower_of (asked_area r) t area ≡ refuse q → Within 1 23 q
  unfolding borrower_of
  ask-numbers t q e = by-text 23 (omega arith) t _ q (λ c. asked-numbers c q) e

  -- ---- where the area is a register none of them is 23

  module _ (v : r.valid area ≡ true) where
    changed-not-23 : (ch : Change) → changed_area r ch area ≡ refuse not_register → ⊥
    unfolding changed_area
    changed-not-23 ch e = (own-bytes ch not_register (rw v at e)).1 refl

    asked-not-23 : (c : List ℕ) → asked_area r c area ≡ refuse not_register → ⊥
    unfolding asked_area
    asked-not-23 c e = omega (arith, (asks c (r.contents area) not_register (rw v at e)).1)

    text-not-23 : {A : Type 0} (t : List ℕ) (f : List ℕ → Answer A) → ((c : List ℕ) → f c ≡ refuse not_register → ⊥) → (code_bytes t >>= f) ≡ refuse not_register → ⊥
    text-not-23 t f n e = elim (bind-refused (code_bytes t) f e) [ inl x ↦ omega (arith, (text-numbers t not_register x).1) | inr x ↦ n x.0 x.2 ]

    of-result : (x : Answer (List ℕ)) → (result_of area x).answer ≡ refuse not_register → x ≡ refuse not_register
    of-result (accept a) e = absurd (never (sym e))
    of-result (refuse q) e = ap refuse (refuse-inj e)

    pub never-23 : (k : Call) → (call_area r k area).answer ≡ refuse not_register → ⊥
    unfolding issued returned borrower_of
    never-23 (issue t b) e = text-not-23 t _ (λ c. changed-not-23 (issue_code c b)) (of-result (issued (changed_area r) t b area) e)
    never-23 (take_back t) e = text-not-23 t _ (λ c. changed-not-23 (return_code c)) (of-result (returned (changed_area r) t area) e)
    never-23 (ask t) e = text-not-23 t _ asked-not-23 e
