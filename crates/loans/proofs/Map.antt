-- The same map, whatever the order of its loans; and one change of a register that is the plain map's.
use Prim.Native.Nat.{ℕ, suc, ◌<◌}
use mathlib.Core.Path.{◌≡◌, refl, sym, ◌∙◌, ap, subst}
use mathlib.Core.Bool.{Bool, true, false, cond, not, true≢false}
use mathlib.Core.Option.{Option, none, some}
use mathlib.Core.List.{List, ◌∷◌}
use native.Mathlib.Omega.{arith}
use lib.ListN.{length}
use lib.Dec.{ltb}
use borrow.Author.Tests.{ltb-true}
use Rattle.iscc.specs.Answer.{Answer, accept, refuse, ◌>>◌, ◌otherwise◌}
use Rattle.iscc.specs.Refusals.{already_out, all_out, not_out}
use Rattle.iscc.specs.Lists.{same_bytes}
use Rattle.loans.specs.Loan.{Loan, loan_of, find, is_some, is_out, without}
use Rattle.loans.specs.Map.{Change, issue_code, return_code, change_with, map_changed}
use Rattle.loans.specs.Good.{Distinct, GoodLoan, GoodChange}
use Rattle.loans.proofs.Loan.{Same?, same, other, same?, find-here, find-there, find-without-other, find-without-same, distinct_without, length_without}

-- the same map: every code has the same borrower or none, and they are as many
pub record Same (ls m : List Loan) : Type 0 where
  pub finds : (c : List ℕ) → find c ls ≡ find c m
  pub sizes : length ls ≡ length m

-- one loan before both
pub find-cons : (k : Loan) (ls m : List Loan) (c : List ℕ) → find c ls ≡ find c m → find c (k ∷ ls) ≡ find c (k ∷ m)
unfolding find
find-cons k ls m c e = ap (cond (same_bytes c k.code) (some k.borrower)) e

pub same_refl : (ls : List Loan) → Same ls ls
same_refl ls = record { finds = λ c. refl; sizes = refl }

-- ---- one loan more, wherever it is put; one fewer

module _ (l : Loan) (ls m : List Loan) (s : Same ls m) (o : find l.code m ≡ none) where
  pub same_more : (ls' : List Loan) → Same ls' (l ∷ ls) → Same ls' (l ∷ m)
  same_more ls' t = record { finds = λ c. t.finds c ∙ find-cons l ls m c (s.finds c); sizes = t.sizes ∙ ap suc s.sizes }

module _ (c : List ℕ) (ls m : List Loan) (s : Same ls m) (dl : Distinct ls) (dm : Distinct m) (o : is_out c m ≡ true) where
  pub same-fewer : Same (without c ls) (without c m)
  same-fewer =
      record {
        finds = λ d. go d (same? d c);
        sizes = let a = length_without c ls (ap is_some (s.finds c) ∙ o) in let b = length_without c m o in omega (arith, s.sizes);
      }
    where
      go : (d : List ℕ) → Same? d c → find d (without c ls) ≡ find d (without c m)
      go d (same p q) = rw p (find-without-same c ls dl ∙ sym (find-without-same c m dm))
      go d (other p q) = find-without-other c d ls p ∙ s.finds d ∙ sym (find-without-other c d m p)

-- two loans in the other order
pub same-swap : (k l : Loan) (ls : List Loan) → (k.code ≡ l.code → ⊥) → Same (k ∷ l ∷ ls) (l ∷ k ∷ ls)
same-swap k l ls f = record { finds = λ c. go c (same? c k.code) (same? c l.code); sizes = refl }
  where
    go : (c : List ℕ) → Same? c k.code → Same? c l.code → find c (k ∷ l ∷ ls) ≡ find c (l ∷ k ∷ ls)
    go c (same p q) (same r t) = absurd (f (sym p ∙ r))
    go c (same p q) (other r t) = find-here c k (l ∷ ls) p ∙ sym (find-there c l (k ∷ ls) r ∙ find-here c k ls p)
    go c (other p q) (same r t) = find-there c k (l ∷ ls) p ∙ find-here c l ls r ∙ sym (find-here c l (k ∷ ls) r)
    go c (other p q) (other r t) =
        find-there c k (l ∷ ls) p ∙ find-there c l ls r ∙ sym (find-there c l (k ∷ ls) r ∙ find-there c k ls p)

pub same-cons : (k : Loan) (ls m : List Loan) → Same ls m → Same (k ∷ ls) (k ∷ m)
same-cons k ls m s = record { finds = λ c. find-cons k ls m c (s.finds c); sizes = ap suc s.sizes }

pub same-trans : (a b c : List Loan) → Same a b → Same b c → Same a c
same-trans a b c s t = record { finds = λ d. s.finds d ∙ t.finds d; sizes = s.sizes ∙ t.sizes }

-- a code that is out, or not, by the test
pub not-out : (c : List ℕ) (m : List Loan) → is_out c m ≡ false → find c m ≡ none
not-out c m e = go (find c m) e
  where
    go : (o : Option ℕ) → is_some o ≡ false → o ≡ none
    go none e = refl
    go (some b) e = absurd (true≢false e)

-- ---- a register's answer and another's: both accept, and the states are related; or both refuse alike

abbrev pub Both : {S M : Type 0} → (S → M → Type 0) → Answer S → Answer M → Type 0
Both Rel (accept s) (accept m) = Rel s m
Both Rel (accept s) (refuse q) = ⊥
Both Rel (refuse p) (accept m) = ⊥
Both Rel (refuse p) (refuse q) = p ≡ q

-- a state with its loans stands for a map
pub record Held {S : Type 0} (loans : S → List Loan) (Good : S → Type 0) (s : S) (m : List Loan) : Type 0 where
  pub good : Good s
  pub same : Same (loans s) m
  pub distinct : Distinct m

-- Where a loan is put and one is taken out as the map does it, a change is the map's.
module _ {S : Type 0} (loans : S → List Loan) (put : Loan → S → S) (taken : List ℕ → S → S) (Good : S → Type 0)
    (apart : (s : S) → Good s → Distinct (loans s))
    (put-good : (l : Loan) (s : S) → Good s → GoodLoan l → length (loans s) < 256 → find l.code (loans s) ≡ none → Good (put l s) × Same (loans (put l s)) (l ∷ loans s))
    (taken-good : (c : List ℕ) (s : S) → Good s → Good (taken c s) × (loans (taken c s) ≡ without c (loans s))) where
  module _ (s : S) (m : List Loan) (h : Held loans Good s m) where
    out-agrees : (c : List ℕ) (b : ℕ) → GoodLoan (loan_of c b)
        → Both (Held loans Good) (change_with loans put taken (issue_code c b) s) (map_changed (issue_code c b) m)
    unfolding change_with
    out-agrees c b g = rw (ap is_some (h.same.finds c), h.same.sizes) (go (is_out c m) (ltb (length m) 256) refl refl)
      where
        l : Loan
        l = loan_of c b

        go : (o f : Bool) → is_out c m ≡ o → ltb (length m) 256 ≡ f
            → Both (Held loans Good) (not o otherwise already_out >> (f otherwise all_out >> accept (put l s))) (not o otherwise already_out >> (f otherwise all_out >> accept (l ∷ m)))
        go true f e w = refl
        go false false e w = refl
        go false true e w =
            let om : find c m ≡ none = not-out c m e in
            let z : length (loans s) ≡ length m = h.same.sizes in
            let k : length m < 256 = ltb-true (length m) 256 w in
            let p = put-good l s h.good g (omega arith) (h.same.finds c ∙ om) in
            record { good = p.0; same = same_more l (loans s) m h.same om (loans (put l s)) p.1; distinct = (om, h.distinct) }

    back-agrees : (c : List ℕ) → Both (Held loans Good) (change_with loans put taken (return_code c) s) (map_changed (return_code c) m)
    unfolding change_with
    back-agrees c = rw (ap is_some (h.same.finds c)) (go (is_out c m) refl)
      where
        go : (o : Bool) → is_out c m ≡ o → Both (Held loans Good) (o otherwise not_out >> accept (taken c s)) (o otherwise not_out >> accept (without c m))
        go false e = refl
        go true e =
            let p = taken-good c s h.good in
            record {
              good = p.0;
              same = subst (λ (ls : List Loan). Same ls (without c m)) (sym p.1) (same-fewer c (loans s) m h.same (apart s h.good) h.distinct e);
              distinct = distinct_without c m h.distinct;
            }

    pub agrees : (ch : Change) → GoodChange ch → Both (Held loans Good) (change_with loans put taken ch s) (map_changed ch m)
    agrees (issue_code c b) g = out-agrees c b g
    agrees (return_code c) g = back-agrees c
