-- Loans in rising order: one more, one fewer, and their places.
use Prim.Native.Nat.{ℕ, zero, suc, ◌-◌, ◌≤◌, ◌<◌}
use mathlib.Core.Path.{◌≡◌, refl, sym, ◌∙◌, ap}
use mathlib.Core.Bool.{Bool, true, false, cond, false≢true, true≢false}
use mathlib.Core.Option.{Option, none, some}
use mathlib.Core.List.{List, [], ◌∷◌}
use native.Mathlib.Nat.{not-suc-le-zero, le_of_suc-le-suc}
use native.Mathlib.Omega.{arith}
use lib.ListN.{length}
use Rattle.iscc.specs.Lists.{same_bytes}
use Rattle.iscc.proofs.Booleans.{both_true}
use Rattle.octets.specs.Order.{before}
use Rattle.octets.proofs.Total.{before-trans, before-other, Compared, lower, equal, higher, compared}
use Rattle.loans.specs.Loan.{Loan, find, without}
use Rattle.loans.specs.Place.{free, loans_in}
use Rattle.loans.specs.Order.{follows, in_order, placed, put}
use Rattle.loans.specs.Halving.{loan_in}
use Rattle.loans.specs.Good.{GoodLoan, GoodLoans, GoodPlaces, Distinct, AllBehind, Rising}
use Rattle.loans.proofs.Loan.{find-here, find-there}
use Rattle.loans.proofs.Places.{free-good, free-loans, free-length}
use Rattle.loans.proofs.Map.{Same, same_refl, same-swap, same-cons, same-trans}

-- ---- rising order

pub behind-trans : (c d : List ℕ) (ls : List Loan) → before c d ≡ true → AllBehind d ls → AllBehind c ls
behind-trans c d [] e a = tt
behind-trans c d (l ∷ ls) e a = (before-trans c d l.code e a.0, behind-trans c d ls e a.1)

pub find-behind : (c : List ℕ) (ls : List Loan) → AllBehind c ls → find c ls ≡ none
unfolding find
find-behind c [] a = refl
find-behind c (l ∷ ls) a = find-there c l ls (before-other c l.code a.0) ∙ find-behind c ls a.1

pub rising-distinct : (ls : List Loan) → Rising ls → Distinct ls
rising-distinct [] r = tt
rising-distinct (l ∷ ls) r = (find-behind l.code ls r.0, rising-distinct ls r.1)

behind-at : (c : List ℕ) (ls : List Loan) (j : ℕ) → AllBehind c ls → j < length ls → before c (loan_in ls j).code ≡ true
behind-at c [] j a h = absurd (not-suc-le-zero h)
behind-at c (l ∷ ls) zero a h = a.0
behind-at c (l ∷ ls) (suc j) a h = behind-at c ls j a.1 (le_of_suc-le-suc h)

pub rising-at : (ls : List Loan) (i j : ℕ) → Rising ls → i < j → j < length ls → before (loan_in ls i).code (loan_in ls j).code ≡ true
rising-at [] i j r h k = absurd (not-suc-le-zero k)
rising-at (l ∷ ls) i zero r h k = absurd (not-suc-le-zero h)
rising-at (l ∷ ls) zero (suc j) r h k = behind-at l.code ls j r.0 (le_of_suc-le-suc k)
rising-at (l ∷ ls) (suc i) (suc j) r h k = rising-at ls i j r.1 (le_of_suc-le-suc h) (le_of_suc-le-suc k)

-- ---- one loan more

module _ (l : Loan) where
  put-behind : (c : List ℕ) (ls : List Loan) → before c l.code ≡ true → AllBehind c ls → AllBehind c (put l ls)
  unfolding put
  put-behind c [] e a = (e, tt)
  put-behind c (k ∷ ks) e a = go (before l.code k.code) (put-behind c ks e a.1)
    where
      go : (b : Bool) → AllBehind c (put l ks) → AllBehind c (cond b (l ∷ k ∷ ks) (k ∷ put l ks))
      go true ih = (e, a)
      go false ih = (a.0, ih)

  pub put-good : (ls : List Loan) → GoodLoan l → GoodLoans ls → GoodLoans (put l ls)
  unfolding put
  put-good [] g gs = (g, tt)
  put-good (k ∷ ks) g gs = go (before l.code k.code) (put-good ks g gs.1)
    where
      go : (b : Bool) → GoodLoans (put l ks) → GoodLoans (cond b (l ∷ k ∷ ks) (k ∷ put l ks))
      go true ih = (g, gs)
      go false ih = (gs.0, ih)

  -- a code that is not out is not the first one, and not out among the others
  not_first : (k : Loan) (ks : List Loan) → find l.code (k ∷ ks) ≡ none → l.code ≡ k.code → ⊥
  not_first k ks o p = let z = sym (find-here l.code k ks p) ∙ o in let w : ◌≡◌ {A = ℕ} 0 1 = cc in omega arith

  not-others : (k : Loan) (ks : List Loan) → find l.code (k ∷ ks) ≡ none → find l.code ks ≡ none
  not-others k ks o = sym (find-there l.code k ks (not_first k ks o)) ∙ o

  pub put-rising : (ls : List Loan) → Rising ls → find l.code ls ≡ none → Rising (put l ls)
  unfolding put
  put-rising [] r o = (tt, tt)
  put-rising (k ∷ ks) r o = go (before l.code k.code) refl (compared l.code k.code) (put-rising ks r.1 (not-others k ks o))
    where
      go : (b : Bool) → before l.code k.code ≡ b → Compared l.code k.code → Rising (put l ks) → Rising (cond b (l ∷ k ∷ ks) (k ∷ put l ks))
      go true w c ih = ((w, behind-trans l.code k.code ks w r.0), r)
      go false w (lower q) ih = absurd (true≢false (sym q ∙ w))
      go false w (equal q) ih = absurd (not_first k ks o q)
      go false w (higher q) ih = (put-behind k.code ks q r.0, ih)

  pub put_same : (ls : List Loan) → find l.code ls ≡ none → Same (put l ls) (l ∷ ls)
  unfolding put
  put_same [] o = same_refl (l ∷ [])
  put_same (k ∷ ks) o = go (before l.code k.code) (put_same ks (not-others k ks o))
    where
      go : (b : Bool) → Same (put l ks) (l ∷ ks) → Same (cond b (l ∷ k ∷ ks) (k ∷ put l ks)) (l ∷ k ∷ ks)
      go true ih = same_refl (l ∷ k ∷ ks)
      go false ih =
          same-trans (k ∷ put l ks) (k ∷ l ∷ ks) (l ∷ k ∷ ks) (same-cons k (put l ks) (l ∷ ks) ih) (same-swap k l ks (λ e. not_first k ks o (sym e)))

-- ---- one loan fewer

module _ (c : List ℕ) where
  without-behind : (d : List ℕ) (ls : List Loan) → AllBehind d ls → AllBehind d (without c ls)
  unfolding without
  without-behind d [] a = tt
  without-behind d (l ∷ ls) a = go (same_bytes c l.code) (without-behind d ls a.1)
    where
      go : (b : Bool) → AllBehind d (without c ls) → AllBehind d (cond b ls (l ∷ without c ls))
      go true ih = a.1
      go false ih = (a.0, ih)

  pub without-rising : (ls : List Loan) → Rising ls → Rising (without c ls)
  unfolding without
  without-rising [] r = tt
  without-rising (l ∷ ls) r = go (same_bytes c l.code) (without-rising ls r.1)
    where
      go : (b : Bool) → Rising (without c ls) → Rising (cond b ls (l ∷ without c ls))
      go true ih = r.1
      go false ih = (without-behind l.code ls r.0, ih)

  pub without-good : (ls : List Loan) → GoodLoans ls → GoodLoans (without c ls)
  unfolding without
  without-good [] g = tt
  without-good (l ∷ ls) g = go (same_bytes c l.code) (without-good ls g.1)
    where
      go : (b : Bool) → GoodLoans (without c ls) → GoodLoans (cond b ls (l ∷ without c ls))
      go true ih = g.1
      go false ih = (g.0, ih)

  pub fewer : (ls : List Loan) → length (without c ls) ≤ length ls
  unfolding without
  fewer [] = omega arith
  fewer (l ∷ ls) = go (same_bytes c l.code) (fewer ls)
    where
      go : (b : Bool) → length (without c ls) ≤ length ls → length (cond b ls (l ∷ without c ls)) ≤ suc (length ls)
      go true ih = omega arith
      go false ih = omega arith

-- ---- loans in rising order and their places

pub placed-length : (n : ℕ) (ls : List Loan) → length ls ≤ n → length (placed n ls) ≡ n
unfolding placed
placed-length n [] h = free-length n
placed-length n (l ∷ ls) h = let r = placed-length (n - 1) ls (omega arith) in omega arith

pub placed-good : (n : ℕ) (ls : List Loan) → GoodLoans ls → GoodPlaces (placed n ls)
unfolding placed
placed-good n [] g = free-good n
placed-good n (l ∷ ls) g = (g.0, placed-good (n - 1) ls g.1)

pub placed-loans : (n : ℕ) (ls : List Loan) → loans_in (placed n ls) ≡ ls
unfolding placed loans_in
placed-loans n [] = free-loans n
placed-loans n (l ∷ ls) = ap (λ (ks : List Loan). l ∷ ks) (placed-loans (n - 1) ls)

free-order : (n : ℕ) → in_order (free n) ≡ true
unfolding free in_order follows
free-order zero = refl
free-order (suc zero) = refl
free-order (suc (suc n)) = free-order (suc n)

-- a used place before others in order, the first of which may stand behind it
free-behind : (l : Loan) (n : ℕ) → in_order (some l ∷ free n) ≡ true
unfolding free in_order follows
free-behind l zero = refl
free-behind l (suc n) = free-order (suc n)

pub placed-order : (n : ℕ) (ls : List Loan) → Rising ls → in_order (placed n ls) ≡ true
unfolding placed in_order follows
placed-order n [] r = free-order n
placed-order n (l ∷ []) r = free-behind l (n - 1)
placed-order n (l ∷ k ∷ ls) r = rw r.0.0 (placed-order (n - 1) (k ∷ ls) r.1)

-- what the order test says of places
pub record Ordered (ps : List (Option Loan)) : Type 0 where
  pub rising : Rising (loans_in ps)
  pub placed : placed (length ps) (loans_in ps) ≡ ps

-- behind a free place all are free
free-only : (ps : List (Option Loan)) → in_order (none ∷ ps) ≡ true → ps ≡ free (length ps)
unfolding in_order follows free
free-only [] e = refl
free-only (none ∷ ps) e = ap (λ (qs : List (Option Loan)). none ∷ qs) (free-only ps e)
free-only (some l ∷ ps) e = absurd (false≢true e)

from-free : (ps : List (Option Loan)) → in_order (none ∷ ps) ≡ true → none ∷ ps ≡ free (suc (length ps))
unfolding free
from-free ps e = ap (λ (qs : List (Option Loan)). none ∷ qs) (free-only ps e)

ordered-free : (n : ℕ) → Ordered (free n)
unfolding placed
ordered-free n =
    let z : loans_in (free n) ≡ [] = free-loans n in
    record { rising = rw z tt; placed = rw (z, free-length n) }

less_one : (n : ℕ) → suc n - 1 ≡ n
less_one n = omega arith

pub order-read : (ps : List (Option Loan)) → in_order ps ≡ true → Ordered ps
unfolding loans_in placed in_order follows free
order-read [] e = ordered-free 0
order-read (none ∷ ps) e = rw (from-free ps e) (ordered-free (suc (length ps)))
order-read (some l ∷ []) e = record { rising = (tt, tt); placed = refl }
order-read (some l ∷ none ∷ ps) e =
    let f : none ∷ ps ≡ free (suc (length ps)) = from-free ps e in
    let z : loans_in ps ≡ [] = ap loans_in f ∙ free-loans (suc (length ps)) in
    record {
      rising = rw z (tt, tt);
      placed = rw (z, less_one (suc (length ps))) (ap (λ (qs : List (Option Loan)). some l ∷ qs) (sym f));
    }
order-read (some l ∷ some k ∷ ps) e =
    let h = both_true (before l.code k.code) (in_order (some k ∷ ps)) e in
    let r = order-read (some k ∷ ps) h.1 in
    record {
      rising = ((h.0, behind-trans l.code k.code (loans_in ps) h.0 r.rising.0), r.rising);
      placed = rw (less_one (suc (length ps))) (ap (λ (qs : List (Option Loan)). some l ∷ qs) r.placed);
    }
