-- Codes, and lists of loans by code.
use Prim.Native.Nat.{ℕ, suc}
use mathlib.Core.Path.{◌≡◌, refl, sym, ◌∙◌, ap, subst}
use mathlib.Core.Bool.{Bool, true, false, false≢true, true≢false}
use mathlib.Core.Option.{none, some}
use mathlib.Core.List.{List, [], ◌∷◌}
use native.Mathlib.Omega.{arith}
use lib.ListN.{length}
use Rattle.iscc.specs.Answer.{Answer, accept, refuse, is_accepted}
use Rattle.iscc.specs.Digits.{Below}
use Rattle.iscc.specs.Item.{Item, item_bytes, item_of, read_one, meaning_of}
use Rattle.iscc.specs.Lists.{same_bytes}
use Rattle.iscc.specs.Doors.{meaning_of_text, code_bytes, read_code, text_of}
use Rattle.iscc.proofs.Answer.{answered, accept-inj}
use Rattle.iscc.proofs.Demand3.{same_bytes-refl, same_bytes-eq}
use Rattle.iscc.proofs.Item.{PermittedItem, length-item, item-most, item-below}
use Rattle.iscc.proofs.Split.{read_one-is, one-read}
use Rattle.iscc.proofs.Meaning.{item-permitted, meant-item, item_back}
use Rattle.iscc.proofs.Doors.{meant, back}
use Rattle.loans.specs.Loan.{Loan, one_code, find, is_some, is_out, without}
use Rattle.loans.specs.Good.{IsCode, Distinct}

-- ---- codes

is-item : (i : Item) → PermittedItem i → IsCode (item_bytes i)
unfolding one_code
is-item i p =
    let l = length-item i p in
    record { one = ap is_accepted (read_one-is i p); bytes = item-below i p; some = omega arith; most = item-most i p }

pub accepted-by : {A : Type 0} (r : Answer A) → is_accepted r ≡ true → (a : A) × (r ≡ accept a)
accepted-by (accept a) e = (a, refl)
accepted-by (refuse n) e = absurd (false≢true e)

pub is_code : (c : List ℕ) → Below 256 c → one_code c ≡ true → IsCode c
unfolding one_code
is_code c k e =
    let r = accepted-by (read_one c) e in
    let o = one-read c r.0 k r.1 in
    subst IsCode o.1 (is-item r.0 o.0)

-- what a text that intake accepts holds is a code
pub code_in : (t c : List ℕ) → code_bytes t ≡ accept c → IsCode c
unfolding code_bytes
code_in t c e =
    let r = answered (meaning_of_text t) (λ m. accept (item_bytes (item_of m))) e in
    subst IsCode (accept-inj r.2) (is-item (item_of r.0) (item-permitted r.0 (meant t r.0 r.1)))

-- and every code is that of a text: the one that its meaning is written as
pub code-text : (c : List ℕ) → Below 256 c → one_code c ≡ true → (t : List ℕ) × (code_bytes t ≡ accept c)
unfolding one_code code_bytes
code-text c k e =
    let r = accepted-by (read_one c) e in
    let o = one-read c r.0 k r.1 in
    let w = back (meaning_of r.0) (meant-item r.0 o.0) in
    (text_of (meaning_of r.0), rw w (ap accept (ap item_bytes (item_back r.0 o.0) ∙ o.1)))

-- the code of a text needs no more room than 42 bytes
pub read_is : (t : List ℕ) → read_code t 42 ≡ code_bytes t
unfolding read_code
read_is t = refl

-- ---- equality of codes

pub same_false : (c d : List ℕ) → same_bytes c d ≡ false → c ≡ d → ⊥
same_false c d e p = true≢false (sym (same_bytes-refl c) ∙ ap (same_bytes c) p ∙ e)

pub differ : (c d : List ℕ) → (c ≡ d → ⊥) → same_bytes c d ≡ false
differ c d f = go (same_bytes c d) refl
  where
    go : (b : Bool) → same_bytes c d ≡ b → same_bytes c d ≡ false
    go true e = absurd (f (same_bytes-eq c d e))
    go false e = e

-- a case split on two codes, which keeps the test's value
pub data Same? (c d : List ℕ) : Type 0 where
  same : c ≡ d → same_bytes c d ≡ true → Same? c d
  other : (c ≡ d → ⊥) → same_bytes c d ≡ false → Same? c d

pub same? : (c d : List ℕ) → Same? c d
same? c d = go (same_bytes c d) refl
  where
    go : (b : Bool) → same_bytes c d ≡ b → Same? c d
    go true e = same (same_bytes-eq c d e) e
    go false e = other (same_false c d e) e

-- ---- find and without

pub find-here : (c : List ℕ) (l : Loan) (ls : List Loan) → c ≡ l.code → find c (l ∷ ls) ≡ some l.borrower
unfolding find
find-here c l ls e = rw (e, same_bytes-refl)

pub find-there : (c : List ℕ) (l : Loan) (ls : List Loan) → (c ≡ l.code → ⊥) → find c (l ∷ ls) ≡ find c ls
unfolding find
find-there c l ls f = rw (differ c l.code f)

pub without-here : (c : List ℕ) (l : Loan) (ls : List Loan) → c ≡ l.code → without c (l ∷ ls) ≡ ls
unfolding without
without-here c l ls e = rw (e, same_bytes-refl)

pub without-there : (c : List ℕ) (l : Loan) (ls : List Loan) → (c ≡ l.code → ⊥) → without c (l ∷ ls) ≡ l ∷ without c ls
unfolding without
without-there c l ls f = rw (differ c l.code f)

-- another code's loan stays
pub find-without-other : (c d : List ℕ) (ls : List Loan) → (d ≡ c → ⊥) → find d (without c ls) ≡ find d ls
unfolding without
find-without-other c d [] f = refl
find-without-other c d (l ∷ ls) f = go (same? c l.code) (same? d l.code) (find-without-other c d ls f)
  where
    go : Same? c l.code → Same? d l.code → find d (without c ls) ≡ find d ls → find d (without c (l ∷ ls)) ≡ find d (l ∷ ls)
    go (same p q) (same r s) ih = absurd (f (r ∙ sym p))
    go (same p q) (other r s) ih = rw (without-here c l ls p, find-there d l ls r)
    go (other p q) (same r s) ih = rw (without-there c l ls p, find-here d l ls r, find-here d l (without c ls) r)
    go (other p q) (other r s) ih = rw (without-there c l ls p, find-there d l ls r, find-there d l (without c ls) r) ih

-- the code's own is gone, as no code stands twice
pub find-without-same : (c : List ℕ) (ls : List Loan) → Distinct ls → find c (without c ls) ≡ none
unfolding without find
find-without-same c [] k = refl
find-without-same c (l ∷ ls) k = go (same? c l.code) (find-without-same c ls k.1)
  where
    go : Same? c l.code → find c (without c ls) ≡ none → find c (without c (l ∷ ls)) ≡ none
    go (same p q) ih = rw (without-here c l ls p) (ap (λ (x : List ℕ). find x ls) p ∙ k.0)
    go (other p q) ih = rw (without-there c l ls p, find-there c l (without c ls) p) ih

pub distinct_without : (c : List ℕ) (ls : List Loan) → Distinct ls → Distinct (without c ls)
unfolding without
distinct_without c [] k = tt
distinct_without c (l ∷ ls) k = go (same? c l.code) (distinct_without c ls k.1)
  where
    go : Same? c l.code → Distinct (without c ls) → Distinct (without c (l ∷ ls))
    go (same p q) ih = rw (without-here c l ls p) k.1
    go (other p q) ih = rw (without-there c l ls p) (find-without-other c l.code ls (λ z. p (sym z)) ∙ k.0, ih)

-- one loan fewer, where the code is out
pub length_without : (c : List ℕ) (ls : List Loan) → is_out c ls ≡ true → suc (length (without c ls)) ≡ length ls
unfolding find
length_without c [] e = absurd (false≢true e)
length_without c (l ∷ ls) e = go (same? c l.code) (length_without c ls)
  where
    go : Same? c l.code → (is_out c ls ≡ true → suc (length (without c ls)) ≡ length ls) → suc (length (without c (l ∷ ls))) ≡ suc (length ls)
    go (same p q) ih = rw (without-here c l ls p)
    go (other p q) ih = rw (without-there c l ls p) (ap suc (ih (ap is_some (sym (find-there c l ls p)) ∙ e)))
