-- What is promised of the counts holds.
use Prim.Native.Nat.{ℕ, ◌+◌, ◌≤◌, ◌<◌}
use mathlib.Core.Path.{◌≡◌, refl, sym, ◌∙◌}
use mathlib.Core.Bool.{Bool, true, false, cond}
use mathlib.Core.List.{List, [], ◌∷◌}
use native.Mathlib.Omega.{arith}
use lib.ListN.{length, get_or}
use lib.Seq.{ext_get_or}
use lib.Dec.{eqb}
use borrow.Author.Tests.{eqb-true}
use Rattle.iscc.specs.Refusals.{Refusal, not_register}
use Rattle.iscc.specs.Answer.{accept, refuse, ◌>>◌, ◌otherwise◌}
use Rattle.iscc.specs.Digits.{Below}
use Rattle.iscc.specs.Exactly.{Exactly, once}
use Rattle.iscc.proofs.Steps.{step-once, done}
use Rattle.iscc.proofs.Exactly.{exactly}
use Rattle.iscc.proofs.Answer.{passed, accept-inj, refuse-inj, never}
use Rattle.iscc.proofs.Table.{up_to, at, entry}
use Rattle.loans.specs.Loan.{Loan}
use Rattle.loans.specs.Counts.{code_type, count_of, counts}
use Rattle.loans.specs.Moves.{number_at}
use Rattle.loans.specs.Numbered.{loans_of}
use Rattle.loans.specs.Contents.{contents_of, is_register, counts_asked}
use Rattle.loans.specs.Good.{GoodLoans}
use Rattle.loans.specs.CountPromises.{numbers_in, HowManyOut}
use Rattle.loans.proofs.CodeType.{code-type}
use Rattle.loans.proofs.Contents.{register-sound}
use Rattle.loans.proofs.CodesOut.{numbers-true, kept, kept-by-all, codes-out}

are-true : (area : List ℕ) → is_register area ≡ true → numbers_in area ≡ counts (loans_of (contents_of area))
are-true area e = ext_get_or 0 (numbers_in area) (counts (loans_of (contents_of area))) refl (λ i h. entry (λ k. number_at k area) 0 8 i h ∙ numbers-true area e i h)

disagreement : (area : List ℕ) (i : ℕ) → i < 8 → (number_at i area ≡ get_or (counts (loans_of (contents_of area))) i 0 → ⊥) → is_register area ≡ false
disagreement area i h d = go (is_register area) refl
  where
    go : (b : Bool) → is_register area ≡ b → b ≡ false
    go true e = absurd (d (numbers-true area e i h))
    go false e = refl

-- ---- a code is counted under one of the seven

abbrev is : ℕ → ℕ → ℕ
is t m = cond (eqb t m) 1 0

one_type : (t : ℕ) → t ≤ 6 → is t 0 + is t 1 + is t 2 + is t 3 + is t 4 + is t 5 + is t 6 ≡ 1
unfolding up_to
one_type t h =
    eqb-true (is t 0 + is t 1 + is t 2 + is t 3 + is t 4 + is t 5 + is t 6) 1
    (at 7 (λ n. eqb (is n 0 + is n 1 + is n 2 + is n 3 + is n 4 + is n 5 + is n 6) 1) refl t (omega (arith, h)))

sum-types : (ls : List Loan) → GoodLoans ls
    → length ls ≡ count_of 0 ls + count_of 1 ls + count_of 2 ls + count_of 3 ls + count_of 4 ls + count_of 5 ls + count_of 6 ls
unfolding count_of
sum-types [] g = refl
sum-types (l ∷ ls) g = omega (arith, one_type (code_type l.code) (code-type l.code g.0.code).0, sum-types ls g.1)

sum : (area : List ℕ) → Below 256 area → is_register area ≡ true
    → number_at 0 area ≡ number_at 1 area + number_at 2 area + number_at 3 area + number_at 4 area + number_at 5 area + number_at 6 area + number_at 7 area
sum area k e =
    let n : (i : ℕ) → i < 8 → number_at i area ≡ get_or (counts (loans_of (contents_of area))) i 0 = numbers-true area e in
    rw (n 0 (omega arith), n 1 (omega arith), n 2 (omega arith), n 3 (omega arith), n 4 (omega arith), n 5 (omega arith), n 6 (omega arith), n 7 (omega arith))
    (sum-types (loans_of (contents_of area)) (register-sound.good area k e).list.loans)

-- ---- who asks for them

told : (area ns : List ℕ) → counts_asked area ≡ accept ns → ns ≡ numbers_in area
unfolding counts_asked
told area ns e =
    let p = passed (is_register area) not_register (accept (counts (loans_of (contents_of area)))) e in
    sym (accept-inj p.1) ∙ sym (are-true area p.0)

tests : (area : List ℕ) → Exactly (once not_register (is_register area) ∷ []) (counts_asked area)
unfolding counts_asked
tests area = exactly _ _ (step-once (is_register area) not_register (accept (counts (loans_of (contents_of area)))) [] (done _))

pub not-told : (area : List ℕ) (q : Refusal) → counts_asked area ≡ refuse q → (q ≡ not_register) × (is_register area ≡ false)
unfolding counts_asked
not-told area q e = go (is_register area) refl e
  where
    go : (b : Bool) → is_register area ≡ b → (b otherwise not_register >> accept (counts (loans_of (contents_of area)))) ≡ refuse q → (q ≡ not_register) × (b ≡ false)
    go true w x = absurd (never (sym x))
    go false w x = (sym (refuse-inj x), refl)

pub how-many-out : HowManyOut
how-many-out =
    record {
      are_true = are-true;
      disagreement = disagreement;
      main_type = code-type;
      sum = sum;
      kept = kept;
      kept_by_all = kept-by-all;
      first_number = codes-out;
      tests = tests;
      told = told;
    }
