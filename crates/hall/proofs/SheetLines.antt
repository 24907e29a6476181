-- The sheet's lines, as the code makes them.
use Prim.Native.Nat.{ℕ, zero, suc, ◌+◌, ◌-◌, ◌≤◌, ◌<◌}
use mathlib.Core.Path.{◌≡◌, refl, sym, ◌∙◌, ap}
use mathlib.Core.Bool.{Bool, true, false}
use mathlib.Core.List.{List, [], ◌∷◌, map}
use native.Mathlib.Omega.{arith}
use lib.ListN.{length, get_or, length-map, get_or-eq_default}
use Rattle.loans.specs.Loan.{Loan}
use Rattle.loans.specs.Counts as tallies
use Rattle.loans.specs.Halving.{loan_in}
use Rattle.loans.specs.Contents.{is_register, contents_of}
use Rattle.register.specs.Representation.{counts_of}
use Rattle.register.specs.declared.answer.Counts.{Counts}
use Rattle.answers.specs.Answers.{out_line, counts_line}
use Rattle.hall.specs.Sheet.{text_of_bytes, loan_line, sheet_lines}

-- ---- the counts

abbrev pub numbers_in : Counts → List ℕ
numbers_in n = n.out ∷ n.meta ∷ n.semantic ∷ n.content ∷ n.«data» ∷ n.instance ∷ n.iscc ∷ n.id ∷ []

pub counts-told : (n : Counts) (ns : List ℕ) → n ≡ counts_of ns → counts_line (numbers_in n) ≡ counts_line (numbers_in (counts_of ns))
counts-told n ns e = ap (λ (m : Counts). counts_line (numbers_in m)) e

-- ---- a code out

pub loan-told : (l : Loan) (c r : List ℕ) (b : ℕ) → c ≡ l.code → b ≡ l.borrower → r ≡ out_line (text_of_bytes c) b → r ≡ loan_line l
loan-told l c r b e f h = h ∙ rw (e, f)

-- ---- which line stands where

line_at : (ls : List Loan) (i : ℕ) → i < length ls → loan_line (loan_in ls i) ≡ get_or (map loan_line ls) i []
line_at [] i h = absurd (omega (arith, h))
line_at (l ∷ ls) zero h = refl
line_at (l ∷ ls) (suc i) h = line_at ls i (omega (arith, h))

module _ (area : List ℕ) (b : Bool) (tested : b ≡ is_register area) where
  abbrev loans : List Loan
  loans = (contents_of area).loans

  lines-yes : b ≡ true → sheet_lines area ≡ counts_line (tallies.counts loans) ∷ map loan_line loans
  unfolding sheet_lines
  lines-yes y = let v : is_register area ≡ true = sym tested ∙ y in rw v

  lines-no : b ≡ false → sheet_lines area ≡ []
  unfolding sheet_lines
  lines-no f = let v : is_register area ≡ false = sym tested ∙ f in rw v

  pub count_yes : b ≡ true → (n : ℕ) → n ≡ length loans → 1 + n ≡ length (sheet_lines area)
  count_yes y n e = omega (arith, e, ap length (lines-yes y), length-map loans loan_line)

  pub count_no : b ≡ false → 0 ≡ length (sheet_lines area)
  count_no f = sym (ap length (lines-no f))

  pub first-line : b ≡ true → (i : ℕ) (r : List ℕ) → i ≡ 0 → r ≡ counts_line (tallies.counts loans) → r ≡ get_or (sheet_lines area) i []
  first-line y i r z e = rw (z, lines-yes y) e

  pub other-line : b ≡ true → (i : ℕ) (r : List ℕ) → (i ≡ 0 → ⊥) → i ≤ length loans → r ≡ loan_line (loan_in loans (i - 1))
      → r ≡ get_or (sheet_lines area) i []
  other-line y zero r z h e = absurd (z refl)
  other-line y (suc i) r z h e =
      let k : suc i - 1 ≡ i = omega arith in
      rw (lines-yes y) (e ∙ rw k (line_at loans i h))

  pub no_line : b ≡ true → (i n : ℕ) → n ≡ length loans → n < i → [] ≡ get_or (sheet_lines area) i []
  no_line y i n e h =
      let l : length (counts_line (tallies.counts loans) ∷ map loan_line loans) ≤ i = omega (arith, length-map loans loan_line) in
      rw (lines-yes y) (sym (get_or-eq_default (counts_line (tallies.counts loans) ∷ map loan_line loans) [] l))

  pub no_lines : b ≡ false → (i : ℕ) → [] ≡ get_or (sheet_lines area) i []
  no_lines f i = rw (lines-no f)
