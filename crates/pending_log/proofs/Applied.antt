-- A record by its tag and its body: the test 24, its number and its change; and the record applied in its turn.
use Rattle.std.specs.Prelude.{Ok, Err}
use Prim.Native.Nat.{ℕ, min, ◌+◌, ◌%◌, ◌^◌, ◌≤◌, ◌<◌}
use mathlib.Core.Path.{◌≡◌, refl, sym, ◌∙◌, ap}
use mathlib.Core.Bool.{Bool, true, false, not, ◌&&◌}
use mathlib.Core.List.{List, []}
use native.Mathlib.Nat.{mod-eq_of_lt}
use native.Mathlib.Omega.{arith}
use lib.ListN.{length, take, drop, drop_of_length-le, length-take}
use lib.Seq.{drop-drop, take_all}
use lib.Dec.{eqb, leb}
use borrow.Author.Tests.{leb-true, leb-false, eq-eqb, ne_eqb}
use Rattle.iscc.specs.Refusals.{not_record, number_gap}
use Rattle.iscc.specs.Answer.{Answer}
use Rattle.iscc.specs.Digits.{Below, value}
use Rattle.iscc.proofs.Booleans.{true-false}
use Rattle.iscc.proofs.Digits.{below-take, below-drop}
use Rattle.loans.specs.Loan.{one_code}
use Rattle.loans.specs.Map.{issue_code, return_code}
use Rattle.loans.specs.Register.{changed_area}
use Rattle.loans.specs.Contents.{contents_of, register}
use Rattle.loans.specs.Fields.{Field}
use Rattle.loans.specs.Records.{is_record, change_of}
use Rattle.loans.specs.PendingLog.{number_in, is_numbered, numbered_of, in_turn}
use Rattle.loans.proofs.Loan.{is_code}
use Rattle.loans.proofs.Records.{small-value}
use Rattle.loans.proofs.PendingLog.{skip-in-turn, gap-in-turn, next-in-turn}
use Rattle.register.specs.Representation.{Changed}
use Rattle.register.proofs.Changes.{Told}
use Rattle.pending_log.specs.AppliedArea.{applied_area}

-- ---- numbers of four bytes, and codes behind them

-- four bytes hold no more than the number read from them
pub read_is : (bs : List ℕ) (k r : ℕ) → Below 256 bs → r ≡ value 8 (take 4 (drop k bs)) % 2 ^ 32 → r ≡ value 8 (take 4 (drop k bs))
read_is bs k r b e =
    e ∙ mod-eq_of_lt (small-value (take 4 (drop k bs)) (below-take 256 4 (drop k bs) (below-drop 256 k bs b)) (simp length-take (omega arith)))

pub front-number : (bs : List ℕ) (n r : ℕ) → Below 256 bs → n ≡ min (length bs) 4 → r ≡ value 8 (take n bs) % 2 ^ 32 → r ≡ value 8 (take 4 bs)
front-number bs n r b h e = read_is bs 0 r b (e ∙ ap (λ (l : List ℕ). value 8 l % 2 ^ 32) (same (leb (length bs) 4) refl))
  where
    same : (x : Bool) → leb (length bs) 4 ≡ x → take n bs ≡ take 4 bs
    same true w = let k = leb-true (length bs) 4 w in take_all n bs (omega (arith, h)) ∙ sym (take_all 4 bs k)
    same false w = let k : n ≡ 4 = omega (arith, h, leb-false (length bs) 4 w) in ap (λ (i : ℕ). take i bs) k

no_code : one_code [] ≡ false
no_code = go (one_code []) refl
  where
    go : (b : Bool) → one_code [] ≡ b → b ≡ false
    go true e = absurd (omega (arith, (is_code [] tt e).some))
    go false e = refl

module _ (body : List ℕ) (k : ℕ) where
  none-there : length body < k → one_code (drop k body) ≡ false
  none-there h = ap one_code (drop_of_length-le body {i = k} (omega (arith, h))) ∙ no_code

  pub code-within : one_code (drop k body) ≡ true → k ≤ length body
  code-within e = go (leb k (length body)) refl
    where
      go : (b : Bool) → leb k (length body) ≡ b → k ≤ length body
      go true w = leb-true k (length body) w
      go false w = absurd (true-false e (none-there (leb-false k (length body) w)))

  abbrev is_body : Bool
  is_body = one_code (drop k body) && not (eqb (value 8 (take 4 body)) 0)

  pub body-short : length body < k → false ≡ is_body
  body-short h = rw (none-there h)

-- ---- a field, by its tag

module _ (tag : ℕ) (body : List ℕ) where
  abbrev field : Field
  field = record { tag = tag; body = body }

  eight : drop 4 (drop 4 body) ≡ drop 8 body
  eight = drop-drop 4 4 body

  pub issue-is : tag ≡ 3 → is_body body 8 ≡ is_numbered field
  unfolding is_numbered is_record
  issue-is e = rw (eq-eqb tag 3 e, eight)

  return-is : (tag ≡ 3 → ⊥) → is_numbered field ≡ (eqb tag 4 && one_code (drop 4 body)) && not (eqb (value 8 (take 4 body)) 0)
  unfolding is_numbered is_record
  return-is n = rw (ne_eqb tag 3 n)

  pub is-return : (tag ≡ 3 → ⊥) → tag ≡ 4 → is_body body 4 ≡ is_numbered field
  is-return n e = sym (return-is n ∙ ap (λ (b : Bool). (b && one_code (drop 4 body)) && not (eqb (value 8 (take 4 body)) 0)) (eq-eqb tag 4 e))

  pub is-other : (tag ≡ 3 → ⊥) → (tag ≡ 4 → ⊥) → false ≡ is_numbered field
  is-other n m = sym (return-is n ∙ ap (λ (b : Bool). (b && one_code (drop 4 body)) && not (eqb (value 8 (take 4 body)) 0)) (ne_eqb tag 4 m))

  -- the borrower, in the four bytes behind the number
  pub borrower-part : (r : ℕ) → r ≡ value 8 (take 4 (take 4 (drop 4 body))) → r ≡ value 8 (take 4 (drop 4 body))
  borrower-part r e = e ∙ ap (value 8) (take_all 4 (take 4 (drop 4 body)) (simp length-take (omega arith)))

  pub issue-change : tag ≡ 3 → (numbered_of field).change ≡ issue_code (drop 8 body) (value 8 (take 4 (drop 4 body)))
  unfolding numbered_of change_of
  issue-change e = rw (eq-eqb tag 3 e, eight)

  pub return-change : (tag ≡ 3 → ⊥) → (numbered_of field).change ≡ return_code (drop 4 body)
  unfolding numbered_of change_of
  return-change n = rw (ne_eqb tag 3 n)

-- ---- a record in its turn

module _ (f : Field) (area : List ℕ) where
  abbrev Applies : Changed → List ℕ → Type 0
  Applies = Told (applied_area f area) area

  pub no_record : is_numbered f ≡ false → Applies (Err not_record) area
  unfolding applied_area
  no_record e = rw e (refl, refl)

  module _ (e : is_numbered f ≡ true) (n last : ℕ) (p : n ≡ number_in f) (q : last ≡ (contents_of area).last) where
    abbrev made : Answer (List ℕ)
    made = changed_area register (numbered_of f).change area

    turn : applied_area f area ≡ in_turn n last area made
    unfolding applied_area
    turn = rw (e, p, q)

    pub skipped : n ≤ last → Applies (Ok last) area
    skipped h = rw (turn, skip-in-turn n last area made h) (ap Ok q, refl)

    pub gap : last < n → (n ≡ last + 1 → ⊥) → Applies (Err number_gap) area
    gap h m = rw (turn, gap-in-turn n last area made (omega (arith, h, m))) (refl, refl)

    pub next-made : n ≡ last + 1 → (y : Changed) (d : List ℕ) → Told (changed_area register (numbered_of f).change area) area y d → Applies y d
    next-made h y d t = rw (turn, next-in-turn n last area made (omega (arith, h))) t
