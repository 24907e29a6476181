-- The places of an area by their number: what is known of one by its bytes.
use Prim.Native.Nat.{ℕ, zero, suc, ◌+◌, ◌-◌, ◌*◌, ◌≤◌, ◌<◌}
use mathlib.Core.Path.{◌≡◌, refl, sym, ◌∙◌, ap, subst}
use mathlib.Core.Bool.{Bool, true, false, cond, ◌&&◌}
use mathlib.Core.Option.{Option, none, some}
use mathlib.Core.List.{List}
use native.Mathlib.Nat.{not-suc-le-zero, le_of_suc-le-suc}
use native.Mathlib.Omega.{arith}
use lib.ListN.{length, get_or, take, drop}
use lib.Seq.{drop-drop, take-take, get_or-take, get_or-drop}
use lib.Dec.{eqb, leb}
use borrow.Author.Tests.{eq-eqb, ne_eqb, leb-true, eqb-true}
use Rattle.iscc.specs.Digits.{all_below, value}
use Rattle.iscc.proofs.Booleans.{both_true}
use Rattle.loans.specs.Loan.{Loan, loan_of, one_code}
use Rattle.loans.specs.Place.{place_of, is_place, places_of, are_places}
use Rattle.iscc.proofs.Parts.{drop-take}
use Rattle.loans.proofs.Places.{place_at}

pub place-test : (n : ℕ) (bs : List ℕ) (i : ℕ) → i < n → are_places n bs ≡ true → is_place (take 48 (drop (48 * i) bs)) ≡ true
unfolding are_places
place-test zero bs i h e = absurd (not-suc-le-zero h)
place-test (suc n) bs zero h e = (both_true (is_place (take 48 bs)) (are_places n (drop 48 bs)) e).0
place-test (suc n) bs (suc i) h e =
    let k : 48 * suc i ≡ 48 + 48 * i = omega arith in
    ap (λ (xs : List ℕ). is_place (take 48 xs)) (ap (λ (j : ℕ). drop j bs) k ∙ sym (drop-drop (48 * i) 48 bs))
    ∙ place-test n (drop 48 bs) i (le_of_suc-le-suc h) (both_true (is_place (take 48 bs)) (are_places n (drop 48 bs)) e).1

pub short-place : (bs : List ℕ) → is_place bs ≡ true → get_or bs 0 0 ≤ 42
unfolding is_place
short-place bs e = go (eqb (get_or bs 0 0) 0) refl e
  where
    go : (b : Bool) → eqb (get_or bs 0 0) 0 ≡ b
        → cond b (all_below 1 bs) (leb (get_or bs 0 0) 42 && one_code (take (get_or bs 0 0) (drop 1 bs)) && all_below 1 (drop (get_or bs 0 0) (take 43 (drop 1 bs)))) ≡ true → get_or bs 0 0 ≤ 42
    go true q w = omega (arith, eqb-true (get_or bs 0 0) 0 q)
    go false q w =
        let a = both_true (leb (get_or bs 0 0) 42 && one_code (take (get_or bs 0 0) (drop 1 bs))) (all_below 1 (drop (get_or bs 0 0) (take 43 (drop 1 bs)))) w in
        leb-true (get_or bs 0 0) 42 (both_true (leb (get_or bs 0 0) 42) (one_code (take (get_or bs 0 0) (drop 1 bs))) a.0).0

module _ (area : List ℕ) (i : ℕ) (l : length area ≡ 12288) (h : i < 256) where
  abbrev bs : List ℕ
  bs = take 48 (drop (48 * i) area)

  head-is : get_or bs 0 0 ≡ get_or area (48 * i) 0
  head-is = get_or-take 48 (drop (48 * i) area) 0 0 (omega arith) ∙ get_or-drop (48 * i) area 0 0 ∙ ap (λ (k : ℕ). get_or area k 0) (omega arith)

  here : get_or (places_of 256 area) i none ≡ place_of bs
  here = place_at 256 area i h

  pub is_free : get_or area (48 * i) 0 ≡ 0 → get_or (places_of 256 area) i none ≡ none
  unfolding place_of
  is_free e = here ∙ rw (head-is, eq-eqb (get_or area (48 * i) 0) 0 e)

  module _ (v : are_places 256 area ≡ true) where
    pub length-short : get_or area (48 * i) 0 ≤ 42
    length-short = subst (λ (n : ℕ). n ≤ 42) head-is (short-place bs (place-test 256 area i h v))

    code_is : (n : ℕ) → n ≡ get_or area (48 * i) 0 → take (get_or bs 0 0) (drop 1 bs) ≡ take (48 * i + 1 + n - (48 * i + 1)) (drop (48 * i + 1) area)
    code_is n e =
        let k : 48 * i + 1 + n - (48 * i + 1) ≡ n = omega arith in
        let m : n ≤ 47 = omega (arith, length-short) in
        ap (λ (j : ℕ). take j (drop 1 bs)) (head-is ∙ sym e)
        ∙ ap (take n) (drop-take 1 48 (drop (48 * i) area))
        ∙ take-take n 47 (drop 1 (drop (48 * i) area)) m ∙ ap (take n) (drop-drop 1 (48 * i) area) ∙ ap (λ (j : ℕ). take j (drop (48 * i + 1) area)) (sym k)

    pub is-used : (n : ℕ) → n ≡ get_or area (48 * i) 0 → (n ≡ 0 → ⊥)
        → (b : ℕ) × (get_or (places_of 256 area) i none ≡ some (loan_of (take (48 * i + 1 + n - (48 * i + 1)) (drop (48 * i + 1) area)) b))
    unfolding place_of
    is-used n e z =
        let q : eqb (get_or bs 0 0) 0 ≡ false = ne_eqb (get_or bs 0 0) 0 (λ w. z (e ∙ sym head-is ∙ w)) in
        (value 8 (take 4 (drop 44 bs)), here ∙ rw (q, code_is n e))

  -- a used place's borrower
  pub borrower-there : (k : Loan) → get_or (places_of 256 area) i none ≡ some k → k.borrower ≡ value 8 (take 4 (drop (48 * i + 44) area))
  unfolding place_of
  borrower-there k e = go (eqb (get_or bs 0 0) 0) (sym here ∙ e)
    where
      borrower_or : Option Loan → ℕ
      borrower_or none = 0
      borrower_or (some l) = l.borrower

      part : take 4 (drop 44 bs) ≡ take 4 (drop (48 * i + 44) area)
      part =
          ap (take 4) (drop-take 44 48 (drop (48 * i) area))
          ∙ take-take 4 4 (drop 44 (drop (48 * i) area)) (omega arith) ∙ ap (take 4) (drop-drop 44 (48 * i) area)

      go : (b : Bool) → cond b none (some (loan_of (take (get_or bs 0 0) (drop 1 bs)) (value 8 (take 4 (drop 44 bs))))) ≡ some k
          → k.borrower ≡ value 8 (take 4 (drop (48 * i + 44) area))
      go true w = let z : ◌≡◌ {A = ℕ} 0 1 = cc in absurd (omega arith)
      go false w = sym (ap borrower_or w) ∙ ap (value 8) part

  pub not_free : (get_or area (48 * i) 0 ≡ 0 → ⊥) → (k : Loan) × (get_or (places_of 256 area) i none ≡ some k)
  unfolding place_of
  not_free z =
      let q : eqb (get_or bs 0 0) 0 ≡ false = ne_eqb (get_or bs 0 0) 0 (λ w. z (sym head-is ∙ w)) in
      (loan_of (take (get_or bs 0 0) (drop 1 bs)) (value 8 (take 4 (drop 44 bs))), here ∙ rw q)

pub count-places : (n : ℕ) (bs : List ℕ) → length (places_of n bs) ≡ n
unfolding places_of
count-places zero bs = refl
count-places (suc n) bs = ap suc (count-places n (drop 48 bs))
