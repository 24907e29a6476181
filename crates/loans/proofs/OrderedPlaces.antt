-- 256 places in order are exactly those of loans in rising order; and what is known of each of them.
use Prim.Native.Nat.{ℕ, zero, suc, ◌+◌, ◌-◌, ◌*◌, ◌≤◌, ◌<◌}
use mathlib.Core.Path.{◌≡◌, refl, sym, ◌∙◌, ap}
use mathlib.Core.Bool.{Bool, true, false}
use mathlib.Core.Option.{Option, none, some}
use mathlib.Core.List.{List, [], ◌∷◌, append-nil}
use native.Mathlib.Nat.{not-suc-le-zero, le_of_suc-le-suc}
use native.Mathlib.Omega.{arith}
use lib.ListN.{length, get_or, take, drop}
use lib.Seq.{take_all}
use lib.Dec.{ltb}
use borrow.Author.Tests.{ltb-true, ltb-false}
use Rattle.iscc.specs.Digits.{Below, value}
use Rattle.iscc.proofs.Booleans.{both_true}
use Rattle.loans.specs.Loan.{Loan}
use Rattle.loans.specs.Place.{places_bytes, places_of, are_places, loans_in}
use Rattle.loans.specs.Order.{in_order, placed, are_ordered, loans_at}
use Rattle.loans.specs.Halving.{loan_in}
use Rattle.loans.specs.Good.{GoodLoans, GoodPlaces, Rising}
use Rattle.loans.proofs.Places.{length-places, places-are, places-of, PlacesBack, places-back, loans-most}
use Rattle.loans.proofs.PlaceAt.{count-places, is_free, is-used, borrower-there}
use Rattle.loans.proofs.Order.{placed-length, placed-good, placed-loans, placed-order, order-read}

-- ---- the places of good loans

module _ (ls : List Loan) (most : length ls ≤ 256) (g : GoodLoans ls) where
  abbrev ps : List (Option Loan)
  ps = placed 256 ls

  count : length ps ≡ 256
  count = placed-length 256 ls most

  good : GoodPlaces ps
  good = placed-good 256 ls g

  held : places_of 256 (places_bytes ps) ≡ ps
  held =
      ap (λ (k : ℕ). places_of k (places_bytes ps)) (sym count) ∙ ap (places_of (length ps)) (sym (append-nil (places_bytes ps))) ∙ places-of [] ps good

  pub placed-size : length (places_bytes ps) ≡ 12288
  placed-size = length-places ps good ∙ ap (λ (k : ℕ). 48 * k) count

  pub placed-back : loans_at (places_bytes ps) ≡ ls
  unfolding loans_at
  placed-back = ap loans_in held ∙ placed-loans 256 ls

  pub placed-ordered : Rising ls → are_ordered (places_bytes ps) ≡ true
  unfolding are_ordered
  placed-ordered r =
      let a : are_places 256 (places_bytes ps) ≡ true =
      ap (λ (k : ℕ). are_places k (places_bytes ps)) (sym count) ∙ ap (are_places (length ps)) (sym (append-nil (places_bytes ps))) ∙ places-are [] ps good in
      rw (a, held) (placed-order 256 ls r)

-- ---- the loans of places in order

good-loans : (ps : List (Option Loan)) → GoodPlaces ps → GoodLoans (loans_in ps)
unfolding loans_in
good-loans [] g = tt
good-loans (none ∷ ps) g = good-loans ps g.1
good-loans (some l ∷ ps) g = (g.0, good-loans ps g.1)

pub loans-few : (bs : List ℕ) → length (loans_at bs) ≤ 256
unfolding loans_at
loans-few bs = omega (arith, loans-most (places_of 256 bs), count-places 256 bs)

placed_at : (n : ℕ) (ls : List Loan) (i : ℕ) → i < length ls → get_or (placed n ls) i none ≡ some (loan_in ls i)
unfolding placed
placed_at n [] i h = absurd (not-suc-le-zero h)
placed_at n (l ∷ ls) zero h = refl
placed_at n (l ∷ ls) (suc i) h = placed_at (n - 1) ls i (le_of_suc-le-suc h)

module _ (bs : List ℕ) (o : are_ordered bs ≡ true) where
  pub are-places : are_places 256 bs ≡ true
  unfolding are_ordered
  are-places = (both_true (are_places 256 bs) (in_order (places_of 256 bs)) o).0

  in_order-is : in_order (places_of 256 bs) ≡ true
  unfolding are_ordered
  in_order-is = (both_true (are_places 256 bs) (in_order (places_of 256 bs)) o).1

  pub loans-rising : Rising (loans_at bs)
  unfolding loans_at
  loans-rising = (order-read (places_of 256 bs) in_order-is).rising

  loans-placed : placed 256 (loans_at bs) ≡ places_of 256 bs
  unfolding loans_at
  loans-placed = ap (λ (n : ℕ). placed n (loans_in (places_of 256 bs))) (sym (count-places 256 bs)) ∙ (order-read (places_of 256 bs) in_order-is).placed

  pub place-used : (i : ℕ) → i < length (loans_at bs) → get_or (places_of 256 bs) i none ≡ some (loan_in (loans_at bs) i)
  place-used i h = ap (λ (ps : List (Option Loan)). get_or ps i none) (sym loans-placed) ∙ placed_at 256 (loans_at bs) i h

  module _ (size : length bs ≡ 12288) where
    module _ (k : Below 256 bs) where
      back : PlacesBack 256 bs
      back = places-back 256 bs (omega (arith, size)) k are-places

      pub loans-good : GoodLoans (loans_at bs)
      unfolding loans_at
      loans-good = good-loans (places_of 256 bs) back.good

      pub loans-again : places_bytes (placed 256 (loans_at bs)) ≡ bs
      loans-again = ap places_bytes loans-placed ∙ back.again ∙ take_all 12288 bs (omega (arith, size))

    -- ---- one place, by its bytes

    module _ (i : ℕ) (h : i < 256) where
      not-both : (l : Loan) → get_or (places_of 256 bs) i none ≡ none → get_or (places_of 256 bs) i none ≡ some l → ⊥
      not-both l e f = let w = sym e ∙ f in let z : ◌≡◌ {A = ℕ} 0 1 = cc in omega arith

      pub free-by-byte : get_or bs (48 * i) 0 ≡ 0 → length (loans_at bs) ≤ i
      free-by-byte z = go (ltb i (length (loans_at bs))) refl
        where
          go : (b : Bool) → ltb i (length (loans_at bs)) ≡ b → length (loans_at bs) ≤ i
          go true e = absurd (not-both _ (is_free bs i size h z) (place-used i (ltb-true i (length (loans_at bs)) e)))
          go false e = ltb-false i (length (loans_at bs)) e

    module _ (i : ℕ) (h : i < length (loans_at bs)) where
      within : i < 256
      within = omega (arith, h, loans-few bs)

      pub byte-used : get_or bs (48 * i) 0 ≡ 0 → ⊥
      byte-used z = omega (arith, h, free-by-byte i within z)

      pub code-there : (n : ℕ) → n ≡ get_or bs (48 * i) 0 → take (48 * i + 1 + n - (48 * i + 1)) (drop (48 * i + 1) bs) ≡ (loan_in (loans_at bs) i).code
      code-there n e = let u = is-used bs i size within are-places n e (λ w. byte-used (sym e ∙ w)) in ap code_or (sym u.1 ∙ place-used i h)
        where
          code_or : Option Loan → List ℕ
          code_or none = []
          code_or (some l) = l.code

      pub borrower-is : (loan_in (loans_at bs) i).borrower ≡ value 8 (take 4 (drop (48 * i + 44) bs))
      borrower-is = borrower-there bs i size within (loan_in (loans_at bs) i) (place-used i h)
