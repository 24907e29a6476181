-- Places laid end to end, and the loans in them, there and back; free places.
use Prim.Native.Nat.{ℕ, zero, suc, ◌+◌, ◌*◌, ◌≤◌, ◌-◌, ◌<◌}
use mathlib.Core.Path.{◌≡◌, refl, sym, ◌∙◌, ap}
use mathlib.Core.Bool.{true, ◌&&◌}
use mathlib.Core.Option.{Option, none, some}
use mathlib.Core.List.{List, [], ◌∷◌, ◌++◌, append_assoc}
use native.Mathlib.Nat.{not-suc-le-zero, le_of_suc-le-suc}
use native.Mathlib.Omega.{arith}
use lib.ListN.{get_or, length, take, drop, length-append, length-drop, length-replicate, replicate-append-replicate}
use lib.Seq.{take_at, drop_at, length-take-le, take-add, drop-drop}
use Rattle.iscc.specs.Digits.{Below}
use Rattle.iscc.proofs.Digits.{below-take, below-drop}
use Rattle.iscc.proofs.Booleans.{both_true}
use Rattle.loans.specs.Loan.{Loan}
use Rattle.loans.specs.Place.{zeros, free, place_bytes, places_bytes, is_place, places_of, are_places, loans_in, place_of}
use Rattle.loans.specs.Good.{GoodPlaces}
use Rattle.loans.proofs.Place.{length-place, place_is, place-of, PlaceBack, place-back}

-- ---- places laid end to end

pub length-places : (ps : List (Option Loan)) → GoodPlaces ps → length (places_bytes ps) ≡ 48 * length ps
unfolding places_bytes
length-places [] g = refl
length-places (p ∷ ps) g =
    let a : length (place_bytes p) ≡ 48 = length-place p g.0 in
    let b : length (places_bytes ps) ≡ 48 * length ps = length-places ps g.1 in
    simp length-append (omega arith)

module _ (tail : List ℕ) where
  pub places-are : (ps : List (Option Loan)) → GoodPlaces ps → are_places (length ps) (places_bytes ps ++ tail) ≡ true
  unfolding places_bytes are_places
  places-are [] g = refl
  places-are (p ∷ ps) g =
      let n : length (place_bytes p) ≡ 48 = length-place p g.0 in
      rw (
        append_assoc (place_bytes p) (places_bytes ps) tail,
        take_at (place_bytes p) (places_bytes ps ++ tail) 48 n,
        drop_at (place_bytes p) (places_bytes ps ++ tail) 48 n,
        place_is p g.0,
      ) (places-are ps g.1)

  pub places-of : (ps : List (Option Loan)) → GoodPlaces ps → places_of (length ps) (places_bytes ps ++ tail) ≡ ps
  unfolding places_bytes places_of
  places-of [] g = refl
  places-of (p ∷ ps) g =
      let n : length (place_bytes p) ≡ 48 = length-place p g.0 in
      rw (
        append_assoc (place_bytes p) (places_bytes ps) tail,
        take_at (place_bytes p) (places_bytes ps ++ tail) 48 n,
        drop_at (place_bytes p) (places_bytes ps ++ tail) 48 n,
        place-of p g.0,
      ) (ap (λ (qs : List (Option Loan)). p ∷ qs) (places-of ps g.1))

pub record PlacesBack (n : ℕ) (bs : List ℕ) : Type 0 where
  pub good : GoodPlaces (places_of n bs)
  pub count : length (places_of n bs) ≡ n
  pub again : places_bytes (places_of n bs) ≡ take (48 * n) bs

pub places-back : (n : ℕ) (bs : List ℕ) → 48 * n ≤ length bs → Below 256 bs → are_places n bs ≡ true → PlacesBack n bs
unfolding places_of are_places places_bytes
places-back zero bs l k e = record { good = tt; count = refl; again = refl }
places-back (suc n) bs l k e =
    let h = both_true (is_place (take 48 bs)) (are_places n (drop 48 bs)) e in
    let a : PlaceBack (take 48 bs) = place-back (take 48 bs) (length-take-le 48 bs (omega arith)) (below-take 256 48 bs k) h.0 in
    let b : PlacesBack n (drop 48 bs) = places-back n (drop 48 bs) (simp length-drop (omega arith)) (below-drop 256 48 bs k) h.1 in
    let s : 48 * suc n ≡ 48 + 48 * n = omega arith in
    record {
      good = (a.good, b.good);
      count = ap suc b.count;
      again = rw (s, a.again, b.again) (sym (take-add 48 (48 * n) bs));
    }

-- ---- the loans in places

-- no more loans than places
pub loans-most : (ps : List (Option Loan)) → length (loans_in ps) ≤ length ps
unfolding loans_in
loans-most [] = omega arith
loans-most (none ∷ ps) = let h = loans-most ps in omega arith
loans-most (some l ∷ ps) = let h = loans-most ps in omega arith

-- ---- free places

pub zeros-more : (m n : ℕ) → zeros m ++ zeros n ≡ zeros (m + n)
unfolding zeros
zeros-more m n = replicate-append-replicate m n 0

pub free_bytes : (n : ℕ) → places_bytes (free n) ≡ zeros (48 * n)
unfolding places_bytes place_bytes free zeros
free_bytes zero = refl
free_bytes (suc n) = let s : 48 * suc n ≡ 48 + 48 * n = omega arith in rw s (ap (λ (xs : List ℕ). zeros 48 ++ xs) (free_bytes n) ∙ zeros-more 48 (48 * n))

pub free-good : (n : ℕ) → GoodPlaces (free n)
unfolding free
free-good zero = tt
free-good (suc n) = (tt, free-good n)

pub free-loans : (n : ℕ) → loans_in (free n) ≡ []
unfolding free loans_in
free-loans zero = refl
free-loans (suc n) = free-loans n

pub free-length : (n : ℕ) → length (free n) ≡ n
unfolding free
free-length n = length-replicate n none

-- ---- the place of a number

pub place_at : (n : ℕ) (bs : List ℕ) (i : ℕ) → i < n → get_or (places_of n bs) i none ≡ place_of (take 48 (drop (48 * i) bs))
unfolding places_of
place_at zero bs i h = absurd (not-suc-le-zero h)
place_at (suc n) bs zero h = refl
place_at (suc n) bs (suc i) h =
    let e : 48 * suc i ≡ 48 + 48 * i = omega arith in
    place_at n (drop 48 bs) i (le_of_suc-le-suc h) ∙ ap (λ (xs : List ℕ). place_of (take 48 xs)) (drop-drop (48 * i) 48 bs ∙ ap (λ (k : ℕ). drop k bs) (sym e))

-- the test of places from the i-th on: one place, and the others
pub places-on : (n i : ℕ) (bs : List ℕ) → i < n
    → are_places (n - i) (drop (48 * i) bs) ≡ is_place (take 48 (drop (48 * i) bs)) && are_places (n - (i + 1)) (drop (48 * (i + 1)) bs)
unfolding are_places
places-on n i bs h =
    let e : n - i ≡ suc (n - (i + 1)) = omega arith in
    let f : 48 * (i + 1) ≡ 48 * i + 48 = omega arith in
    rw (e, f, ← drop-drop 48 (48 * i) bs)
