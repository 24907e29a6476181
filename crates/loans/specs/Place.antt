-- A place of the register: 48 bytes, and what they hold.
use Rattle.std.specs.Prelude.{ℕ, zero, suc, ◌-◌, Bool, true, cond, ◌&&◌, List, [], ◌∷◌, ◌++◌, length, get_or, take, drop, replicate, eqb, leb}
use Rattle.std.proofs.Math.Option.{Option, none, some}
use Rattle.iscc.specs.Digits.{digits, value, all_below}
use Rattle.loans.specs.Loan.{Loan, loan_of, one_code}

-- so many zero bytes, and so many free places
unfoldable pub zeros : ℕ → List ℕ
zeros n = replicate n 0

unfoldable pub free : ℕ → List (Option Loan)
free n = replicate n none

-- a free place is 48 zeros; a used one has the code's length, the code, zeros up to byte 43 with it, and the borrower
unfoldable pub place_bytes : Option Loan → List ℕ
place_bytes none = zeros 48
place_bytes (some l) = length l.code ∷ (l.code ++ (zeros (43 - length l.code) ++ digits 8 4 l.borrower))

unfoldable pub places_bytes : List (Option Loan) → List ℕ
places_bytes [] = []
places_bytes (p ∷ ps) = place_bytes p ++ places_bytes ps

-- what 48 bytes hold: "Byte 0 is the length of the code, and 0 where the place is free."
unfoldable pub place_of : List ℕ → Option Loan
place_of bs =
    cond (eqb (get_or bs 0 0) 0) none
    (some (loan_of (take (get_or bs 0 0) (drop 1 bs)) (value 8 (take 4 (drop 44 bs)))))

-- "A free place is all zeros."; of a used one "the length is at most 42, that many code bytes are exactly one item, and every byte
-- from there to byte 43 is zero"
unfoldable pub is_place : List ℕ → Bool
is_place bs =
    cond (eqb (get_or bs 0 0) 0) (all_below 1 bs)
    (leb (get_or bs 0 0) 42 && one_code (take (get_or bs 0 0) (drop 1 bs)) && all_below 1 (drop (get_or bs 0 0) (take 43 (drop 1 bs))))

-- the first n places of an area
unfoldable pub places_of : ℕ → List ℕ → List (Option Loan)
places_of zero bs = []
places_of (suc n) bs = place_of (take 48 bs) ∷ places_of n (drop 48 bs)

unfoldable pub are_places : ℕ → List ℕ → Bool
are_places zero bs = true
are_places (suc n) bs = is_place (take 48 bs) && are_places n (drop 48 bs)

-- the loans in places, in the places' order
unfoldable pub loans_in : List (Option Loan) → List Loan
loans_in [] = []
loans_in (none ∷ ps) = loans_in ps
loans_in (some l ∷ ps) = l ∷ loans_in ps
