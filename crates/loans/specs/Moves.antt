-- What is written over an area: bytes in place of others, a place put in, a place taken out, a count changed by one.
use Rattle.std.specs.Prelude.{ℕ, suc, ◌+◌, ◌-◌, ◌*◌, List, ◌++◌, length, take, drop}
use Rattle.iscc.specs.Digits.{digits, value}
use Rattle.loans.specs.Place.{zeros}

-- bytes written over an area's own, from an offset on
unfoldable pub pasted : ℕ → List ℕ → List ℕ → List ℕ
pasted offset bs area = take offset area ++ (bs ++ drop (offset + length bs) area)

-- bytes put in at an offset: those from there up to the end move on behind them, over as many as are put in
unfoldable pub put_in : ℕ → ℕ → List ℕ → List ℕ → List ℕ
put_in offset end bs area = take offset area ++ (bs ++ (take (end - offset) (drop offset area) ++ drop (end + length bs) area))

-- so many bytes taken out at an offset: those behind them up to the end move back, and zeros follow
unfoldable pub taken_out : ℕ → ℕ → ℕ → List ℕ → List ℕ
taken_out offset count end area =
    take offset area ++ (take (end - (offset + count)) (drop (offset + count) area) ++ (zeros count ++ drop end area))

-- ---- counts, two bytes each, high byte first

-- the number that stands i-th, from 0, and the bytes with another one there
unfoldable pub number_at : ℕ → List ℕ → ℕ
number_at i bs = value 8 (take 2 (drop (2 * i) bs))

unfoldable pub with_number : ℕ → ℕ → List ℕ → List ℕ
with_number i n bs = pasted (2 * i) (digits 8 2 n) bs

-- one code more of a main type, and one less: in the first number, and in the main type's own
unfoldable pub one_more : ℕ → List ℕ → List ℕ
one_more m bs = with_number (suc m) (suc (number_at (suc m) bs)) (with_number 0 (suc (number_at 0 bs)) bs)

unfoldable pub one_less : ℕ → List ℕ → List ℕ
one_less m bs = with_number (suc m) (number_at (suc m) bs - 1) (with_number 0 (number_at 0 bs - 1) bs)
