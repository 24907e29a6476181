-- How many codes are out, in all and by main type, and the bytes that tell it in front of the places.
use Rattle.std.specs.Prelude.{ℕ, ◌+◌, cond, List, [], ◌∷◌, ◌++◌, length, eqb}
use Rattle.iscc.specs.Answer.{Answer, accept, refuse}
use Rattle.iscc.specs.Digits.{digits}
use Rattle.iscc.specs.Permitted.{number}
use Rattle.iscc.specs.Item.{Item, read_one}
use Rattle.loans.specs.Loan.{Loan}

-- The number of a code's main type, which is that of the unit or composite that the code is: a list of units is a composite, and so
-- counts under 5, as a wide composite does. Bytes that are no code have none of the seven.
abbrev pub type_in : Answer Item → ℕ
type_in (accept i) = number i.main_type
type_in (refuse q) = 7

unfoldable pub code_type : List ℕ → ℕ
code_type c = type_in (read_one c)

-- the codes out of one main type
unfoldable pub count_of : ℕ → List Loan → ℕ
count_of m [] = 0
count_of m (l ∷ ls) = cond (eqb (code_type l.code) m) 1 0 + count_of m ls

-- "codes out, then codes out for main types 0 to 6"
abbrev pub counts : List Loan → List ℕ
counts ls = length ls ∷ count_of 0 ls ∷ count_of 1 ls ∷ count_of 2 ls ∷ count_of 3 ls ∷ count_of 4 ls ∷ count_of 5 ls ∷ count_of 6 ls ∷ []

-- "two bytes each, high byte first"
unfoldable pub in_pairs : List ℕ → List ℕ
in_pairs [] = []
in_pairs (n ∷ ns) = digits 8 2 n ++ in_pairs ns

unfoldable pub counts_bytes : List Loan → List ℕ
counts_bytes ls = in_pairs (counts ls)
