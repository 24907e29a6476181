-- For the order test: a place that is used.
use Rattle.std.specs.Prelude.{ℕ, Bool, not, ◌&&◌, List, get_or, eqb, take, drop}
use Rattle.loans.specs.Place.{is_place}

unfoldable pub is_used : List ℕ → Bool
is_used bs = not (eqb (get_or bs 0 0) 0) && is_place bs

-- the code in a used place, behind its length
abbrev pub code_in : List ℕ → List ℕ
code_in bs = take (get_or bs 0 0) (drop 1 bs)
