-- The search in the code.
use Rattle.std.specs.Prelude.{ℕ, Bool, true, false, length, Result, Ok, Err}
use Rattle.loans.specs.Halving.{Search}
use Rattle.places.specs.declared.search.Found.{Found}

-- a place where the code was found, or where it would stand
abbrev pub place_as : Bool → ℕ → Result ℕ ℕ
place_as true place = Ok place
place_as false place = Err place

-- where a search ended, and its count of looks
abbrev pub found_as : Search → Found
found_as s = record { place = place_as s.found s.place; looks = length s.looked }
