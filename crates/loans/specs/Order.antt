-- The register's order: "used places first, in rising order of code bytes".
use Rattle.std.specs.Prelude.{ℕ, ◌-◌, Bool, true, false, cond, ◌&&◌, List, [], ◌∷◌}
use Rattle.std.proofs.Math.Option.{Option, none, some}
use Rattle.octets.specs.Order.{before}
use Rattle.loans.specs.Loan.{Loan}
use Rattle.loans.specs.Place.{free, places_of, are_places, loans_in}

-- What may stand behind a place: behind a free one a free one alone, behind a used one also one whose code comes later. "byte by byte;
-- the length byte takes no part": the order is that of the codes.
unfoldable pub follows : Option Loan → Option Loan → Bool
follows p none = true
follows none (some l) = false
follows (some k) (some l) = before k.code l.code

-- each place may stand behind the one before it; so no code stands twice
unfoldable pub in_order : List (Option Loan) → Bool
in_order [] = true
in_order (p ∷ []) = true
in_order (p ∷ q ∷ ps) = follows p q && in_order (q ∷ ps)

-- n places: the used ones first, and free ones behind them
unfoldable pub placed : ℕ → List Loan → List (Option Loan)
placed n [] = free n
placed n (l ∷ ls) = some l ∷ placed (n - 1) ls

-- bytes that are 256 places in order, and the loans in them
unfoldable pub are_ordered : List ℕ → Bool
are_ordered places = are_places 256 places && in_order (places_of 256 places)

unfoldable pub loans_at : List ℕ → List Loan
loans_at places = loans_in (places_of 256 places)

-- "An issue makes room at its place in the order."
unfoldable pub put : Loan → List Loan → List Loan
put l [] = l ∷ []
put l (k ∷ ks) = cond (before l.code k.code) (l ∷ k ∷ ks) (k ∷ put l ks)
