-- The run of base32 characters as the code holds it.
use Rattle.std.specs.Prelude.{ℕ, ◌≤◌, ◌≡◌, Bool, true, not, ◌&&◌, List, [], ◌∷◌, length, take, eqb}
use Rattle.iscc.specs.Doors.{drop_hyphens}

-- whether no character is a hyphen: the run is then all that stands behind the scheme
unfoldable pub no_hyphen : List ℕ → Bool
no_hyphen [] = true
no_hyphen (c ∷ cs) = not (eqb c 45) && no_hyphen cs

-- n is how many of the characters are no hyphens, and these stand at the front of the area if it has room
pub record Dropped (cs area : List ℕ) (n : ℕ) : Type 0 where
  pub counted : n ≡ length (drop_hyphens cs)
  pub stored : n ≤ length area → take n area ≡ drop_hyphens cs
