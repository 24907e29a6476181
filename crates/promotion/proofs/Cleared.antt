-- An area cleared from the left.
use Prim.Native.Nat.{ℕ, ◌+◌, ◌≤◌, ◌<◌}
use mathlib.Core.Path.{◌≡◌, ◌∙◌, ap, subst}
use mathlib.Core.List.{List, [], ◌∷◌, ◌++◌, append-nil}
use native.Mathlib.Omega.{arith}
use lib.ListN.{length, set, drop_of_length-le}
use Rattle.iscc.proofs.Area.{WrittenFront, nothing_written, one_written, length-written}
use Rattle.loans.specs.Place.{zeros}
use Rattle.loans.proofs.Places.{zeros-more}

abbrev pub Cleared : List ℕ → List ℕ → ℕ → Type 0
Cleared d area i = WrittenFront (zeros i) d area i

pub none-cleared : (d : List ℕ) → Cleared d d 0
unfolding zeros
none-cleared d = nothing_written d

one-zero : (i : ℕ) → zeros i ++ (0 ∷ []) ≡ zeros (i + 1)
unfolding zeros
one-zero i = zeros-more i 1

pub next-cleared : (d area : List ℕ) (i : ℕ) → Cleared d area i → i < length d → Cleared d (set area i 0) (i + 1)
next-cleared d area i w h = subst (λ (p : List ℕ). WrittenFront p d (set area i 0) (i + 1)) (one-zero i) (one_written 0 w h)

pub all-cleared : (d area : List ℕ) (i : ℕ) → Cleared d area i → length area ≤ i → area ≡ zeros (length d)
all-cleared d area i w h =
    let l : length area ≡ length d = length-written w in
    let k : i ≡ length d = omega (arith, h, w.room, l) in
    w.is ∙ ap (λ (xs : List ℕ). zeros i ++ xs) (drop_of_length-le d {i = i} (omega (arith, h, l))) ∙ append-nil (zeros i) ∙ ap (λ (j : ℕ). zeros j) k
