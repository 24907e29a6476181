-- Two functions that antt computes to be the same on a range agree there.
use Prim.Native.Nat.{ℕ, ◌+◌, ◌-◌, ◌≤◌, ◌<◌}
use mathlib.Core.Path.{◌≡◌}
use mathlib.Core.Bool.{true}
use native.Mathlib.Omega.{arith}
use lib.Dec.{eqb}
use borrow.Author.Tests.{eqb-true}
use Rattle.iscc.proofs.Table.{up_to, at}

pub agree : (f g : ℕ → ℕ) (k n : ℕ) → up_to n (λ j. eqb (f (k + j)) (g (k + j))) ≡ true → (i : ℕ) → k ≤ i → i < k + n → f i ≡ g i
agree f g k n t i low high =
    let j : ℕ = i - k in
    let e : k + j ≡ i = omega arith in
    rw e at (eqb-true (f (k + j)) (g (k + j)) (at n (λ j. eqb (f (k + j)) (g (k + j))) t j (omega arith)))
