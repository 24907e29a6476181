-- Two byte strings compared: by index, what is left from i on; and by `==`.
use Prim.Native.Nat.{ℕ, ◌+◌, ◌≤◌, ◌<◌}
use mathlib.Core.Path.{◌≡◌, refl, ap}
use mathlib.Core.Bool.{Bool, true, false, ◌&&◌}
use mathlib.Core.List.{List, [], ◌∷◌}
use native.Mathlib.Numerals.{add-one}
use lib.ListN.{length, get_or, drop, drop_of_length-le}
use lib.Seq.{drop-cons}
use lib.Dec.{eqb}
use borrow.Author.Tests.{eq-eqb, ne_eqb}
use Rattle.std.specs.Cmp.Lexicographic.{pointwise}
use Rattle.iscc.specs.Lists.{same_bytes}

module _ (xs ys : List ℕ) (i : ℕ) where
  pub same_next : i < length xs → i < length ys → get_or xs i 0 ≡ get_or ys i 0 → same_bytes (drop i xs) (drop i ys) ≡ same_bytes (drop (i + 1) xs) (drop (i + 1) ys)
  unfolding same_bytes
  same_next h k e = rw (drop-cons xs i 0, drop-cons ys i 0, eq-eqb (get_or xs i 0) (get_or ys i 0) e, add-one)

  pub same_not : i < length xs → i < length ys → (get_or xs i 0 ≡ get_or ys i 0 → ⊥) → same_bytes (drop i xs) (drop i ys) ≡ false
  unfolding same_bytes
  same_not h k e = rw (drop-cons xs i 0, drop-cons ys i 0, ne_eqb (get_or xs i 0) (get_or ys i 0) e)

  pub same-shorter : length xs ≤ i → i < length ys → same_bytes (drop i xs) (drop i ys) ≡ false
  unfolding same_bytes
  same-shorter h k = rw (drop_of_length-le xs h, drop-cons ys i 0)

  pub same_end : length xs ≤ i → length ys ≤ i → same_bytes (drop i xs) (drop i ys) ≡ true
  unfolding same_bytes
  same_end h k = rw (drop_of_length-le xs h, drop_of_length-le ys k)

-- `==` of two slices
pub by_eq : (xs ys : List ℕ) → pointwise eqb xs ys ≡ same_bytes xs ys
unfolding same_bytes
by_eq [] [] = refl
by_eq [] (y ∷ ys) = refl
by_eq (x ∷ xs) [] = refl
by_eq (x ∷ xs) (y ∷ ys) = ap (λ (b : Bool). eqb x y && b) (by_eq xs ys)
