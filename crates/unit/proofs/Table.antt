-- The bytes of a composite's body, and the table's test by its parts.
use Prim.Native.Nat.{ℕ, ◌*◌, ◌≤◌}
use mathlib.Core.Path.{◌≡◌, refl, sym, ◌∙◌, ap}
use mathlib.Core.Bool.{Bool, true, false, cond, and-true, and-false}
use native.Mathlib.Omega.{arith}
use lib.Dec.{eqb}
use Rattle.iscc.specs.Permitted.{MainType, is_wide, row, permits, sets, set_of, unit_count, body_bytes}
use Rattle.iscc.specs.declared.main_type.Name.TheVariants.{Iscc}
use Rattle.iscc.proofs.Permitted.{wide-numbers, count_most}

units-bytes : (s l k : ℕ) (b : Bool) → is_wide s l ≡ b → k ≡ unit_count (set_of l) → (k * cond b 16 8 ≡ cond b 32 (unit_count (set_of l) * 8)) × (k * cond b 16 8 ≤ 40)
unfolding set_of sets
units-bytes s l k true w g =
    let two : k ≡ 2 = g ∙ ap (λ (n : ℕ). unit_count (set_of n)) (wide-numbers s l w).1 in
    (omega (arith, two), omega (arith, two))
units-bytes s l k false w g = (rw g, omega (arith, g, count_most (set_of l)))

pub body-units : (s l k u : ℕ) → k ≡ unit_count (set_of l) → u ≡ cond (is_wide s l) 16 8 → (k * u ≡ body_bytes Iscc s l) × (k * u ≤ 40)
unfolding body_bytes
body-units s l k u g e = rw e (units-bytes s l k (is_wide s l) refl g)

-- the definition tests the version before the row
module _ (m : MainType) (s v l : ℕ) where
  pub permits-not : {r : Bool} → r ≡ row m s l → r ≡ false → false ≡ permits m s v l
  permits-not e n = sym (rw (← e, n) (and-false (eqb v 0)))

  pub permits-version : {r : Bool} → r ≡ row m s l → r ≡ true → eqb v 0 ≡ permits m s v l
  permits-version e n = sym (rw (← e, n) (and-true (eqb v 0)))
