-- A number's digits.
use Prim.Native.Nat.{ℕ, zero, suc, ◌+◌, ◌*◌, ◌/◌, ◌%◌, ◌≤◌, ◌<◌, ◌^◌}
use mathlib.Core.Path.{◌≡◌, refl, sym, ◌∙◌, ap}
use mathlib.Core.List.{List, [], ◌∷◌, ◌++◌}
use native.Mathlib.Nat.{pow-suc}
use native.Mathlib.Omega.{arith}
use borrow.Author.Tests.{lt-ltb, le-ltb}
use Rattle.std.specs.Fmt.{decimal}
use Rattle.std.proofs.lemmas.Fmt.{decimal_by_steps}
use Rattle.answers.specs.Answers.{decimal_up_to, in_decimal}

pub digits_last : (k n : ℕ) → n < 10 → decimal_up_to k n ≡ (48 + n % 10) ∷ []
unfolding decimal_up_to
digits_last zero n h = refl
digits_last (suc k) n h = let e : n ≡ n % 10 = omega arith in rw (lt-ltb n 10 h) (ap (λ (m : ℕ). (48 + m) ∷ []) e)

pub digits_more : (k n : ℕ) → 10 ≤ n → decimal_up_to (suc k) n ≡ decimal_up_to k (n / 10) ++ ((48 + n % 10) ∷ [])
unfolding decimal_up_to
digits_more k n h = rw (le-ltb n 10 h)

-- the digits that are written are std's
pub decimal-is : (n : ℕ) → n < 2 ^ 64 → decimal n ≡ in_decimal n
unfolding in_decimal
decimal-is n h = decimal_by_steps (λ m ds. (k : ℕ) → m < 10 ^ suc k → ds ≡ decimal_up_to k m) one more n h 19 (omega (arith, h))
  where
    one : (m : ℕ) → m < 10 → (k : ℕ) → m < 10 ^ suc k → (48 + m) ∷ [] ≡ decimal_up_to k m
    one m l k s = let e : m ≡ m % 10 = omega arith in ap (λ (d : ℕ). (48 + d) ∷ []) e ∙ sym (digits_last k m l)

    more : (m : ℕ) (ds : List ℕ) → 10 ≤ m → ((k : ℕ) → m / 10 < 10 ^ suc k → ds ≡ decimal_up_to k (m / 10))
        → (k : ℕ) → m < 10 ^ suc k → ds ++ ((48 + m % 10) ∷ []) ≡ decimal_up_to k m
    more m ds l f zero s = absurd (omega (arith, s))
    more m ds l f (suc k) s =
        let p : 10 ^ suc (suc k) ≡ 10 ^ suc k * 10 = pow-suc 10 (suc k) in
        ap (λ (d : List ℕ). d ++ ((48 + m % 10) ∷ [])) (f k (omega (arith, s))) ∙ sym (digits_more k m l)
