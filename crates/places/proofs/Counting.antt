-- The counts as code reads and writes them: a number in two bytes, and one code more or less.
use Prim.Native.Nat.{ℕ, suc, ◌+◌, ◌-◌, ◌*◌, ◌/◌, ◌%◌, ◌≤◌, ◌<◌}
use mathlib.Core.Path.{◌≡◌, ◌∙◌}
use mathlib.Core.List.{List, [], ◌∷◌, ◌++◌}
use Rattle.std.specs.Int.{w16, to_be_bytes, from_be_bytes}
use native.Mathlib.Nat.{div-one}
use native.Mathlib.Numerals.{add-one}
use native.Mathlib.Omega.{arith}
use lib.ListN.{length, get_or, take, drop}
use lib.Seq.{drop-cons, drop-drop}
use Rattle.iscc.specs.Digits.{digits, value}
use Rattle.loans.specs.Moves.{pasted, number_at, with_number, one_more, one_less}

-- ---- one number

two_digits : (n m : ℕ) → m ≡ n % 65536 → to_be_bytes w16 m ≡ digits 8 2 n
unfolding digits
two_digits n m e =
    let a : m / 256 % 256 ≡ n / 256 % 256 = omega (arith, e) in
    let b : m % 256 ≡ n % 256 = omega (arith, e) in
    rw (div-one n, a, b)

module _ (bs : List ℕ) (i : ℕ) (l : length bs ≡ 16) (h : i < 8) where
  two_bytes : take 2 (drop (2 * i) bs) ≡ get_or bs (2 * i) 0 ∷ get_or bs (2 * i + 1) 0 ∷ []
  two_bytes =
      let p : 2 * i < length bs = omega arith in
      let q : suc (2 * i) < length bs = omega arith in
      rw (drop-cons bs (2 * i) 0 p, drop-cons bs (suc (2 * i)) 0 q, ← add-one (2 * i))

  pub number_read : (r : ℕ) → r ≡ from_be_bytes w16 (get_or bs (2 * i) 0 ∷ get_or bs (2 * i + 1) 0 ∷ []) → r ≡ number_at i bs
  unfolding number_at value
  number_read r e = e ∙ rw two_bytes (omega arith)

  pub number-written : (n m : ℕ) (e d : List ℕ) → m ≡ n % 65536 → e ≡ to_be_bytes w16 m → d ≡ e
      → take (2 * i) bs ++ (d ++ drop (2 * i + 2 - 2 * i) (drop (2 * i) bs)) ≡ with_number i n bs
  unfolding with_number pasted
  number-written n m e d k p q =
      let j : 2 * i + 2 - 2 * i ≡ 2 = omega arith in
      rw (← two_digits n m k, q, p, j, drop-drop 2 (2 * i) bs)

-- ---- one code more, and one less

pub one-at-least : (bs : List ℕ) (m type : ℕ) → type ≡ number_at (m + 1) bs → 0 < number_at (suc m) bs → 1 ≤ type
one-at-least bs m type e h = rw (e, add-one m) h

module _ (bs e d : List ℕ) (m k out type : ℕ) (n : k ≡ m + 1) (p : type ≡ number_at k bs) (q : out ≡ number_at 0 bs) where
  pub counted-more : e ≡ with_number 0 (out + 1) bs → d ≡ with_number k (type + 1) e → d ≡ one_more m bs
  unfolding one_more
  counted-more f g = g ∙ rw (f, p, q, n, add-one m, add-one (number_at (suc m) bs), add-one (number_at 0 bs))

  pub counted-less : e ≡ with_number 0 (out - 1) bs → d ≡ with_number k (type - 1) e → d ≡ one_less m bs
  unfolding one_less
  counted-less f g = g ∙ rw (f, p, q, n, add-one m)
