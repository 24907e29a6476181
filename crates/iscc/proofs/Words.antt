-- std's numbers of eight bytes, and a slice in parts of n elements.
use Prim.Native.Nat.{ℕ, zero, suc, ◌+◌, ◌-◌, ◌*◌, ◌/◌, ◌^◌, ◌≤◌, ◌<◌}
use mathlib.Core.Path.{◌≡◌, refl, sym, ◌∙◌, ap}
use mathlib.Core.List.{List, [], ◌∷◌, ◌++◌}
use native.Mathlib.Nat.{mul-suc}
use native.Mathlib.Omega.{arith}
use lib.ListN.{length, get_or, take, drop}
use lib.Seq.{drop-drop, drop_at, take_all}
use Rattle.std.specs.Int.{w64, from_be_bytes, to_be_bytes}
use Rattle.std.specs.Simd.{first_chunks}
use Rattle.iscc.specs.Digits.{digits, value}
use Rattle.iscc.proofs.Digits.{length_digits, digits_append}

-- ---- the eight bytes of a number

eight : (v : ℕ) → to_be_bytes w64 v ≡ digits 8 8 v
unfolding digits
eight v = let e : v / 1 ≡ v = omega arith in rw e

-- the last n of them
pub low-bytes : (bs : List ℕ) (v n : ℕ) → n ≤ 8 → bs ≡ to_be_bytes w64 v → take (8 - (8 - n)) (drop (8 - n) bs) ≡ digits 8 n v
low-bytes bs v n l e =
    let a : 8 - n + n ≡ 8 = omega arith in
    let b : 8 - (8 - n) ≡ n = omega arith in
    let s : bs ≡ digits 8 (8 - n) (v / 2 ^ (8 * n)) ++ digits 8 n v = e ∙ eight v ∙ ap (λ (k : ℕ). digits 8 k v) (sym a) ∙ digits_append 8 (8 - n) n v in
    rw (b, s, drop_at (digits 8 (8 - n) (v / 2 ^ (8 * n))) (digits 8 n v) (8 - n) (length_digits 8 (8 - n) (v / 2 ^ (8 * n))))
    (take_all n (digits 8 n v) (omega (arith, length_digits 8 n v)))

pub word-of : (bs : List ℕ) → length bs ≡ 8 → from_be_bytes w64 bs ≡ value 8 bs
unfolding value
word-of (a ∷ b ∷ c ∷ d ∷ e ∷ f ∷ g ∷ h ∷ []) n = omega arith
word-of [] n = absurd (omega (arith, n))
word-of (a ∷ []) n = absurd (omega (arith, n))
word-of (a ∷ b ∷ []) n = absurd (omega (arith, n))
word-of (a ∷ b ∷ c ∷ []) n = absurd (omega (arith, n))
word-of (a ∷ b ∷ c ∷ d ∷ []) n = absurd (omega (arith, n))
word-of (a ∷ b ∷ c ∷ d ∷ e ∷ []) n = absurd (omega (arith, n))
word-of (a ∷ b ∷ c ∷ d ∷ e ∷ f ∷ []) n = absurd (omega (arith, n))
word-of (a ∷ b ∷ c ∷ d ∷ e ∷ f ∷ g ∷ []) n = absurd (omega (arith, n))
word-of (a ∷ b ∷ c ∷ d ∷ e ∷ f ∷ g ∷ h ∷ i ∷ bs) n = absurd (omega (arith, n))

-- ---- part i of k

pub chunk_at : (n : ℕ) (xs d : List ℕ) (i k : ℕ) → i < k → get_or (first_chunks n k xs) i d ≡ take n (drop (n * i) xs)
chunk_at n xs d i zero h = absurd (omega arith)
chunk_at n xs d zero (suc k) h = let z : n * 0 ≡ 0 = omega arith in rw z
chunk_at n xs d (suc i) (suc k) h =
    let e : n * suc i ≡ n * i + n = rw mul-suc (omega arith) in
    chunk_at n (drop n xs) d i k (omega arith) ∙ ap (take n) (drop-drop (n * i) n xs) ∙ rw e (ap (λ (j : ℕ). take n (drop j xs)) (omega arith))
