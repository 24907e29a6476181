-- A number read from the left and written from the right, one byte more.
use Prim.Native.Nat.{ℕ, suc, ◌+◌, ◌-◌, ◌*◌, ◌/◌, ◌%◌, ◌^◌, ◌≤◌, ◌<◌}
use mathlib.Core.Path.{◌≡◌, ◌∙◌, ap}
use mathlib.Core.List.{List, [], ◌∷◌, ◌++◌, append_assoc, append-nil}
use native.Mathlib.Numerals.{add-one}
use native.Mathlib.Omega.{arith}
use native.Mathlib.Nat.{mod-eq_of_lt, lt_of_lt_of_le, pow-le-pow_right}
use lib.ListN.{length, get_or, take, set}
use lib.Pow.{shr-shr}
use lib.Seq.{take-suc, take-length, length-take-le, set_at}
use lib.Dec.{lit<}
use Rattle.iscc.specs.Digits.{Below, digits, value}
use Rattle.iscc.proofs.Digits.{value-snoc, value-digits, value-lt}

-- the value of the first i bytes, by 32 bits
pub read_more : (xs : List ℕ) (i v d r : ℕ) → i < length xs → v ≡ value 8 (take i xs) % 2 ^ 32 → d ≡ get_or xs i 0 → d < 256
    → r ≡ v % 16777216 * 256 + d → r ≡ value 8 (take (i + 1) xs) % 2 ^ 32
read_more xs i v d r h e f l g =
    let t : take (i + 1) xs ≡ take i xs ++ (d ∷ []) = rw (add-one, take-suc xs i 0, f) in
    let w : value 8 (take (i + 1) xs) ≡ value 8 (take i xs) * 2 ^ 8 + d = ap (value 8) t ∙ value-snoc 8 (take i xs) d in
    rw w (next (value 8 (take i xs)) e)
  where
    next : (n : ℕ) → v ≡ n % 2 ^ 32 → r ≡ (n * 2 ^ 8 + d) % 2 ^ 32
    next n p = omega (arith, p, g, l)

-- the part of which the bytes from i on are written, and what is left of the number
pub record FilledFrom (number : ℕ) (d part : List ℕ) (rest i : ℕ) : Type 0 where
  pub within : i ≤ length d
  pub is : part ≡ take i d ++ digits 8 (length d - i) number
  pub left : rest ≡ number / 2 ^ (8 * (length d - i))

pub none_filled : (number : ℕ) (d : List ℕ) → FilledFrom number d d number (length d)
unfolding digits
none_filled number d =
    let z : length d - length d ≡ 0 = omega arith in
    record { within = omega arith; is = rw (z, take-length d, append-nil d); left = rw z (omega arith) }

pub one-filled : {number : ℕ} {d part : List ℕ} {rest i : ℕ} (b : ℕ) → FilledFrom number d part rest i → 0 < i → b ≡ rest % 256
    → FilledFrom number d (set part (i - 1) b) (rest / 256) (i - 1)
unfolding digits
one-filled {number} {d} {part} {rest} {i} b f h e =
    let k : ℕ = length d - i in
    let n : length d - (i - 1) ≡ suc k = omega (arith, f.within) in
    let j : i ≡ suc (i - 1) = omega arith in
    let p : b ≡ number / 2 ^ (8 * k) % 2 ^ 8 = e ∙ ap (λ (x : ℕ). x % 256) f.left in
    let l : length (take (i - 1) d) ≡ i - 1 = length-take-le (i - 1) d (omega (arith, f.within)) in
    let t : take i d ≡ take (i - 1) d ++ (get_or d (i - 1) 0 ∷ []) = ap (λ (x : ℕ). take x d) j ∙ take-suc d (i - 1) 0 (omega (arith, f.within)) in
    let q : part ≡ take (i - 1) d ++ (get_or d (i - 1) 0 ∷ digits 8 k number) =
    f.is ∙ rw t (append_assoc (take (i - 1) d) (get_or d (i - 1) 0 ∷ []) (digits 8 k number)) in
    record {
      within = omega (arith, f.within);
      is =
          ap (λ (x : List ℕ). set x (i - 1) b) q
          ∙ set_at (take (i - 1) d) (get_or d (i - 1) 0) (digits 8 k number) b (i - 1) l ∙ rw (n, p);
      left = rw n (ap (λ (x : ℕ). x / 2 ^ 8) f.left ∙ shr-shr number (8 * k) 8 ∙ ap (λ (x : ℕ). number / 2 ^ x) (omega arith));
    }

-- what is written to four bytes reads back, and a part of at most four bytes reads as it stands
pub four-back : (n : ℕ) → n < 2 ^ 32 → value 8 (digits 8 4 n) % 2 ^ 32 ≡ n
four-back n h = rw (value-digits 8 4 n) (mod-eq_of_lt (mod-lt n h) ∙ mod-eq_of_lt h)
  where
    mod-lt : (n : ℕ) → n < 2 ^ 32 → n % 2 ^ 32 < 2 ^ 32
    mod-lt n h = omega arith

pub short-number : (bs : List ℕ) → Below 256 bs → length bs ≤ 4 → value 8 bs % 2 ^ 32 ≡ value 8 bs
short-number bs b h =
    let n : 8 * length bs ≤ 32 = omega arith in
    mod-eq_of_lt (lt_of_lt_of_le (value-lt 8 bs b) (pow-le-pow_right (lit< tt) n))
