-- The alphabet's characters by two ranges, and the spare bits by the last digit.
use Prim.Native.Nat.{ℕ, zero, suc, ◌+◌, ◌-◌, ◌*◌, ◌/◌, ◌%◌, ◌^◌, ◌≤◌, ◌<◌, max}
use mathlib.Core.Path.{◌≡◌, refl, sym, ◌∙◌, ap}
use mathlib.Core.Bool.{Bool, true, false, cond, not, ◌&&◌, and-false}
use mathlib.Core.List.{List, [], ◌∷◌, map}
use native.Mathlib.Nat.{mul-add-mod_self_right, zero-mul, one-mul, zero-mod}
use native.Mathlib.Omega.{arith}
use Rattle.std.specs.Int.{from_be_bytes, w64}
use Rattle.std.specs.List.{position_or_len, prefix_len}
use Rattle.std.specs.Option.{unwrap_or}
use Rattle.std.proofs.lemmas.List.Sums.{prefix_len-le-length}
use Rattle.std.specs.Prelude.{Option, Some, None}
use Rattle.iscc.specs.Lists.{first_not}
use Rattle.iscc.proofs.FirstNot.{Largest, largest-new, largest-kept}
use lib.Bits.{bit_and}
use lib.Dec.{ltb, leb, eqb, lit<}
use lib.ListN.{length, take, get_or, length-map}
use lib.Pow.{pow-add, shl_exact}
use lib.Seq.{take-suc, take_all}
use borrow.Author.Tests.{eqb-true, lt-leb, le-leb, ltb-true, ltb-false}
use Rattle.iscc.specs.Alphabet.{upper, index_of, digit_in, is_digit}
use Rattle.iscc.specs.Base32.{base32}
use Rattle.iscc.specs.Digits.{value, Below, all_below, spare_count}
use Rattle.iscc.proofs.Digits.{value-snoc, below_at}
use Rattle.iscc.proofs.Lists.{map_at}
use Rattle.iscc.proofs.Table.{up_to, at}

-- 0 from a to b, else 1
abbrev pub outside_range : ℕ → ℕ → ℕ → ℕ
outside_range c a b = cond (leb a c && leb c b) 0 1

pub below-range : (c a b : ℕ) → c < a → 1 ≡ outside_range c a b
below-range c a b h = rw (lt-leb a c h)

pub above-range : (c a b : ℕ) → b < c → 1 ≡ outside_range c a b
above-range c a b h = rw (lt-leb c b h, and-false (leb a c))

pub in-range : (c a b : ℕ) → a ≤ c → c ≤ b → 0 ≡ outside_range c a b
in-range c a b h k = rw (le-leb a c h, le-leb c b k)

pub small_product : (a b : ℕ) → a ≤ 1 → b ≤ 1 → a * b ≤ 1
small_product zero b h k = rw (zero-mul b) (omega arith)
small_product (suc zero) b h k = rw (one-mul b) k
small_product (suc (suc a)) b h k = absurd (omega (arith, h))

agrees : ℕ → Bool
agrees c = eqb (outside_range (bit_and c 223) 65 90 * outside_range c 50 55) (cond (ltb (digit_in base32 c) 32) 0 1)

computed : up_to 256 agrees ≡ true
unfolding up_to agrees upper index_of digit_in base32
computed = refl

pub outside-is : (c : ℕ) → c < 256 → outside_range (bit_and c 223) 65 90 * outside_range c 50 55 ≡ cond (ltb (digit_in base32 c) 32) 0 1
unfolding agrees
outside-is c h = eqb-true (outside_range (bit_and c 223) 65 90 * outside_range c 50 55) (cond (ltb (digit_in base32 c) 32) 0 1) (at 256 agrees computed c h)

-- no character is outside
pub all-inside : (t : List ℕ) → all_below 1 (map (λ c. cond (ltb (digit_in base32 c) 32) 0 1) t) ≡ all_below 32 (map (digit_in base32) t)
unfolding all_below
all-inside [] = refl
all-inside (c ∷ t) = go (ltb (digit_in base32 c) 32) (all-inside t)
  where
    go : (b : Bool) → all_below 1 (map (λ c. cond (ltb (digit_in base32 c) 32) 0 1) t) ≡ all_below 32 (map (digit_in base32) t) →
        (ltb (cond b 0 1) 1 && all_below 1 (map (λ c. cond (ltb (digit_in base32 c) 32) 0 1) t)) ≡ (b && all_below 32 (map (digit_in base32) t))
    go true ih = ih
    go false ih = refl

-- the last k bits of a number are those of its last digit, if that has so many
pub last-bits : (v k : ℕ) (ds : List ℕ) → 0 < length ds → k ≤ v → value v ds % 2 ^ k ≡ get_or ds (length ds - 1) 0 % 2 ^ k
last-bits v k ds h l =
    let i : ℕ = length ds - 1 in
    let d : ℕ = get_or ds i 0 in
    let s : take (suc i) ds ≡ ds = take_all (suc i) ds (omega arith) in
    let e : value v ds ≡ value v (take i ds) * 2 ^ v + d = ap (value v) (sym s ∙ take-suc ds i 0 (omega arith)) ∙ value-snoc v (take i ds) d in
    let p : 2 ^ v ≡ 2 ^ (v - k) * 2 ^ k = let n : v ≡ (v - k) + k = omega arith in ap (λ (j : ℕ). 2 ^ j) n ∙ pow-add 2 (v - k) k in
    let q : value v ds ≡ value v (take i ds) * 2 ^ (v - k) * 2 ^ k + d = e ∙ rw p (omega arith) in
    ap (λ (x : ℕ). x % 2 ^ k) q ∙ mul-add-mod_self_right (value v (take i ds) * 2 ^ (v - k)) (2 ^ k) d

rest-spare : (n : ℕ) → n % 8 * 5 % 8 ≡ spare_count 5 n
unfolding spare_count
rest-spare n =
    let e : n / 8 * 5 * 8 + n % 8 * 5 ≡ 5 * n = omega arith in
    sym (mul-add-mod_self_right (n / 8 * 5) 8 (n % 8 * 5)) ∙ ap (λ (x : ℕ). x % 8) e

-- the spare bits of a text

pub empty-spare : (t : List ℕ) → length t ≡ 0 → 0 ≡ value 5 (map (digit_in base32) t) % 2 ^ spare_count 5 (length t)
unfolding value
empty-spare [] e = sym (zero-mod _)
empty-spare (c ∷ t) e = absurd (omega (arith, e))

module _ (t : List ℕ) (c : ℕ) (some : 0 < length t) (last : c ≡ get_or t (length t - 1) 0) where
  digit-is : get_or (map (digit_in base32) t) (length t - 1) 0 ≡ digit_in base32 c
  digit-is = map_at (digit_in base32) t (length t - 1) 0 0 (omega arith) ∙ ap (digit_in base32) (sym last)

  pub last-below : Below 32 (map (digit_in base32) t) → digit_in base32 c < 32
  last-below b = rw digit-is at (below_at 32 (map (digit_in base32) t) (length t - 1) b (omega (arith, length-map t (digit_in base32))))

  pub last-spare : (d : ℕ) → spare_count 5 (length t) < 5 → d ≡ digit_in base32 c
      → d % (1 * 2 ^ (length t % 8 * 5 % 8) % 18446744073709551616) ≡ value 5 (map (digit_in base32) t) % 2 ^ spare_count 5 (length t)
  last-spare d l e =
      let n : ℕ = length t in
      let len : length (map (digit_in base32) t) ≡ n = length-map t (digit_in base32) in
      let k : n % 8 * 5 % 8 ≡ spare_count 5 n = rest-spare n in
      let o : 1 * 2 ^ spare_count 5 n % 2 ^ 64 ≡ 2 ^ spare_count 5 n = shl_exact 1 (spare_count 5 n) 64 (omega arith) (omega arith) ∙ one-mul (2 ^ spare_count 5 n) in
      rw (k, o) (sym (rw (len, digit-is ∙ sym e) at (last-bits 5 (spare_count 5 n) (map (digit_in base32) t) (omega arith) (omega arith))))

-- ---- loops over a text

-- the larger of the largest answer so far and the next
pub largest-next : {f : ℕ → ℕ} {b : ℕ} {xs : List ℕ} {i m : ℕ} (d r : ℕ) → Largest f b xs i m → i < length xs → d ≡ f (get_or xs i 0) → r ≡ max m d → Largest f b xs (i + 1) r
largest-next {f} {b} {xs} {i} {m} d r s l e p = go (ltb m d) refl
  where
    go : (t : Bool) → ltb m d ≡ t → Largest f b xs (i + 1) r
    go true h = let q : r ≡ d = omega (arith, p, ltb-true m d h) in rw q (largest-new d s l e (ltb-true m d h))
    go false h = let q : r ≡ m = omega (arith, p, ltb-false m d h) in rw q (largest-kept d s l e (ltb-false m d h))

-- five bytes behind three zeros
pub five-bytes : (bs : List ℕ) → length bs ≡ 5
    → from_be_bytes w64 (0 ∷ 0 ∷ 0 ∷ get_or bs 0 0 ∷ get_or bs 1 0 ∷ get_or bs 2 0 ∷ get_or bs 3 0 ∷ get_or bs 4 0 ∷ []) ≡ value 8 bs
unfolding value
five-bytes (a ∷ b ∷ c ∷ d ∷ e ∷ []) n = omega arith
five-bytes [] n = absurd (omega (arith, n))
five-bytes (a ∷ []) n = absurd (omega (arith, n))
five-bytes (a ∷ b ∷ []) n = absurd (omega (arith, n))
five-bytes (a ∷ b ∷ c ∷ []) n = absurd (omega (arith, n))
five-bytes (a ∷ b ∷ c ∷ d ∷ []) n = absurd (omega (arith, n))
five-bytes (a ∷ b ∷ c ∷ d ∷ e ∷ f ∷ bs) n = absurd (omega (arith, n))

-- a digit has bits
pub five : 0 < base32.bits
unfolding base32
five = lit< tt

-- the place of the first character outside the alphabet
place-is : (t : List ℕ) → prefix_len (λ d. not (leb 32 (digit_in base32 d))) t ≡ first_not (is_digit base32) t
unfolding first_not base32
place-is [] = refl
place-is (c ∷ t) = go (ltb (digit_in base32 c) 32) refl (place-is t)
  where
    go : (b : Bool) → ltb (digit_in base32 c) 32 ≡ b → prefix_len (λ d. not (leb 32 (digit_in base32 d))) t ≡ first_not (is_digit base32) t
        → prefix_len (λ d. not (leb 32 (digit_in base32 d))) (c ∷ t) ≡ cond b (suc (first_not (is_digit base32) t)) 0
    go true e ih = rw (lt-leb 32 (digit_in base32 c) (ltb-true (digit_in base32 c) 32 e), ih) (omega arith)
    go false e ih = rw (le-leb 32 (digit_in base32 c) (ltb-false (digit_in base32 c) 32 e))

pub position-is : (t : List ℕ) (r : Option ℕ) → r ≡ cond (ltb (position_or_len (λ d. leb 32 (digit_in base32 d)) t) (length t)) (Some (position_or_len (λ d. leb 32 (digit_in base32 d)) t)) None
    → unwrap_or r (length t) ≡ first_not (is_digit base32) t
position-is t r e = rw e (go (ltb (position_or_len (λ d. leb 32 (digit_in base32 d)) t) (length t)) refl)
  where
    go : (b : Bool) → ltb (position_or_len (λ d. leb 32 (digit_in base32 d)) t) (length t) ≡ b
        → unwrap_or (cond b (Some (position_or_len (λ d. leb 32 (digit_in base32 d)) t)) None) (length t) ≡ first_not (is_digit base32) t
    go true h = place-is t
    go false h =
        let n : length t ≤ prefix_len (λ d. not (leb 32 (digit_in base32 d))) t = ltb-false (position_or_len (λ d. leb 32 (digit_in base32 d)) t) (length t) h in
        let m : prefix_len (λ d. not (leb 32 (digit_in base32 d))) t ≤ length t = prefix_len-le-length (λ d. not (leb 32 (digit_in base32 d))) t in
        let q : length t ≡ prefix_len (λ d. not (leb 32 (digit_in base32 d))) t = omega arith in
        q ∙ place-is t
