-- The bits in which two numbers differ, by the count of ones of their exclusive or: once over the width, so that bytes and words
-- are counted alike.
use Prim.Native.Nat.{ℕ, zero, suc, ◌+◌, ◌*◌, ◌/◌, ◌%◌, ◌^◌, min, ◌≤◌, ◌<◌}
use mathlib.Core.Path.{◌≡◌, refl, sym, ◌∙◌, ap}
use mathlib.Core.Bool.{cond}
use mathlib.Core.List.{List, [], ◌∷◌, ◌++◌, reverse, reverse_aux}
use native.Mathlib.Nat.{mod-lt, mod-eq_of_lt, mod-one, add_assoc, add_comm, mul-suc, one-mul, suc_inj, suc-min-suc, not-suc-le-zero, le_of_suc-le-suc}
use native.Mathlib.Omega.{arith}
use lib.ListN.{length, take, drop, length-reverse}
use lib.Seq.{take-add, length-take-le}
use lib.Bits.{bit_xor, xor_lt, xor_block}
use lib.Count.{ones, ones_in, ones-le, ones_cat}
use lib.Pow.{pow_pos, mod-pow-add}
use lib.Dec.{eqb, lit<}
use Rattle.iscc.specs.Digits.{digits, value, Below}
use Rattle.iscc.specs.Distance.{bits_of, differing_positions, differing_bits}
use Rattle.iscc.proofs.Digits.{length_digits, value-lt}
use Rattle.iscc.proofs.Groups.{digits-join}

-- a bit is 0 or 1
two : (P : ℕ → Type 0) (n : ℕ) → n < 2 → P 0 → P 1 → P n
two P zero h a b = a
two P (suc zero) h a b = b
two P (suc (suc n)) h a b = absurd (not-suc-le-zero (le_of_suc-le-suc (le_of_suc-le-suc h)))

one_bit : (x y : ℕ) → x < 2 → y < 2 → ones (bit_xor x y) ≡ cond (eqb x y) 0 1
unfolding ones ones_in
one_bit x y hx hy =
    two (λ x. ones (bit_xor x y) ≡ cond (eqb x y) 0 1) x hx
    (two (λ y. ones (bit_xor 0 y) ≡ cond (eqb 0 y) 0 1) y hy refl refl)
    (two (λ y. ones (bit_xor 1 y) ≡ cond (eqb 1 y) 0 1) y hy refl refl)

zero-ones : ones 0 ≡ 0
unfolding ones ones_in
zero-ones = refl

one_more : (n : ℕ) → suc n ≡ 1 + n
one_more n = omega arith

-- the n low bits
pub ones-differ : (n x y : ℕ) → ones (bit_xor (x % 2 ^ n) (y % 2 ^ n)) ≡ differing_positions (digits 1 n x) (digits 1 n y)
unfolding digits differing_positions
ones-differ zero x y = rw (mod-one x, mod-one y) zero-ones
ones-differ (suc n) x y =
    let hx : ℕ = x / 2 ^ n % 2 in
    let hy : ℕ = y / 2 ^ n % 2 in
    let rx : x % 2 ^ n < 2 ^ n = mod-lt x (pow_pos n) in
    let ry : y % 2 ^ n < 2 ^ n = mod-lt y (pow_pos n) in
    let ex : x % 2 ^ suc n ≡ hx * 2 ^ n + x % 2 ^ n = ap (λ (k : ℕ). x % 2 ^ k) (one_more n) ∙ mod-pow-add x 1 n in
    let ey : y % 2 ^ suc n ≡ hy * 2 ^ n + y % 2 ^ n = ap (λ (k : ℕ). y % 2 ^ k) (one_more n) ∙ mod-pow-add y 1 n in
    rw (ex, ey, one-mul n, xor_block n hx hy (x % 2 ^ n) (y % 2 ^ n) rx ry)
    (ones_cat n (bit_xor hx hy) (bit_xor (x % 2 ^ n) (y % 2 ^ n)) (xor_lt n (x % 2 ^ n) (y % 2 ^ n) rx ry)
    ∙ rw (one_bit hx hy (mod-lt (x / 2 ^ n) (lit< tt)) (mod-lt (y / 2 ^ n) (lit< tt)), ones-differ n x y))

pub ones-most : (w x y : ℕ) → x < 2 ^ w → y < 2 ^ w → ones (bit_xor x y) ≤ w
ones-most w x y hx hy = ones-le w (bit_xor x y) (xor_lt w x y hx hy)

-- ---- two lists of bytes

positions-append : (xs ys us vs : List ℕ) → length xs ≡ length ys → differing_positions (xs ++ us) (ys ++ vs) ≡ differing_positions xs ys + differing_positions us vs
unfolding differing_positions
positions-append [] [] us vs h = omega arith
positions-append [] (y ∷ ys) us vs h = omega (arith, h)
positions-append (x ∷ xs) [] us vs h = omega (arith, h)
positions-append (x ∷ xs) (y ∷ ys) us vs h =
    ap (λ (k : ℕ). cond (eqb x y) 0 1 + k) (positions-append xs ys us vs (suc_inj h)) ∙ sym (add_assoc (cond (eqb x y) 0 1) (differing_positions xs ys) (differing_positions us vs))

differ-cons : (x y : ℕ) (xs ys : List ℕ) → differing_bits (x ∷ xs) (y ∷ ys) ≡ differing_positions (digits 1 8 x) (digits 1 8 y) + differing_bits xs ys
unfolding differing_bits bits_of
differ-cons x y xs ys = positions-append (digits 1 8 x) (digits 1 8 y) (bits_of xs) (bits_of ys) (length_digits 1 8 x ∙ sym (length_digits 1 8 y))

pub differ-none : (ys : List ℕ) → differing_bits [] ys ≡ 0
unfolding differing_bits bits_of differing_positions
differ-none ys = refl

differ-none' : (xs : List ℕ) → differing_bits xs [] ≡ 0
unfolding differing_bits bits_of differing_positions
differ-none' xs = go (bits_of xs)
  where
    go : (bs : List ℕ) → differing_positions bs [] ≡ 0
    go [] = refl
    go (b ∷ bs) = refl

differ-append : (xs ys us vs : List ℕ) → length xs ≡ length ys → differing_bits (xs ++ us) (ys ++ vs) ≡ differing_bits xs ys + differing_bits us vs
differ-append [] [] us vs h = rw (differ-none []) (omega arith)
differ-append [] (y ∷ ys) us vs h = omega (arith, h)
differ-append (x ∷ xs) [] us vs h = omega (arith, h)
differ-append (x ∷ xs) (y ∷ ys) us vs h =
    rw (differ-cons x y (xs ++ us) (ys ++ vs), differ-append xs ys us vs (suc_inj h), differ-cons x y xs ys) (sym (add_assoc _ _ _))

-- k more bytes of each
pub differ-more : (xs ys : List ℕ) (i k : ℕ) → i ≤ length xs → i ≤ length ys
    → differing_bits (take (i + k) xs) (take (i + k) ys) ≡ differing_bits (take i xs) (take i ys) + differing_bits (take k (drop i xs)) (take k (drop i ys))
differ-more xs ys i k hx hy =
    rw (take-add i k xs, take-add i k ys)
    (differ-append (take i xs) (take i ys) (take k (drop i xs)) (take k (drop i ys)) (length-take-le i xs hx ∙ sym (length-take-le i ys hy)))

-- as far as the shorter goes
pub differ-all : (xs ys : List ℕ) → differing_bits (take (min (length xs) (length ys)) xs) (take (min (length xs) (length ys)) ys) ≡ differing_bits xs ys
differ-all [] ys = let e : min 0 (length ys) ≡ 0 = omega arith in rw e (differ-none [] ∙ sym (differ-none ys))
differ-all (x ∷ xs) [] = let e : min (suc (length xs)) 0 ≡ 0 = omega arith in rw e (differ-none [] ∙ sym (differ-none' (x ∷ xs)))
differ-all (x ∷ xs) (y ∷ ys) = rw (suc-min-suc (length xs) (length ys), differ-cons x y (take (min (length xs) (length ys)) xs) (take (min (length xs) (length ys)) ys), differ-all xs ys) (sym (differ-cons x y xs ys))

-- ---- bytes as one number, in either order

no-digits : (v x : ℕ) → digits v 0 x ≡ []
unfolding digits
no-digits v x = refl

bits-value : (xs : List ℕ) → Below 256 xs → bits_of xs ≡ digits 1 (8 * length xs) (value 8 xs)
unfolding bits_of value
bits-value [] h = sym (no-digits 1 0)
bits-value (x ∷ xs) h =
    let k : ℕ = 8 * length xs in
    let l : value 8 xs < 2 ^ (1 * k) = rw (one-mul k) (value-lt 8 xs h.1) in
    let j = digits-join 1 8 k x (value 8 xs) l in
    rw (bits-value xs h.1, mul-suc 8 (length xs), add_comm k 8) (sym (rw (one-mul k) at j))

ones_value : (xs ys : List ℕ) → length xs ≡ length ys → Below 256 xs → Below 256 ys → ones (bit_xor (value 8 xs) (value 8 ys)) ≡ differing_bits xs ys
unfolding differing_bits
ones_value xs ys e hx hy =
    let n : ℕ = 8 * length xs in
    let lx : value 8 xs < 2 ^ n = value-lt 8 xs hx in
    let ly : value 8 ys < 2 ^ n = rw e (value-lt 8 ys hy) in
    let p = ones-differ n (value 8 xs) (value 8 ys) in
    rw (bits-value xs hx, bits-value ys hy, ← e) (rw (mod-eq_of_lt lx, mod-eq_of_lt ly) at p)

differ-reversed : (xs ys us vs : List ℕ) → length xs ≡ length ys → differing_bits (reverse_aux xs us) (reverse_aux ys vs) ≡ differing_bits xs ys + differing_bits us vs
differ-reversed [] [] us vs h = rw (differ-none []) (omega arith)
differ-reversed [] (y ∷ ys) us vs h = omega (arith, h)
differ-reversed (x ∷ xs) [] us vs h = omega (arith, h)
differ-reversed (x ∷ xs) (y ∷ ys) us vs h =
    differ-reversed xs ys (x ∷ us) (y ∷ vs) (suc_inj h) ∙ rw (differ-cons x y us vs, differ-cons x y xs ys) (omega arith)

below-reversed : (b : ℕ) (xs us : List ℕ) → Below b xs → Below b us → Below b (reverse_aux xs us)
below-reversed b [] us h k = k
below-reversed b (x ∷ xs) us h k = below-reversed b xs (x ∷ us) h.1 (h.0, k)

-- bytes as numbers of any width, the first byte of each the lowest
pub ones-reverse : (xs ys : List ℕ) → length xs ≡ length ys → Below 256 xs → Below 256 ys → ones (bit_xor (value 8 (reverse xs)) (value 8 (reverse ys))) ≡ differing_bits xs ys
ones-reverse xs ys e hx hy =
    ones_value (reverse xs) (reverse ys) (length-reverse xs ∙ e ∙ sym (length-reverse ys)) (below-reversed 256 xs [] hx tt) (below-reversed 256 ys [] hy tt)
    ∙ differ-reversed xs ys [] [] e ∙ rw (differ-none []) (omega arith)
