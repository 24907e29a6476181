-- Numbers whose digits are worked on all at once: masks, sums and multiples by digit, and neighbours joined.
use Prim.Native.Nat.{ℕ, suc, ◌+◌, ◌-◌, ◌*◌, ◌/◌, ◌%◌, ◌^◌, ◌≤◌, ◌<◌}
use mathlib.Core.Path.{◌≡◌, refl, sym, ◌∙◌, ap, ap₂}
use mathlib.Core.Bool.{Bool, true, not, ◌&&◌, ◌||◌}
use mathlib.Core.List.{List, [], ◌∷◌, map}
use native.Mathlib.Nat.{mod-eq_of_lt, mod-lt, mul-suc, add_comm, lt_of_lt_of_le}
use native.Mathlib.Omega.{arith}
use lib.Arith.{digits_lt}
use lib.Bits.{bit_and, and_block, and_mask, and_zero_r, and_le_r}
use lib.Dec.{ltb, eqb}
use lib.ListN.{length, length-map}
use lib.Pow.{pow_pos, pow_mono, pow-add, shr_lt, shl-shr, high, low, split, ones_lt}
use borrow.Author.Tests.{lt-ltb, eqb-true}
use Rattle.iscc.specs.Alphabet.{upper, index_of, digit_in}
use Rattle.iscc.specs.Base32.{base32}
use Rattle.iscc.specs.Digits.{value, Below}
use Rattle.iscc.proofs.Booleans.{both_true}
use Rattle.iscc.proofs.Digits.{value-lt}
use Rattle.iscc.proofs.Table.{up_to, at}

below-same : (b m : ℕ) (xs : List ℕ) → m < b → Below b (map (λ _. m) xs)
below-same b m [] h = tt
below-same b m (x ∷ xs) h = (h, below-same b m xs h)

below_wider : (b c : ℕ) (xs : List ℕ) → b ≤ c → Below b xs → Below c xs
below_wider b c [] l h = tt
below_wider b c (x ∷ xs) l h = (omega (arith, h.0), below_wider b c xs l h.1)

-- a mask that is the same for each digit
pub masked : (v m : ℕ) (xs : List ℕ) → m < 2 ^ v → Below (2 ^ v) xs → bit_and (value v xs) (value v (map (λ _. m) xs)) ≡ value v (map (λ x. bit_and x m) xs)
unfolding value
masked v m [] h b = refl
masked v m (x ∷ xs) h b =
    let k : ℕ = v * length xs in
    let l : value v (map (λ _. m) xs) < 2 ^ k = rw (length-map xs (λ (_ : ℕ). m)) at (value-lt v (map (λ _. m) xs) (below-same (2 ^ v) m xs h)) in
    rw (length-map xs (λ (_ : ℕ). m), length-map xs (λ (y : ℕ). bit_and y m), and_block k x m (value v xs) (value v (map (λ _. m) xs)) (value-lt v xs b.1) l, masked v m xs h b.1)

-- ---- a digit's byte by the bits of its character

agrees : ℕ → Bool
agrees c = not (ltb (digit_in base32 c) 32) || (eqb (bit_and c 31 + 8) (digit_in base32 c + c / 64 * 9) && eqb (bit_and c 64) (c / 64 * 64))

computed : up_to 256 agrees ≡ true
unfolding up_to agrees upper index_of digit_in base32
computed = refl

pub by_bits : (c : ℕ) → c < 256 → digit_in base32 c < 32 → (bit_and c 31 + 8 ≡ digit_in base32 c + c / 64 * 9) × (bit_and c 64 ≡ c / 64 * 64)
unfolding agrees
by_bits c h d =
    let p = both_true (eqb (bit_and c 31 + 8) (digit_in base32 c + c / 64 * 9)) (eqb (bit_and c 64) (c / 64 * 64)) (rw (lt-ltb (digit_in base32 c) 32 d) at (at 256 agrees computed c h)) in
    (eqb-true (bit_and c 31 + 8) (digit_in base32 c + c / 64 * 9) p.0, eqb-true (bit_and c 64) (c / 64 * 64) p.1)

-- the same digit as often as in another list
same_digits : (v m : ℕ) (xs ys : List ℕ) → length xs ≡ length ys → value v (map (λ _. m) xs) ≡ value v (map (λ _. m) ys)
unfolding value
same_digits v m [] [] e = refl
same_digits v m [] (y ∷ ys) e = absurd (omega (arith, e))
same_digits v m (x ∷ xs) [] e = absurd (omega (arith, e))
same_digits v m (x ∷ xs) (y ∷ ys) e =
    let l : length xs ≡ length ys = omega (arith, e) in
    rw (length-map xs (λ (_ : ℕ). m), length-map ys (λ (_ : ℕ). m), l, same_digits v m xs ys l)

low_bits : (xs : List ℕ) → Below 256 xs → Below 32 (map (digit_in base32) xs) →
    value 8 (map (λ x. bit_and x 31) xs) + value 8 (map (λ _. 8) xs) ≡ value 8 (map (digit_in base32) xs) + value 8 (map (λ x. x / 64) xs) * 9
unfolding value
low_bits [] h d = refl
low_bits (x ∷ xs) h d =
    let ih = low_bits xs h.1 d.1 in
    let p : ℕ = 2 ^ (8 * length xs) in
    let q : (bit_and x 31 + 8) * p ≡ (digit_in base32 x + x / 64 * 9) * p = ap (λ (k : ℕ). k * p) (by_bits x h.0 d.0).0 in
    rw (length-map xs (λ (y : ℕ). bit_and y 31), length-map {B = ℕ} xs (λ (_ : ℕ). 8), length-map xs (digit_in base32), length-map xs (λ (y : ℕ). y / 64)) (omega (arith, ih, q))

top-bits : (xs : List ℕ) → Below 256 xs → Below 32 (map (digit_in base32) xs) → value 8 (map (λ x. bit_and x 64) xs) ≡ value 8 (map (λ x. x / 64) xs) * 64
unfolding value
top-bits [] h d = refl
top-bits (x ∷ xs) h d =
    let ih = top-bits xs h.1 d.1 in
    let p : ℕ = 2 ^ (8 * length xs) in
    let q : bit_and x 64 * p ≡ x / 64 * 64 * p = ap (λ (k : ℕ). k * p) (by_bits x h.0 d.0).1 in
    rw (length-map xs (λ (y : ℕ). bit_and y 64), length-map xs (λ (y : ℕ). y / 64)) (omega (arith, ih, q))

-- w is eight characters, z their digits
pub record DigitBytes (w z : ℕ) : Type 0 where
  pub low : bit_and w 2242545357980376863 ≤ 2242545357980376863
  pub top : bit_and w 4629771061636907072 ≤ 4629771061636907072
  pub fits : bit_and w 4629771061636907072 / 64 * 9 ≤ bit_and w 2242545357980376863 + 578721382704613384
  pub is : bit_and w 2242545357980376863 + 578721382704613384 - bit_and w 4629771061636907072 / 64 * 9 ≡ z

differ-by : (l t z e k : ℕ) → l + k ≡ z + e * 9 → t ≡ e * 64 → (t / 64 * 9 ≤ l + k) × (l + k - t / 64 * 9 ≡ z)
differ-by l t z e k p q = (omega arith, omega arith)

pub digit-bytes : (cs : List ℕ) → length cs ≡ 8 → Below 256 cs → Below 32 (map (digit_in base32) cs) → DigitBytes (value 8 cs) (value 8 (map (digit_in base32) cs))
unfolding value
digit-bytes cs n h d =
    let zs : List ℕ = 0 ∷ 0 ∷ 0 ∷ 0 ∷ 0 ∷ 0 ∷ 0 ∷ 0 ∷ [] in
    let l : bit_and (value 8 cs) 2242545357980376863 ≡ value 8 (map (λ x. bit_and x 31) cs) = ap (bit_and (value 8 cs)) (sym (same_digits 8 31 cs zs n)) ∙ masked 8 31 cs (omega arith) h in
    let t : bit_and (value 8 cs) 4629771061636907072 ≡ value 8 (map (λ x. bit_and x 64) cs) = ap (bit_and (value 8 cs)) (sym (same_digits 8 64 cs zs n)) ∙ masked 8 64 cs (omega arith) h in
    let k : value 8 (map (λ _. 8) cs) ≡ 578721382704613384 = same_digits 8 8 cs zs n in
    let s : bit_and (value 8 cs) 2242545357980376863 + 578721382704613384 ≡ value 8 (map (digit_in base32) cs) + value 8 (map (λ x. x / 64) cs) * 9 = rw (l, ← k) (low_bits cs h d) in
    let q = differ-by _ _ _ (value 8 (map (λ x. x / 64) cs)) _ s (t ∙ top-bits cs h d) in
    record { low = and_le_r (value 8 cs) 2242545357980376863; top = and_le_r (value 8 cs) 4629771061636907072; fits = q.0; is = q.1 }

-- ---- neighbours joined: two parts of v bits, in w bits each, become one of 2 v bits in 2 w

scaled : (u k : ℕ) (f : ℕ → ℕ) (ps : List ℕ) → value u (map (λ p. f p * k) ps) ≡ value u (map f ps) * k
unfolding value
scaled u k f [] = omega arith
scaled u k f (p ∷ ps) =
    let ih = scaled u k f ps in
    rw (length-map ps (λ (p : ℕ). f p * k), length-map ps f) (omega (arith, ih))

-- neighbours a and b as a * k + b
pub twos : ℕ → List ℕ → List ℕ
twos k [] = []
twos k (a ∷ []) = []
twos k (a ∷ b ∷ xs) = (a * k + b) ∷ twos k xs

pub value-twos : (u : ℕ) (xs : List ℕ) → length xs ≡ 2 * length (twos (2 ^ u) xs) → value u xs ≡ value (u + u) (twos (2 ^ u) xs)
unfolding value twos
value-twos u [] e = refl
value-twos u (a ∷ []) e = absurd (omega (arith, e))
value-twos u (a ∷ b ∷ xs) e =
    let m : ℕ = length (twos (2 ^ u) xs) in
    let n : length xs ≡ 2 * m = omega (arith, e) in
    let ih = value-twos u xs n in
    let p : 2 ^ (u * suc (length xs)) ≡ 2 ^ u * 2 ^ (u * length xs) = rw (mul-suc, add_comm (u * length xs) u) (pow-add 2 u (u * length xs)) in
    let q : 2 ^ (u * length xs) ≡ 2 ^ ((u + u) * m) = ap (λ (k : ℕ). 2 ^ k) (rw n (omega arith)) in
    rw (p, q, ih) (omega arith)

pub below-twos : (v : ℕ) (xs : List ℕ) → Below (2 ^ v) xs → Below (2 ^ (v + v)) (twos (2 ^ v) xs)
unfolding twos
below-twos v [] h = tt
below-twos v (a ∷ []) h = tt
below-twos v (a ∷ b ∷ xs) h = (rw (pow-add 2 v v) (digits_lt h.0 h.1.0), below-twos v xs h.1.1)

module _ (w v : ℕ) (l : v ≤ w) where
  pub apart : ℕ → ℕ
  apart p = p / 2 ^ v * 2 ^ w + p % 2 ^ v

  wide-pow : 2 ^ w ≡ 2 ^ v * 2 ^ (w - v)
  wide-pow = let e : w ≡ v + (w - v) = omega arith in ap (λ (k : ℕ). 2 ^ k) e ∙ pow-add 2 v (w - v)

  high_part : (p : ℕ) → p < 2 ^ (v + v) → bit_and (apart p) ((2 ^ v - 1) * 2 ^ w + 0) ≡ p / 2 ^ v * 2 ^ v * 2 ^ (w - v)
  unfolding apart
  high_part p h =
      let b : p % 2 ^ v < 2 ^ w = lt_of_lt_of_le (mod-lt p (pow_pos v)) (pow_mono l) in
      and_block w (p / 2 ^ v) (2 ^ v - 1) (p % 2 ^ v) 0 b (pow_pos w)
      ∙ rw (and_mask (p / 2 ^ v) v, mod-eq_of_lt (shr_lt v v h), and_zero_r (p % 2 ^ v), wide-pow) (omega arith)

  low_part : (p : ℕ) → bit_and (apart p) (2 ^ v - 1) ≡ p % 2 ^ v
  unfolding apart
  low_part p =
      let e : p / 2 ^ v * 2 ^ w + p % 2 ^ v ≡ p / 2 ^ v * 2 ^ (w - v) * 2 ^ v + p % 2 ^ v = rw wide-pow (omega arith) in
      and_mask (p / 2 ^ v * 2 ^ w + p % 2 ^ v) v ∙ ap (λ (k : ℕ). k % 2 ^ v) e ∙ low (p / 2 ^ v * 2 ^ (w - v)) v (mod-lt p (pow_pos v))

  apart-lt : (p : ℕ) → p < 2 ^ (v + v) → apart p < 2 ^ (w + w)
  unfolding apart
  apart-lt p h =
      rw (pow-add 2 w w) (digits_lt (lt_of_lt_of_le (shr_lt v v h) (pow_mono l)) (lt_of_lt_of_le (mod-lt p (pow_pos v)) (pow_mono l)))

  aparts-below : (ps : List ℕ) → Below (2 ^ (v + v)) ps → Below (2 ^ (w + w)) (map apart ps)
  aparts-below [] h = tt
  aparts-below (p ∷ ps) h = (apart-lt p h.0, aparts-below ps h.1)

  high_parts : (ps : List ℕ) → Below (2 ^ (v + v)) ps → map (λ x. bit_and x ((2 ^ v - 1) * 2 ^ w + 0)) (map apart ps) ≡ map (λ p. p / 2 ^ v * 2 ^ v * 2 ^ (w - v)) ps
  high_parts [] h = refl
  high_parts (p ∷ ps) h = ap₂ ◌∷◌ (high_part p h.0) (high_parts ps h.1)

  low_parts : (ps : List ℕ) → map (λ x. bit_and x (2 ^ v - 1)) (map apart ps) ≡ map (λ p. p % 2 ^ v) ps
  low_parts [] = refl
  low_parts (p ∷ ps) = ap₂ ◌∷◌ (low_part p) (low_parts ps)

  both-parts : (u : ℕ) (ps : List ℕ) → value u (map (λ p. p / 2 ^ v * 2 ^ v) ps) + value u (map (λ p. p % 2 ^ v) ps) ≡ value u ps
  unfolding value
  both-parts u [] = refl
  both-parts u (p ∷ ps) =
      let ih = both-parts u ps in
      let q : ℕ = 2 ^ (u * length ps) in
      let e : (p / 2 ^ v * 2 ^ v + p % 2 ^ v) * q ≡ p * q = ap (λ (k : ℕ). k * q) (split p v) in
      rw (length-map ps (λ (p : ℕ). p / 2 ^ v * 2 ^ v), length-map ps (λ (p : ℕ). p % 2 ^ v)) (omega (arith, ih, e))

  pub joined : (ps : List ℕ) → Below (2 ^ (v + v)) ps →
      let x = value (w + w) (map apart ps) in
      bit_and x (value (w + w) (map (λ _. (2 ^ v - 1) * 2 ^ w + 0) (map apart ps))) / 2 ^ (w - v) + bit_and x (value (w + w) (map (λ _. 2 ^ v - 1) (map apart ps))) ≡ value (w + w) ps
  joined ps h =
      let b = aparts-below ps h in
      let s : 2 ^ v - 1 < 2 ^ w = lt_of_lt_of_le (ones_lt v) (pow_mono l) in
      let hi : (2 ^ v - 1) * 2 ^ w + 0 < 2 ^ (w + w) = rw (pow-add 2 w w) (digits_lt s (pow_pos w)) in
      let lo : 2 ^ v - 1 < 2 ^ (w + w) = lt_of_lt_of_le s (pow_mono {i = w} {j = w + w} (omega arith)) in
      rw (masked (w + w) ((2 ^ v - 1) * 2 ^ w + 0) (map apart ps) hi b, masked (w + w) (2 ^ v - 1) (map apart ps) lo b, high_parts ps h, low_parts ps, scaled (w + w) (2 ^ (w - v)) (λ p. p / 2 ^ v * 2 ^ v) ps, shl-shr)
      (both-parts (w + w) ps)

  apart-twos : (xs : List ℕ) → Below (2 ^ v) xs → twos (2 ^ w) xs ≡ map apart (twos (2 ^ v) xs)
  unfolding twos apart
  apart-twos [] h = refl
  apart-twos (a ∷ []) h = refl
  apart-twos (a ∷ b ∷ xs) h = ap₂ ◌∷◌ (rw (high a v h.1.0, low a v h.1.0)) (apart-twos xs h.1.1)

  pub joined-twos : (xs : List ℕ) → length xs ≡ 2 * length (twos (2 ^ w) xs) → Below (2 ^ v) xs →
      let ms = map apart (twos (2 ^ v) xs) in
      bit_and (value w xs) (value (w + w) (map (λ _. (2 ^ v - 1) * 2 ^ w + 0) ms)) / 2 ^ (w - v) + bit_and (value w xs) (value (w + w) (map (λ _. 2 ^ v - 1) ms)) ≡ value (w + w) (twos (2 ^ v) xs)
  joined-twos xs e h = rw (value-twos w xs e, apart-twos xs h) (joined (twos (2 ^ v) xs) (below-twos v xs h))

-- eight digits of 5 bits, a byte for each, to four of 10, to two of 20, to their number
abbrev to_four : ℕ → ℕ
to_four x = bit_and x 2233819500556328704 / 8 + bit_and x 8725857424048159

abbrev to_two : ℕ → ℕ
to_two x = bit_and x 287948901242044416 / 64 + bit_and x 4393751544831

abbrev to_one : ℕ → ℕ
to_one x = bit_and x 4503595332403200 / 4096 + bit_and x 1048575

pub record Eight (x n : ℕ) : Type 0 where
  pub four-fits : to_four x < 18446744073709551616
  pub two_fits : to_two (to_four x) < 18446744073709551616
  pub is : to_one (to_two (to_four x)) ≡ n
  pub fits : n < 1099511627776

eight-of : (a b c d e f g h : ℕ) → let ds = a ∷ b ∷ c ∷ d ∷ e ∷ f ∷ g ∷ h ∷ [] in Below 32 ds → Eight (value 8 ds) (value 5 ds)
unfolding value twos apart
eight-of a b c d e f g h k =
    let ds : List ℕ = a ∷ b ∷ c ∷ d ∷ e ∷ f ∷ g ∷ h ∷ [] in
    let es : List ℕ = twos 32 ds in
    let fs : List ℕ = twos 1024 es in
    let ke : Below 1024 es = below-twos 5 ds k in
    let kf : Below 1048576 fs = below-twos 10 es ke in
    let n : value 5 ds ≡ value 40 (twos 1048576 fs) = value-twos 5 ds refl ∙ value-twos 10 es refl ∙ value-twos 20 fs refl in
    let four : to_four (value 8 ds) ≡ value 16 es = joined-twos 8 5 (omega arith) ds refl k in
    let two : to_two (to_four (value 8 ds)) ≡ value 32 fs = ap to_two four ∙ joined-twos 16 10 (omega arith) es refl ke in
    record {
      four-fits = rw four (value-lt 16 es (below_wider 1024 65536 es (omega arith) ke));
      two_fits = rw two (value-lt 32 fs (below_wider 1048576 4294967296 fs (omega arith) kf));
      is = ap to_one two ∙ joined-twos 32 20 (omega arith) fs refl kf ∙ sym n;
      fits = value-lt 5 ds k;
    }

pub eight : (ds : List ℕ) → length ds ≡ 8 → Below 32 ds → Eight (value 8 ds) (value 5 ds)
eight (a ∷ b ∷ c ∷ d ∷ e ∷ f ∷ g ∷ h ∷ []) n k = eight-of a b c d e f g h k
eight [] n k = absurd (omega (arith, n))
eight (a ∷ []) n k = absurd (omega (arith, n))
eight (a ∷ b ∷ []) n k = absurd (omega (arith, n))
eight (a ∷ b ∷ c ∷ []) n k = absurd (omega (arith, n))
eight (a ∷ b ∷ c ∷ d ∷ []) n k = absurd (omega (arith, n))
eight (a ∷ b ∷ c ∷ d ∷ e ∷ []) n k = absurd (omega (arith, n))
eight (a ∷ b ∷ c ∷ d ∷ e ∷ f ∷ []) n k = absurd (omega (arith, n))
eight (a ∷ b ∷ c ∷ d ∷ e ∷ f ∷ g ∷ []) n k = absurd (omega (arith, n))
eight (a ∷ b ∷ c ∷ d ∷ e ∷ f ∷ g ∷ h ∷ i ∷ xs) n k = absurd (omega (arith, n))
