-- Digits and bytes by groups: a part in front that takes whole digits and whole bytes, and the rest behind it. For every width v of a digit.
use Prim.Native.Nat.{ℕ, ◌+◌, ◌-◌, ◌*◌, ◌/◌, ◌%◌, ◌^◌, ◌≤◌, ◌<◌}
use mathlib.Core.Path.{◌≡◌, refl, sym, ◌∙◌, ap, ap₂}
use mathlib.Core.List.{List, [], ◌∷◌, ◌++◌, map, map-append, append-nil, append_assoc}
use native.Mathlib.Nat.{mod-eq_of_lt, mul_assoc, add-mul, mul-add, mul_comm, mul-add-div_right, mul-add-mod_self_right, mul-suc, mul-one, mul-zero, div-one, lt_of_lt_of_le, add-zero, zero-add, add_assoc}
use native.Mathlib.Numerals.{add-one}
use native.Mathlib.Omega.{arith}
use lib.ListN.{length, take, drop, get_or, set, length-append, length-map, length-drop, drop_of_length-le}
use lib.Seq.{take-suc, take-add, take_all, length-take-le}
use lib.Arith.{digits_div, digits_lt}
use lib.Pow.{pow_pos, pow_mono, pow-add, high, low, shl_lt, shr_lt, shr-shr}
use Rattle.iscc.specs.Answer.{accept, area_after}
use Rattle.iscc.specs.Digits.{digits, value, Below, digit_count, to_digits, byte_count, spare_count}
use Rattle.iscc.specs.Alphabet.{Alphabet, char_in, encode}
use Rattle.iscc.proofs.Digits.{length_digits, digits-below, value-digits, value_inj, value-lt, value-append, value-snoc, digits_append, digits-snoc, below-take, below-drop}
use Rattle.iscc.proofs.ByteDigits.{Counts, counts}
use Rattle.iscc.proofs.Area.{WrittenFront, nothing_written, one_written}
use Rattle.iscc.proofs.Filling.{overwritten, overwritten-none, overwritten-all, more-written}

-- the n low digits of a number are those of its low part
pub digits_low : (v n hi lo : ℕ) → lo < 2 ^ (v * n) → digits v n (hi * 2 ^ (v * n) + lo) ≡ digits v n lo
digits_low v n hi lo h =
    value_inj v _ _ (digits-below v n (hi * 2 ^ (v * n) + lo)) (digits-below v n lo)
    (length_digits v n (hi * 2 ^ (v * n) + lo) ∙ sym (length_digits v n lo))
    (value-digits v n (hi * 2 ^ (v * n) + lo) ∙ low hi (v * n) h ∙ sym (mod-eq_of_lt h) ∙ sym (value-digits v n lo))

-- a number in two parts
pub digits-join : (v m n hi lo : ℕ) → lo < 2 ^ (v * n) → digits v (m + n) (hi * 2 ^ (v * n) + lo) ≡ digits v m hi ++ digits v n lo
digits-join v m n hi lo h =
    digits_append v m n (hi * 2 ^ (v * n) + lo)
    ∙ ap₂ (λ (x : ℕ) (l : List ℕ). digits v m x ++ l) (high hi (v * n) h) (digits_low v n hi lo h)

-- bytes in front that fill m digits exactly
pub count-join : (v m a b : ℕ) → 0 < v → v * m ≡ 8 * a → digit_count v (a + b) ≡ m + digit_count v b
unfolding digit_count
count-join v m a b pos e =
    let c : v * m ≡ m * v = mul_comm v m in
    let s : 8 * (a + b) + (v - 1) ≡ m * v + (8 * b + (v - 1)) = omega arith in
    ap (λ (x : ℕ). x / v) s ∙ mul-add-div_right pos m (8 * b + (v - 1))

pub to_digits-join : (v m : ℕ) (xs ys : List ℕ) → 0 < v → v * m ≡ 8 * length xs → Below 256 ys →
    to_digits v (xs ++ ys) ≡ digits v m (value 8 xs) ++ to_digits v ys
unfolding to_digits
to_digits-join v m xs ys pos e b =
    let k : ℕ = digit_count v (length ys) in
    let q : Counts v (length ys) = counts v (length ys) pos in
    let p : ℕ = v * k - 8 * length ys in
    let n : digit_count v (length (xs ++ ys)) ≡ m + k = ap (digit_count v) (length-append xs ys) ∙ count-join v m (length xs) (length ys) pos e in
    let s : v * digit_count v (length (xs ++ ys)) - 8 * length (xs ++ ys) ≡ p = rw (n, length-append xs ys, mul-add v m k) (omega arith) in
    let l : value 8 ys * 2 ^ p < 2 ^ (8 * length ys + p) = shl_lt (8 * length ys) p (value-lt 8 ys b) in
    let r : 8 * length ys + p ≡ v * k = omega arith in
    rw (s, n, value-append 8 xs ys, add-mul, mul_assoc, ← pow-add, r) (digits-join v m k (value 8 xs) (value 8 ys * 2 ^ p) (rw r at l))

-- the characters of bytes: those of m digits in front, and the rest
module _ (a : Alphabet) (pos : 0 < a.bits) where
  pub encode-join : (m : ℕ) (xs ys : List ℕ) → a.bits * m ≡ 8 * length xs → Below 256 ys →
      encode a (xs ++ ys) ≡ map (char_in a) (digits a.bits m (value 8 xs)) ++ encode a ys
  unfolding encode
  encode-join m xs ys e b =
      ap (map (char_in a)) (to_digits-join a.bits m xs ys pos e b) ∙ map-append (char_in a) (digits a.bits m (value 8 xs)) (to_digits a.bits ys)

  encode-none : encode a [] ≡ []
  unfolding encode to_digits digit_count digits
  encode-none =
      let z : (8 * 0 + (a.bits - 1)) / a.bits ≡ 0 = ap (λ (k : ℕ). k / a.bits) (omega arith) ∙ digits_div 0 {m = a.bits} {r = a.bits - 1} (omega arith) in
      rw z

  pub encode-whole : (m : ℕ) (xs : List ℕ) → a.bits * m ≡ 8 * length xs → encode a xs ≡ map (char_in a) (digits a.bits m (value 8 xs))
  encode-whole m xs e =
      ap (encode a) (sym (append-nil xs)) ∙ encode-join m xs [] e tt ∙ rw encode-none (append-nil (map (char_in a) (digits a.bits m (value 8 xs))))

  pub encode-append : (m : ℕ) (xs ys : List ℕ) → a.bits * m ≡ 8 * length xs → Below 256 ys → encode a (xs ++ ys) ≡ encode a xs ++ encode a ys
  encode-append m xs ys e b = encode-join m xs ys e b ∙ ap (λ (l : List ℕ). l ++ encode a ys) (sym (encode-whole m xs e))

-- ---- the turns of loops: one digit more is read, or written

-- x is the number of the first i digits of xs
pub record Loaded (v : ℕ) (xs : List ℕ) (i x : ℕ) : Type 0 where
  pub is : x ≡ value v (take i xs)
  pub bound : x < 2 ^ (v * i)

pub loaded-none : (v : ℕ) (xs : List ℕ) → Loaded v xs 0 0
unfolding value
loaded-none v xs = record { is = refl; bound = pow_pos (v * 0) }

pub loaded-one : {v : ℕ} {xs : List ℕ} {i x : ℕ} (d : ℕ) → Loaded v xs i x → i < length xs → d ≡ get_or xs i 0 → d < 2 ^ v → Loaded v xs (i + 1) (x * 2 ^ v + d)
loaded-one {v} {xs} {i} {x} d s l e b =
    record {
      is = rw (add-one, take-suc xs i 0 l, value-snoc, ← e, ← s.is);
      bound = rw (add-one, mul-suc v i, pow-add) (digits_lt s.bound b);
    }

pub loaded-small : {v : ℕ} {xs : List ℕ} {i x : ℕ} (k : ℕ) → Loaded v xs i x → v * i ≤ k → x < 2 ^ k
loaded-small k s h = lt_of_lt_of_le s.bound (pow_mono h)

pub loaded-all : {v : ℕ} {xs : List ℕ} {i x : ℕ} (n : ℕ) → Loaded v xs i x → i ≡ n → (x ≡ value v (take n xs)) × (x < 2 ^ (v * n))
loaded-all n s e = rw (← e) (s.is, s.bound)

-- the next of n digits of x
pub digits-next : (v n x i : ℕ) → i < n → digits v (i + 1) (x / 2 ^ (v * (n - (i + 1)))) ≡ digits v i (x / 2 ^ (v * (n - i))) ++ (x / 2 ^ (v * (n - 1 - i)) % 2 ^ v ∷ [])
digits-next v n x i l =
    let k : ℕ = n - 1 - i in
    let e : n - (i + 1) ≡ k = omega arith in
    let f : n - i ≡ k + 1 = omega arith in
    rw (e, f, digits-snoc, shr-shr, mul-add, mul-one)

-- the first i of n digits of x, each under f, stand in the area d from j on
module _ (f : ℕ → ℕ) (v n x : ℕ) where
  pub record Put (d area : List ℕ) (j i : ℕ) : Type 0 where
    pub within : i ≤ n
    pub is : WrittenFront (take j d ++ map f (digits v i (x / 2 ^ (v * (n - i))))) d area (j + i)

  pub put-none : (d : List ℕ) (j : ℕ) → j ≤ length d → Put d d j 0
  unfolding digits
  put-none d j h = record { within = omega arith; is = rw add-zero (overwritten-none d j h) }

  pub put_one : {d area : List ℕ} {j i : ℕ} (c : ℕ) → Put d area j i → i < n → j + i < length d → c ≡ f (x / 2 ^ (v * (n - 1 - i)) % 2 ^ v) → Put d (set area (j + i) c) j (i + 1)
  put_one {d} {area} {j} {i} c s l room e =
      let q : List ℕ = map f (digits v i (x / 2 ^ (v * (n - i)))) in
      let p : (take j d ++ q) ++ (c ∷ []) ≡ take j d ++ map f (digits v (i + 1) (x / 2 ^ (v * (n - (i + 1))))) =
      append_assoc (take j d) q (c ∷ []) ∙ rw (digits-next v n x i l, map-append, e) in
      record { within = omega arith; is = rw (← p, ← add_assoc) (one_written c s.is room) }

  pub put_all : {d area : List ℕ} {j i : ℕ} → Put d area j i → n ≤ i → area ≡ overwritten d j n (map f (digits v n x))
  put_all {d} {area} {j} {i} s h =
      let e : i ≡ n = omega (arith, s.within) in
      let z : n - n ≡ 0 = omega arith in
      overwritten-all j n (map f (digits v n x)) (rw (e, z, mul-zero, div-one) at s.is) refl

  -- the same where the area is the part alone
  pub put_next : {d area : List ℕ} {i : ℕ} (c : ℕ) → Put d area 0 i → i < n → i < length d → c ≡ f (x / 2 ^ (v * (n - 1 - i)) % 2 ^ v) → Put d (set area i c) 0 (i + 1)
  put_next {d} {area} {i} c s l room e = let z : 0 + i ≡ i = omega arith in rw z at (put_one c s l (omega arith) e)

  pub put_whole : {d area : List ℕ} {i : ℕ} → Put d area 0 i → n ≤ i → n ≡ length d → area ≡ map f (digits v n x)
  put_whole {d} s h e =
      let none : drop (0 + n) d ≡ [] = drop_of_length-le d (omega arith) in
      put_all s h ∙ ap (λ (l : List ℕ). map f (digits v n x) ++ l) none ∙ append-nil (map f (digits v n x))

  -- at the front of the area
  pub put_front : {d area : List ℕ} {i : ℕ} → Put d area 0 i → n ≤ i → area ≡ area_after (accept (map f (digits v n x))) d
  put_front s h = put_all s h ∙ rw (zero-add, length-map (digits v n x) f, length_digits v n x)

-- ---- a writer's loop: the first i bytes are written, as o characters
module _ (a : Alphabet) (pos : 0 < a.bits) (bs d : List ℕ) where
  pub record Encoded (area : List ℕ) (i o : ℕ) : Type 0 where
    pub within : i ≤ length bs
    pub whole : a.bits * o ≡ 8 * i
    pub is : WrittenFront (encode a (take i bs)) d area o

  pub encoded-none : Encoded d 0 0
  encoded-none = record { within = omega arith; whole = omega arith; is = rw (encode-none a pos) (nothing_written d) }

  module _ {area : List ℕ} {i o : ℕ} (k m x : ℕ) (s : Encoded area i o) (b : Below 256 bs) (room : o + m ≤ length d) (e : x ≡ value 8 (take k (drop i bs))) where
    -- the characters of the next k bytes, once they are known to be those of m digits of y
    next : {after : List ℕ} (y : ℕ) → i + k ≤ length bs → encode a (take k (drop i bs)) ≡ map (char_in a) (digits a.bits m y) →
        after ≡ overwritten area o m (map (char_in a) (digits a.bits m y)) → WrittenFront (encode a (take (i + k) bs)) d after (o + m)
    next y l w p =
        let part : List ℕ = take k (drop i bs) in
        let q : List ℕ = map (char_in a) (digits a.bits m y) in
        let h : length (take i bs) ≡ i = length-take-le i bs s.within in
        let t : encode a (take (i + k) bs) ≡ encode a (take i bs) ++ q =
        ap (encode a) (take-add i k bs)
        ∙ encode-append a pos o (take i bs) part (rw h s.whole) (below-take 256 k (drop i bs) (below-drop 256 i bs b))
        ∙ ap (λ (z : List ℕ). encode a (take i bs) ++ z) w in
        let c : length q ≡ m = length-map (digits a.bits m y) (char_in a) ∙ length_digits a.bits m y in
        rw t (more-written m q s.is c room p)

    part_length : i + k ≤ length bs → length (take k (drop i bs)) ≡ k
    part_length l = length-take-le k (drop i bs) (omega (arith, length-drop i bs))

    -- k bytes that are m digits exactly
    pub encoded-group : {after : List ℕ} → a.bits * m ≡ 8 * k → i + k ≤ length bs → after ≡ overwritten area o m (map (char_in a) (digits a.bits m x)) → Encoded after (i + k) (o + m)
    encoded-group w l p =
        record {
          within = l;
          whole = rw (mul-add a.bits o m) (omega (arith, s.whole));
          is = next x l (encode-whole a pos m (take k (drop i bs)) (rw (part_length l) w) ∙ rw (← e)) p;
        }

    -- the last k bytes, with zeros up to a whole digit
    pub encoded-rest : {after : List ℕ} (y : ℕ) → m ≡ digit_count a.bits k → i + k ≡ length bs → y ≡ x * 2 ^ (a.bits * m - 8 * k) →
        after ≡ overwritten area o m (map (char_in a) (digits a.bits m y)) → WrittenFront (encode a bs) d after (o + m)
    unfolding encode to_digits
    encoded-rest y c l f p =
        let n : length (take k (drop i bs)) ≡ k = part_length (omega arith) in
        rw (take_all (i + k) bs (omega arith)) at (next y (omega arith) (rw (n, ← c, f, e)) p)

-- ---- a reader's loop: the first i digits of ds are written, as o bytes

-- the bits of the first i digits fill o bytes; then those of all i + k fill o more than those of k
pub byte_count-join : (v i o k : ℕ) → v * i ≡ 8 * o → byte_count v (i + k) ≡ o + byte_count v k
unfolding byte_count
byte_count-join v i o k e = rw (mul-add v i k) (omega arith)

pub spare_count-join : (v i o k : ℕ) → v * i ≡ 8 * o → spare_count v (i + k) ≡ spare_count v k
unfolding spare_count
spare_count-join v i o k e = rw (mul-add v i k, e, mul_comm 8 o) (mul-add-mod_self_right o 8 (v * k))

bits_of : (v k : ℕ) → v * k ≡ 8 * byte_count v k + spare_count v k
unfolding byte_count spare_count
bits_of v k = omega arith

module _ (v : ℕ) (ds : List ℕ) (i o k x : ℕ) (w : v * i ≡ 8 * o) (l : i + k ≤ length ds) (e : x ≡ value v (take k (drop i ds))) where
  value-next : value v (take (i + k) ds) ≡ value v (take i ds) * 2 ^ (v * k) + x
  value-next =
      let n : length (take k (drop i ds)) ≡ k = length-take-le k (drop i ds) (omega (arith, length-drop i ds)) in
      ap (value v) (take-add i k ds) ∙ value-append v (take i ds) (take k (drop i ds)) ∙ rw (n, ← e)

  value-rest : i + k ≡ length ds → value v ds ≡ value v (take i ds) * 2 ^ (8 * byte_count v k) * 2 ^ spare_count v k + x
  value-rest all =
      ap (value v) (sym (take_all (i + k) ds (omega arith))) ∙ value-next ∙ rw (bits_of v k, pow-add, mul_assoc)

module _ (v : ℕ) (ds d : List ℕ) where
  pub record Decoded (area : List ℕ) (i o : ℕ) : Type 0 where
    pub within : i ≤ length ds
    pub whole : v * i ≡ 8 * o
    pub is : WrittenFront (digits 8 o (value v (take i ds))) d area o

  pub decoded-none : Decoded d 0 0
  unfolding digits
  decoded-none = record { within = omega arith; whole = omega arith; is = nothing_written d }

  module _ {area : List ℕ} {i o : ℕ} (k m x : ℕ) (s : Decoded area i o) (room : o + m ≤ length d) (e : x ≡ value v (take k (drop i ds))) (b : x < 2 ^ (v * k)) where
    -- k digits that are m bytes exactly
    pub decoded-group : {after : List ℕ} → v * k ≡ 8 * m → i + k ≤ length ds → after ≡ overwritten area o m (digits 8 m x) → Decoded after (i + k) (o + m)
    decoded-group w l p =
        let t : digits 8 (o + m) (value v (take (i + k) ds)) ≡ digits 8 o (value v (take i ds)) ++ digits 8 m x =
        rw (value-next v ds i o k x s.whole l e, w) (digits-join 8 o m (value v (take i ds)) x (rw (← w) b)) in
        record {
          within = l;
          whole = rw (mul-add v i k) (omega (arith, s.whole));
          is = rw t (more-written m (digits 8 m x) s.is (length_digits 8 m x) room p);
        }

    -- the last k digits, less their spare bits
    pub decoded-rest : {after : List ℕ} (y : ℕ) → m ≡ byte_count v k → i + k ≡ length ds → y ≡ x / 2 ^ spare_count v k → after ≡ overwritten area o m (digits 8 m y) →
        WrittenFront (digits 8 (byte_count v (length ds)) (value v ds / 2 ^ spare_count v (length ds))) d after (o + m)
    decoded-rest y c all f p =
        let hi : ℕ = value v (take i ds) in
        let q : ℕ = spare_count v k in
        let h : y < 2 ^ (8 * m) = rw (f, c) (shr_lt (8 * byte_count v k) q (rw (← bits_of v k) b)) in
        let u : value v ds / 2 ^ q ≡ hi * 2 ^ (8 * m) + y = rw (value-rest v ds i o k x s.whole (omega arith) e all, f, c) (mul-add-div_right (pow_pos q) (hi * 2 ^ (8 * byte_count v k)) x) in
        rw (← all, byte_count-join v i o k s.whole, spare_count-join v i o k s.whole, ← c, u, digits-join 8 o m hi y h)
        (more-written m (digits 8 m y) s.is (length_digits 8 m y) room p)
