-- What `fill` has written: group by group, and the rest behind the groups.
use Prim.Native.Nat.{ℕ, ◌+◌, ◌-◌, ◌*◌, ◌/◌, ◌%◌, ◌^◌, ◌≤◌, ◌<◌}
use mathlib.Core.Path.{◌≡◌, refl, sym, ◌∙◌, ap}
use mathlib.Core.List.{List, [], ◌++◌, map}
use native.Mathlib.Nat.{mod-eq_of_lt, lt_of_lt_of_le}
use native.Mathlib.Omega.{arith}
use lib.ListN.{length, get_or, take, drop, length-map, length-drop}
use lib.Seq.{drop-drop, take_all, length-take-le}
use lib.Pow.{shl_exact, pow_mono}
use Rattle.std.specs.List.{take-map, drop-map}
use Rattle.std.specs.Simd.{first_chunks}
use Rattle.iscc.specs.Alphabet.{char_in, digit_in, encode}
use Rattle.iscc.specs.Base32.{base32}
use Rattle.iscc.specs.Digits.{digits, value, Below, byte_count, spare_count, digit_count}
use Rattle.iscc.proofs.Area.{length-written}
use Rattle.iscc.proofs.Digits.{value-lt, below-take, below-drop}
use Rattle.iscc.proofs.Filling.{overwritten}
use Rattle.iscc.proofs.Groups.{Decoded, decoded-group, decoded-rest, Encoded, encoded-group, encoded-rest}
use Rattle.iscc.proofs.Words.{chunk_at}
use Rattle.base32.proofs.Characters.{five}

-- a part of k bytes comes back filled
part_back : (a e : List ℕ) (f : ℕ → List ℕ) (j n k : ℕ) → n ≡ k → j + k ≤ length a → e ≡ f (length (take n (drop j a)))
    → take j a ++ (e ++ drop n (drop j a)) ≡ overwritten a j k (f k)
part_back a e f j n k m l h =
    let c : length (take k (drop j a)) ≡ k = length-take-le k (drop j a) (omega (arith, length-drop j a)) in
    rw (h, m, c, drop-drop k j a)

-- ---- bytes from a text

abbrev digits_of : List ℕ → List ℕ
digits_of t = map (digit_in base32) t

module _ (t d : List ℕ) (below : Below 32 (map (digit_in base32) t)) (room : byte_count 5 (length t) ≤ length d) where
  module _ (gs : List (List ℕ)) (cut : gs ≡ first_chunks 8 (length t / 8) t) (i : ℕ) (h : i < length t / 8) where
    group-is : digits_of (get_or gs i []) ≡ take 8 (drop (8 * i) (digits_of t))
    group-is =
        ap digits_of (ap (λ (z : List (List ℕ)). get_or z i []) cut ∙ chunk_at 8 t [] i (length t / 8) h)
        ∙ sym (take-map (digit_in base32) 8 (drop (8 * i) t)) ∙ ap (take 8) (sym (drop-map (digit_in base32) (8 * i) t))

    pub group-below : Below 32 (map (digit_in base32) (get_or gs i []))
    group-below = rw group-is (below-take 32 8 (drop (8 * i) (digits_of t)) (below-drop 32 (8 * i) (digits_of t) below))

    module _ (out : List ℕ) (s : Decoded 5 (map (digit_in base32) t) d out (8 * i) (i * 5)) where
      pub group-room : i * 5 + 5 ≤ length out
      unfolding byte_count
      group-room = omega (arith, length-written s.is)

      pub group-more : (x n : ℕ) (e : List ℕ) → n ≡ 5 → x ≡ value 5 (map (digit_in base32) (get_or gs i [])) → e ≡ digits 8 (length (take n (drop (i * 5) out))) x
          → Decoded 5 (map (digit_in base32) t) d (take (i * 5) out ++ (e ++ drop n (drop (i * 5) out))) (8 * (i + 1)) ((i + 1) * 5)
      group-more x n e m v p =
          let len : length (digits_of t) ≡ length t = length-map t (digit_in base32) in
          let c : length (take 8 (drop (8 * i) (digits_of t))) ≡ 8 = length-take-le 8 (drop (8 * i) (digits_of t)) (omega (arith, length-drop (8 * i) (digits_of t))) in
          let w : x ≡ value 5 (take 8 (drop (8 * i) (digits_of t))) = v ∙ ap (value 5) group-is in
          let l : value 5 (take 8 (drop (8 * i) (digits_of t))) < 2 ^ (5 * length (take 8 (drop (8 * i) (digits_of t)))) =
          value-lt 5 (take 8 (drop (8 * i) (digits_of t))) (below-take 32 8 (drop (8 * i) (digits_of t)) (below-drop 32 (8 * i) (digits_of t) below)) in
          let b : x < 2 ^ (5 * 8) = rw w (rw c at l) in
          let j : 8 * i + 8 ≡ 8 * (i + 1) = omega arith in
          let o : i * 5 + 5 ≡ (i + 1) * 5 = omega arith in
          rw (j, o) at
          (decoded-group 5 (digits_of t) d 8 5 x s (omega (arith, length-written s.is, group-room)) w b refl (omega arith)
          (part_back out e (λ (z : ℕ). digits 8 z x) (i * 5) n 5 m group-room p))

  module _ (r : List ℕ) (left : r ≡ drop (length t / 8 * 8) t) where
    rest-digits : digits_of r ≡ drop (8 * (length t / 8)) (digits_of t)
    rest-digits = let e : length t / 8 * 8 ≡ 8 * (length t / 8) = omega arith in ap digits_of (left ∙ ap (λ (k : ℕ). drop k t) e) ∙ sym (drop-map (digit_in base32) (8 * (length t / 8)) t)

    pub rest-below : Below 32 (map (digit_in base32) r)
    rest-below = rw rest-digits (below-drop 32 (8 * (length t / 8)) (digits_of t) below)

    module _ (out : List ℕ) (i k : ℕ) (g : k ≡ length t / 8) (all : i ≡ k) (s : Decoded 5 (map (digit_in base32) t) d out (8 * i) (i * 5)) where
      rest_length : length r ≡ length t % 8
      rest_length = omega (arith, ap length left, length-drop (length t / 8 * 8) t)

      pub rest-room : k * 5 + length r * 5 / 8 ≤ length out
      unfolding byte_count
      rest-room = omega (arith, length-written s.is, rest_length)

      pub rest-more : (x y n : ℕ) (e : List ℕ) → n ≡ length r * 5 / 8 → x ≡ value 5 (map (digit_in base32) r) → y ≡ x / 2 ^ (length r * 5 % 8)
          → e ≡ digits 8 (length (take n (drop (k * 5) out))) y
          → take (k * 5) out ++ (e ++ drop n (drop (k * 5) out))
          ≡ digits 8 (byte_count 5 (length t)) (value 5 (map (digit_in base32) t) / 2 ^ spare_count 5 (length t)) ++ drop (byte_count 5 (length t)) d
      unfolding byte_count spare_count
      rest-more x y n e m v w p =
          let len : length (digits_of t) ≡ length t = length-map t (digit_in base32) in
          let lr : length (digits_of r) ≡ length r = length-map r (digit_in base32) in
          let a : i ≡ length t / 8 = omega arith in
          let q : take (length r) (drop (8 * i) (digits_of t)) ≡ digits_of r = rw (a, ← rest-digits) (take_all (length r) (digits_of r) (omega arith)) in
          let b : x < 2 ^ (5 * length r) = rw (v, ← lr) (value-lt 5 (digits_of r) rest-below) in
          let z : length r * 5 % 8 ≡ 5 * length r % 8 = omega arith in
          let o : i * 5 + length r * 5 / 8 ≡ 5 * length t / 8 = omega (arith, rest_length) in
          let f = decoded-rest 5 (digits_of t) d (length r) (length r * 5 / 8) x s (omega (arith, length-written s.is, rest-room)) (v ∙ ap (value 5) (sym q)) b y (omega arith) (omega (arith, rest_length)) (w ∙ rw z)
          (part_back out e (λ (z : ℕ). digits 8 z y) (i * 5) n (length r * 5 / 8) m (omega (arith, rest-room)) (rw all p)) in
          rw (← all) (rw (len, o) at f.is)

-- ---- a text from bytes

module _ (bs d : List ℕ) (below : Below 256 bs) (room : digit_count 5 (length bs) ≤ length d) where
  module _ (gs : List (List ℕ)) (cut : gs ≡ first_chunks 5 (length bs / 5) bs) (out : List ℕ) (i : ℕ) (h : i < length bs / 5) (s : Encoded base32 five bs d out (5 * i) (i * 8)) where
    pub characters-room : i * 8 + 8 ≤ length out
    unfolding digit_count
    characters-room = omega (arith, length-written s.is)

    pub characters-more : (x n : ℕ) (e : List ℕ) → n ≡ 8 → x ≡ value 8 (get_or gs i []) → e ≡ map (char_in base32) (digits 5 (length (take n (drop (i * 8) out))) x)
        → Encoded base32 five bs d (take (i * 8) out ++ (e ++ drop n (drop (i * 8) out))) (5 * (i + 1)) ((i + 1) * 8)
    unfolding base32
    characters-more x n e m v p =
        let w : x ≡ value 8 (take 5 (drop (5 * i) bs)) = v ∙ ap (value 8) (ap (λ (z : List (List ℕ)). get_or z i []) cut ∙ chunk_at 5 bs [] i (length bs / 5) h) in
        let j : 5 * i + 5 ≡ 5 * (i + 1) = omega arith in
        let o : i * 8 + 8 ≡ (i + 1) * 8 = omega arith in
        rw (j, o) at
        (encoded-group base32 five bs d 5 8 x s below (omega (arith, length-written s.is, characters-room)) w refl (omega arith)
        (part_back out e (λ (z : ℕ). map (char_in base32) (digits 5 z x)) (i * 8) n 8 m characters-room p))

  module _ (r : List ℕ) (left : r ≡ drop (length bs / 5 * 5) bs) (out : List ℕ) (i k : ℕ) (g : k ≡ length bs / 5) (all : i ≡ k) (s : Encoded base32 five bs d out (5 * i) (i * 8)) where
    left_length : length r ≡ length bs % 5
    left_length = omega (arith, ap length left, length-drop (length bs / 5 * 5) bs)

    pub left-room : k * 8 + (length r * 8 + 4) / 5 ≤ length out
    unfolding digit_count
    left-room = omega (arith, length-written s.is, left_length)

    pub left-more : (x y n : ℕ) (e : List ℕ) → n ≡ (length r * 8 + 4) / 5 → x ≡ value 8 r % 2 ^ 32 → y ≡ x * 2 ^ ((length r * 8 + 4) / 5 * 5 - length r * 8) % 2 ^ 64
        → e ≡ map (char_in base32) (digits 5 (length (take n (drop (k * 8) out))) y)
        → take (k * 8) out ++ (e ++ drop n (drop (k * 8) out)) ≡ encode base32 bs ++ drop (digit_count 5 (length bs)) d
    unfolding base32 digit_count
    left-more x y n e m v w p =
        let len = left_length in
        let k5 : length r ≤ 4 = omega arith in
        let c : ℕ = (length r * 8 + 4) / 5 in
        let rb : Below 256 r = rw left (below-drop 256 (length bs / 5 * 5) bs below) in
        let small : value 8 r < 2 ^ (8 * length r) = value-lt 8 r rb in
        let whole : value 8 r % 2 ^ 32 ≡ value 8 r = mod-eq_of_lt (lt_of_lt_of_le small (pow_mono {i = 8 * length r} {j = 32} (omega arith))) in
        let u : x ≡ value 8 r = v ∙ whole in
        let a : 5 * i ≡ length bs / 5 * 5 = omega arith in
        let q : take (length r) (drop (5 * i) bs) ≡ r = rw (a, ← left) (take_all (length r) r (omega arith)) in
        let b : x < 2 ^ (8 * length r) = rw u small in
        let sh : x * 2 ^ (c * 5 - length r * 8) % 2 ^ 64 ≡ x * 2 ^ (c * 5 - length r * 8) = shl_exact (8 * length r) (c * 5 - length r * 8) 64 b (omega arith) in
        let z : c * 5 - length r * 8 ≡ 5 * c - 8 * length r = omega arith in
        let o : i * 8 + c ≡ (8 * length bs + 4) / 5 = omega (arith, len) in
        let f = encoded-rest base32 five bs d (length r) c x s below (omega (arith, length-written s.is, left-room)) (u ∙ ap (value 8) (sym q)) y (omega arith) (omega (arith, len)) (w ∙ sh ∙ rw z)
        (part_back out e (λ (z : ℕ). map (char_in base32) (digits 5 z y)) (i * 8) n c m (omega (arith, left-room)) (rw all p)) in
        rw (← all) (rw o at f.is)
