-- How far the differing bits of two bodies are counted.
use Prim.Native.Nat.{ℕ, ◌+◌, ◌*◌, ◌/◌, ◌<◌, min, ◌≤◌}
use mathlib.Core.Path.{◌≡◌, refl, sym, ◌∙◌, ap, ap₂}
use mathlib.Core.List.{List, [], ◌∷◌}
use native.Mathlib.Omega.{arith}
use lib.ListN.{length, take, drop, get_or, length-drop}
use lib.Seq.{length-take-le, drop-cons, take_all, get_or-drop}
use Rattle.std.specs.Simd.{first_chunks}
use Rattle.iscc.specs.Digits.{digits}
use Rattle.iscc.specs.Distance.{bits_of, differing_positions, differing_bits, compared_bits}
use Rattle.iscc.proofs.Bits.{differ-none, differ-more, differ-all}
use Rattle.iscc.proofs.Distance.{apart-most}
use Rattle.iscc.proofs.Words.{chunk_at}

pub record Counted (xs ys : List ℕ) (n d i : ℕ) : Type 0 where
  pub first : length xs ≡ n
  pub second : length ys ≡ n
  pub short : n ≤ 40
  pub within : i ≤ n
  pub is : d ≡ differing_bits (take i xs) (take i ys)

pub start : (a b : List ℕ) (n : ℕ) → length a ≤ 40 → n ≡ min (length a) (length b) → Counted (take n a) (take n b) n 0 0
start a b n h e =
    record {
      first = length-take-le n a (omega arith);
      second = length-take-le n b (omega arith);
      short = omega arith;
      within = omega arith;
      is = sym (differ-none []);
    }

module _ {xs ys : List ℕ} {n d i : ℕ} (w : Counted xs ys n d i) where
  -- k bytes more
  next : (k r : ℕ) → i + k ≤ n → r ≡ differing_bits (take k (drop i xs)) (take k (drop i ys)) → Counted xs ys n (d + r) (i + k)
  next k r m e =
      let x : i ≤ length xs = omega (arith, w.first) in
      let y : i ≤ length ys = omega (arith, w.second) in
      record { first = w.first; second = w.second; short = w.short; within = m; is = ap₂ (λ (p q : ℕ). p + q) w.is e ∙ sym (differ-more xs ys i k x y) }

  pub small : d ≤ 320
  unfolding compared_bits
  small =
      let l : length (take i xs) ≡ i = length-take-le i xs (omega (arith, w.within, w.first)) in
      omega (arith, w.is, w.within, w.short, apart-most (take i xs) (take i ys))

pub end : (a b : List ℕ) (n d i : ℕ) → Counted (take n a) (take n b) n d i → n ≡ min (length a) (length b) → n ≤ i → (d ≡ differing_bits a b) × (d ≤ 320)
end a b n d i w m h =
    let e : i ≡ n = omega (arith, w.within) in
    let x : take i (take n a) ≡ take n a = take_all i (take n a) (omega (arith, w.first)) in
    let y : take i (take n b) ≡ take n b = take_all i (take n b) (omega (arith, w.second)) in
    (w.is ∙ rw (x, y, m) (differ-all a b), small w)

pub word_more : (xs ys : List ℕ) (us vs : List (List ℕ)) (n d i r : ℕ) → Counted xs ys n d (4 * i) → us ≡ first_chunks 4 (length xs / 4) xs → vs ≡ first_chunks 4 (length ys / 4) ys
    → i < length xs / 4 → r ≡ differing_bits (get_or us i []) (get_or vs i []) → Counted xs ys n (d + r) (4 * (i + 1))
word_more xs ys us vs n d i r w e f h g =
    let x : get_or us i [] ≡ take 4 (drop (4 * i) xs) = ap (λ (z : List (List ℕ)). get_or z i []) e ∙ chunk_at 4 xs [] i (length xs / 4) h in
    let y : get_or vs i [] ≡ take 4 (drop (4 * i) ys) = ap (λ (z : List (List ℕ)). get_or z i []) f ∙ chunk_at 4 ys [] i (length ys / 4) (omega (arith, w.first, w.second)) in
    let k : 4 * i + 4 ≡ 4 * (i + 1) = omega arith in
    rw k at (next w 4 r (omega (arith, w.first)) (g ∙ rw (x, y)))

one_at : (xs : List ℕ) (j : ℕ) → j < length xs → take 1 (drop j xs) ≡ get_or xs j 0 ∷ []
one_at xs j h = rw (drop-cons xs j 0)

-- zeros behind two bytes differ in nothing
byte_alone : (x y : ℕ) → differing_bits (x ∷ 0 ∷ 0 ∷ 0 ∷ []) (y ∷ 0 ∷ 0 ∷ 0 ∷ []) ≡ differing_bits (x ∷ []) (y ∷ [])
unfolding differing_bits bits_of differing_positions digits
byte_alone x y = differ-more (x ∷ 0 ∷ 0 ∷ 0 ∷ []) (y ∷ 0 ∷ 0 ∷ 0 ∷ []) 1 3 (omega arith) (omega arith) ∙ zeros
  where
    none : differing_bits (0 ∷ 0 ∷ 0 ∷ []) (0 ∷ 0 ∷ 0 ∷ []) ≡ 0
    none = refl

    zeros : differing_bits (x ∷ []) (y ∷ []) + differing_bits (0 ∷ 0 ∷ 0 ∷ []) (0 ∷ 0 ∷ 0 ∷ []) ≡ differing_bits (x ∷ []) (y ∷ [])
    zeros = omega (arith, none)

pub byte_more : (xs ys p q : List ℕ) (n d i r : ℕ) → Counted xs ys n d (n / 4 * 4 + i) → p ≡ drop (length xs / 4 * 4) xs → q ≡ drop (length ys / 4 * 4) ys
    → i < length p → r ≡ differing_bits (get_or p i 0 ∷ 0 ∷ 0 ∷ 0 ∷ []) (get_or q i 0 ∷ 0 ∷ 0 ∷ 0 ∷ []) → Counted xs ys n (d + r) (n / 4 * 4 + (i + 1))
byte_more xs ys p q n d i r w e f h g =
    let j : ℕ = n / 4 * 4 + i in
    let l : i < length (drop (length xs / 4 * 4) xs) = rw (← e) h in
    let m : j < n = omega (arith, w.first, length-drop (length xs / 4 * 4) xs, l) in
    let x : get_or p i 0 ≡ get_or xs j 0 = rw (e, w.first) (get_or-drop (n / 4 * 4) xs i 0) in
    let y : get_or q i 0 ≡ get_or ys j 0 = rw (f, w.second) (get_or-drop (n / 4 * 4) ys i 0) in
    let k : j + 1 ≡ n / 4 * 4 + (i + 1) = omega arith in
    rw k at (next w 1 r (omega (arith, m)) (g ∙ byte_alone (get_or p i 0) (get_or q i 0) ∙ rw (x, y, one_at xs j (omega (arith, w.first)), one_at ys j (omega (arith, w.second)))))
