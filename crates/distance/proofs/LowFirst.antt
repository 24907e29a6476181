-- Bytes as a number, the first one lowest.
use Prim.Native.Nat.{ℕ, suc, ◌+◌, ◌-◌, ◌*◌, ◌^◌, ◌≤◌, ◌<◌}
use mathlib.Core.Path.{◌≡◌, refl, sym, ◌∙◌, ap}
use mathlib.Core.List.{List, [], ◌∷◌, ◌++◌, reverse, reverse_aux, append_assoc}
use native.Mathlib.Nat.{lt_of_lt_of_le}
use native.Mathlib.Omega.{arith}
use lib.ListN.{length, take, drop, get_or, length-reverse, take-append-drop, length-drop, drop_of_length-le}
use lib.Seq.{drop-cons, take_all, length-take-le}
use lib.Pow.{pow-add, pow_mono, pow_pos}
use lib.Arith.{digits_lt}
use Rattle.std.specs.Int.{from_le_bytes, w32}
use Rattle.iscc.specs.Digits.{value}
use Rattle.iscc.proofs.Digits.{value-append, value-snoc}

-- ---- two parts

reversed-onto : (xs us : List ℕ) → reverse_aux xs us ≡ reverse xs ++ us
reversed-onto [] us = refl
reversed-onto (x ∷ xs) us =
    reversed-onto xs (x ∷ us) ∙ sym (append_assoc (reverse xs) (x ∷ []) us) ∙ ap (λ (l : List ℕ). l ++ us) (sym (reversed-onto xs (x ∷ [])))

reversed-append : (xs ys us : List ℕ) → reverse_aux (xs ++ ys) us ≡ reverse_aux ys (reverse_aux xs us)
reversed-append [] ys us = refl
reversed-append (x ∷ xs) ys us = reversed-append xs ys (x ∷ us)

pub low-first-append : (xs ys : List ℕ) → value 8 (reverse (xs ++ ys)) ≡ value 8 (reverse ys) * 2 ^ (8 * length xs) + value 8 (reverse xs)
low-first-append xs ys =
    ap (value 8) (reversed-append xs ys [] ∙ reversed-onto ys (reverse xs)) ∙ value-append 8 (reverse ys) (reverse xs) ∙ rw (length-reverse xs)

one_more : (x : ℕ) (xs : List ℕ) → value 8 (reverse (x ∷ xs)) ≡ value 8 (reverse xs) * 256 + x
one_more x xs = ap (value 8) (reversed-onto xs (x ∷ [])) ∙ value-snoc 8 (reverse xs) x

-- ---- four bytes, and eight

pub four : (xs : List ℕ) (a b c d : ℕ) → length xs ≡ 4 → a ≡ get_or xs 0 0 → b ≡ get_or xs 1 0 → c ≡ get_or xs 2 0 → d ≡ get_or xs 3 0 →
    a + b * 256 + c * 65536 + d * 16777216 ≡ value 8 (reverse xs)
unfolding value
four (x ∷ y ∷ z ∷ w ∷ []) a b c d n e f g h = omega arith
four [] a b c d n e f g h = absurd (omega (arith, n))
four (x ∷ []) a b c d n e f g h = absurd (omega (arith, n))
four (x ∷ y ∷ []) a b c d n e f g h = absurd (omega (arith, n))
four (x ∷ y ∷ z ∷ []) a b c d n e f g h = absurd (omega (arith, n))
four (x ∷ y ∷ z ∷ w ∷ v ∷ xs) a b c d n e f g h = absurd (omega (arith, n))

pub eight : (xs : List ℕ) (x y : ℕ) → length xs ≡ 8 → x ≡ value 8 (reverse (take 4 (drop 0 xs))) → y ≡ value 8 (reverse (take 4 (drop 4 xs))) →
    x + y * 4294967296 ≡ value 8 (reverse xs)
eight xs x y n e f =
    let l : length (take 4 xs) ≡ 4 = length-take-le 4 xs (omega arith) in
    let t : take 4 (drop 4 xs) ≡ drop 4 xs = take_all 4 (drop 4 xs) (omega (arith, length-drop 4 xs)) in
    let p = low-first-append (take 4 xs) (drop 4 xs) in
    let q : value 8 (reverse xs) ≡ value 8 (reverse (drop 4 xs)) * 2 ^ (8 * 4) + value 8 (reverse (take 4 xs)) = rw (take-append-drop 4 xs, l) at p in
    omega (arith, q, e, rw t at f)

-- std's number of four bytes
pub by_low_first : (xs : List ℕ) → length xs ≡ 4 → from_le_bytes w32 xs ≡ value 8 (reverse xs)
by_low_first xs n = four xs _ _ _ _ n refl refl refl refl

-- ---- from the last byte on: x is the number of the bytes from i on

pub record LoadedFrom (xs : List ℕ) (i x : ℕ) : Type 0 where
  pub within : i ≤ length xs
  pub is : x ≡ value 8 (reverse (drop i xs))
  pub bound : x < 2 ^ (8 * (length xs - i))

pub loaded-none : (xs : List ℕ) → LoadedFrom xs (length xs) 0
unfolding value
loaded-none xs =
    record { within = omega arith; is = rw (drop_of_length-le xs {i = length xs} (omega arith)); bound = pow_pos (8 * (length xs - length xs)) }

pub loaded-one : (xs : List ℕ) (i x d : ℕ) → LoadedFrom xs i x → 0 < i → d ≡ get_or xs (i - 1) 0 → d < 256 → LoadedFrom xs (i - 1) (x * 256 + d)
loaded-one xs i x d s h e b =
    let n : suc (i - 1) ≡ i = omega arith in
    let c : drop (i - 1) xs ≡ d ∷ drop i xs = drop-cons xs (i - 1) 0 (omega (arith, s.within)) ∙ rw (n, e) in
    let m : 8 * (length xs - (i - 1)) ≡ 8 * (length xs - i) + 8 = omega (arith, s.within) in
    let p : 2 ^ (8 * (length xs - (i - 1))) ≡ 2 ^ (8 * (length xs - i)) * 2 ^ 8 = ap (λ (k : ℕ). 2 ^ k) m ∙ pow-add 2 (8 * (length xs - i)) 8 in
    record {
      within = omega (arith, s.within);
      is = sym (ap (λ (l : List ℕ). value 8 (reverse l)) c ∙ one_more d (drop i xs) ∙ rw s.is);
      bound = rw p (digits_lt s.bound b);
    }

pub loaded-small : (xs : List ℕ) (i x : ℕ) → LoadedFrom xs i x → length xs < 8 → 0 < i → x < 281474976710656
loaded-small xs i x s l h = lt_of_lt_of_le s.bound (pow_mono {i = 8 * (length xs - i)} {j = 48} (omega arith))

pub loaded-all : (xs : List ℕ) (i x : ℕ) → LoadedFrom xs i x → i ≤ 0 → x ≡ value 8 (reverse xs)
loaded-all xs i x s h = let e : i ≡ 0 = omega arith in s.is ∙ rw e
