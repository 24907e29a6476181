-- The laws of varnibbles.
use Prim.Native.Nat.{ℕ, suc, ◌+◌, ◌-◌, ◌*◌, ◌%◌, ◌^◌, ◌≤◌, ◌<◌}
use mathlib.Core.Path.{◌≡◌, refl, ◌∙◌, ap, subst}
use mathlib.Core.Bool.{Bool, true, false, cond, ◌&&◌, and-false}
use mathlib.Core.List.{List, [], ◌∷◌, ◌++◌}
use native.Mathlib.Nat.{le_of_suc-le-suc, add-zero}
use native.Mathlib.Decide.{dec_lt, dec_le}
use native.Mathlib.Omega.{arith}
use lib.ListN.{length, get_or, take, drop, length-append, length-drop, get_or-append}
use lib.Seq.{take_at, length-take-le, get_or-drop}
use lib.Dec.{ltb, leb, lit<}
use borrow.Author.Tests.{lt-ltb, le-ltb, le-leb, lt-leb, ltb-true, leb-true}
use Rattle.iscc.specs.Answer.{accept, refuse, ◌>>◌, ◌otherwise◌}
use Rattle.iscc.specs.Refusals.{bad_header}
use Rattle.iscc.specs.Digits.{digits, value, Below}
use Rattle.iscc.specs.Varnibble.{first_of, prefix_of, row_of, row_by, varnibble, Parsed, parsed, read_varnibble}
use Rattle.iscc.proofs.Digits.{length_digits, digits-below, value-digits, digits_value, value-lt, below-take}
use Rattle.iscc.proofs.Answer.{passed, never, Tested}

-- the four rows
pub rows {ℓ} : (P : ℕ → Type ℓ) (n : ℕ) → n ≤ 4679 → (n < 8 → row_of n ≡ 1 → P n) → (8 ≤ n → n < 72 → row_of n ≡ 2 → P n)
    → (72 ≤ n → n < 584 → row_of n ≡ 3 → P n) → (584 ≤ n → row_of n ≡ 4 → P n) → P n
unfolding row_of
rows P n h a b c d =
    elim (dec_lt n 8) [
      | yes x ↦ a x (simp (lt-ltb n 8 x))
      | no x ↦
          elim (dec_lt n 72) [
            | yes y ↦ b (lt-of-not-lt x) y (simp (le-ltb n 8 (lt-of-not-lt x), lt-ltb n 72 y))
            | no y ↦
                elim (dec_lt n 584) [
                  | yes z ↦ c (lt-of-not-lt y) z (simp (le-ltb n 8 (lt-of-not-lt x), le-ltb n 72 (lt-of-not-lt y), lt-ltb n 584 z))
                  | no z ↦
                      d (lt-of-not-lt z) (simp (le-ltb n 8 (lt-of-not-lt x), le-ltb n 72 (lt-of-not-lt y), le-ltb n 584 (lt-of-not-lt z)))
                ]
          ]
    ]
  where
    lt-of-not-lt : {i j : ℕ} → ¬ (i < j) → j ≤ i
    lt-of-not-lt g = omega arith

pub length-varnibble : (n : ℕ) → length (varnibble n) ≡ row_of n
unfolding varnibble
length-varnibble n = length_digits 4 (row_of n) _

pub varnibble-below : (n : ℕ) → Below 16 (varnibble n)
unfolding varnibble
varnibble-below n = digits-below 4 (row_of n) _

-- the row of a first nibble
by-1 : {h : ℕ} → h < 8 → row_by h ≡ 1
unfolding row_by
by-1 {h} a = simp (lt-ltb h 8 a)

by_2 : {h : ℕ} → 8 ≤ h → h < 12 → row_by h ≡ 2
unfolding row_by
by_2 {h} a b = simp (le-ltb h 8 a, lt-ltb h 12 b)

by-3 : {h : ℕ} → 12 ≤ h → h < 14 → row_by h ≡ 3
unfolding row_by
by-3 {h} a b =
    let c : 8 ≤ h = omega arith in
    simp (le-ltb h 8 c, le-ltb h 12 a, lt-ltb h 14 b)

by_4 : {h : ℕ} → 14 ≤ h → row_by h ≡ 4
unfolding row_by
by_4 {h} a =
    let c : 8 ≤ h = omega arith in
    let d : 12 ≤ h = omega arith in
    simp (le-ltb h 8 c, le-ltb h 12 d, le-ltb h 14 a)

-- a varnibble has at least one nibble
pub row-some : (h : ℕ) → 0 < row_by h
unfolding row_by
row-some h = go (ltb h 8) (ltb h 12) (ltb h 14)
  where
    go : (a b c : Bool) → 0 < cond a 1 (cond b 2 (cond c 3 4))
    go true b c = lit< tt
    go false true c = lit< tt
    go false false true = lit< tt
    go false false false = lit< tt

-- a varnibble by its first nibble's row
read-row : (k : ℕ) (ds rest : List ℕ) (n : ℕ) → row_by (get_or ds 0 0) ≡ k → get_or ds 0 0 < 15 → 0 < k → length ds ≡ k → first_of k + value 4 ds % 2 ^ (3 * k) ≡ n
    → read_varnibble (ds ++ rest) ≡ accept (parsed n k)
unfolding read_varnibble
read-row k ds rest n r l p len e =
    let z : 0 < length (ds ++ rest) = simp length-append (omega arith) in
    let m : k ≤ length (ds ++ rest) = simp length-append (omega arith) in
    let t : take k (ds ++ rest) ≡ ds = take_at ds rest k len in
    let g : get_or (ds ++ rest) 0 0 ≡ get_or ds 0 0 = get_or-append ds rest 0 0 (omega arith) in
    rw (g, r, lt-ltb 0 (length (ds ++ rest)) z, lt-ltb (get_or ds 0 0) 15 l, le-leb k (length (ds ++ rest)) m, t, e)

-- the same, of a row's prefix and data
module _ (k n : ℕ) (rest : List ℕ) (row : row_of n ≡ k) (some : 0 < k) where
  abbrev bits : ℕ
  bits = prefix_of k * 2 ^ (3 * k) + (n - first_of k)

  read_at : row_by (get_or (digits 4 k bits) 0 0) ≡ k → get_or (digits 4 k bits) 0 0 < 15 → first_of k + bits % 2 ^ (4 * k) % 2 ^ (3 * k) ≡ n
      → read_varnibble (varnibble n ++ rest) ≡ accept (parsed n (row_of n))
  unfolding varnibble
  read_at a b c =
      rw row (read-row k (digits 4 k bits) rest n a b some (length_digits 4 k bits) (rw (value-digits 4 k bits) c))

-- what is written reads back
pub read-varnibble : (n : ℕ) (rest : List ℕ) → n ≤ 4679 → read_varnibble (varnibble n ++ rest) ≡ accept (parsed n (row_of n))
unfolding digits prefix_of first_of
read-varnibble n rest h =
    rows (λ n. read_varnibble (varnibble n ++ rest) ≡ accept (parsed n (row_of n))) n h
    (λ a r. read_at 1 n rest r (omega arith) (by-1 (omega arith)) (omega arith) (omega arith))
    (λ a b r. read_at 2 n rest r (omega arith) (by_2 (omega arith) (omega arith)) (omega arith) (omega arith))
    (λ a b r. read_at 3 n rest r (omega arith) (by-3 (omega arith) (omega arith)) (omega arith) (omega arith))
    (λ a r. read_at 4 n rest r (omega arith) (by_4 (omega arith)) (omega arith) (omega arith))

-- ---- what is read and written again is the same nibbles

pub record Back (ns : List ℕ) (g : Parsed ℕ) : Type 0 where
  pub small : g.result ≤ 4679
  pub row : row_of g.result ≡ g.used
  pub within : g.used ≤ length ns
  pub again : varnibble g.result ≡ take g.used ns

row-is-2 : {n : ℕ} → 8 ≤ n → n < 72 → row_of n ≡ 2
unfolding row_of
row-is-2 {n} a b = simp (le-ltb n 8 a, lt-ltb n 72 b)

row-is-3 : {n : ℕ} → 72 ≤ n → n < 584 → row_of n ≡ 3
unfolding row_of
row-is-3 {n} a b = let c : 8 ≤ n = omega arith in simp (le-ltb n 8 c, le-ltb n 72 a, lt-ltb n 584 b)

row-is-4 : {n : ℕ} → 584 ≤ n → row_of n ≡ 4
unfolding row_of
row-is-4 {n} a = let c : 8 ≤ n = omega arith in let d : 72 ≤ n = omega arith in simp (le-ltb n 8 c, le-ltb n 72 d, le-ltb n 584 a)

pub row-is-1 : {n : ℕ} → n < 8 → row_of n ≡ 1
unfolding row_of
row-is-1 {n} a = simp (lt-ltb n 8 a)

-- the four rows of a first nibble
rows-by {ℓ} : (P : ℕ → Type ℓ) (h : ℕ) → h < 15 → (h < 8 → P 1) → (8 ≤ h → h < 12 → P 2) → (12 ≤ h → h < 14 → P 3) → (14 ≤ h → P 4) → P (row_by h)
rows-by P h l a b c d =
    elim (dec_lt h 8) [
      | yes x ↦ rw (by-1 x) (a x)
      | no x ↦
          elim (dec_lt h 12) [
            | yes y ↦ rw (by_2 (omega arith) y) (b (omega arith) y)
            | no y ↦
                elim (dec_lt h 14) [ yes z ↦ rw (by-3 (omega arith) z) (c (omega arith) z) | no z ↦ rw (by_4 {h = h} (omega arith)) (d (omega arith)) ]
          ]
    ]

-- a run of nibbles by its first
pub record Led (h k v : ℕ) : Type 0 where
  pub low : ℕ
  pub is : v ≡ h * 2 ^ (4 * k) + low
  pub lt : low < 2 ^ (4 * k)

led : (h k : ℕ) (tl : List ℕ) → Below 16 tl → suc k ≤ length (h ∷ tl) → Led h k (value 4 (take (suc k) (h ∷ tl)))
unfolding value
led h k tl b l =
    let len : length (take k tl) ≡ k = length-take-le k tl (le_of_suc-le-suc l) in
    record { low = value 4 (take k tl); is = rw len; lt = rw len at (value-lt 4 (take k tl) (below-take 16 k tl b)) }

abbrev number_in : ℕ → List ℕ → ℕ
number_in k ns = first_of k + value 4 (take k ns) % 2 ^ (3 * k)

back-row : (k : ℕ) (ns : List ℕ) → Below 16 ns → k ≤ length ns → number_in k ns ≤ 4679 → row_of (number_in k ns) ≡ k
    → prefix_of k * 2 ^ (3 * k) + (number_in k ns - first_of k) ≡ value 4 (take k ns) → Back ns (parsed (number_in k ns) k)
unfolding varnibble
back-row k ns b l s r e =
    let len : length (take k ns) ≡ k = length-take-le k ns l in
    let d : digits 4 k (value 4 (take k ns)) ≡ take k ns = rw len at (digits_value 4 (take k ns) (below-take 16 k ns b)) in
    record { small = s; row = r; within = l; again = rw (r, e) d }

pub varnibble-read : (ns : List ℕ) (g : Parsed ℕ) → Below 16 ns → read_varnibble ns ≡ accept g → Back ns g
unfolding read_varnibble prefix_of first_of
varnibble-read [] g b e = absurd (never e)
varnibble-read (h ∷ tl) g b e =
    let ns : List ℕ = h ∷ tl in
    let p₁ = passed (ltb 0 (length ns)) _ _ e in
    let p₂ = passed (ltb h 15) _ _ p₁.1 in
    let p₃ = passed (leb (row_by h) (length ns)) _ _ p₂.1 in
    let l : row_by h ≤ length ns = leb-true (row_by h) (length ns) p₃.0 in
    let same : parsed (number_in (row_by h) ns) (row_by h) ≡ g = let z = p₃.1 in cc in
    let good : row_by h ≤ length ns → Back ns (parsed (number_in (row_by h) ns) (row_by h)) =
    rows-by (λ k. k ≤ length ns → Back ns (parsed (number_in k ns) k)) h (ltb-true h 15 p₂.0)
    (λ x l. let d = led h 0 tl b.1 l in back-row 1 ns b l (omega arith) (row-is-1 (omega arith)) (omega arith))
    (λ x y l. let d = led h 1 tl b.1 l in back-row 2 ns b l (omega arith) (row-is-2 (omega arith) (omega arith)) (omega arith))
    (λ x y l. let d = led h 2 tl b.1 l in back-row 3 ns b l (omega arith) (row-is-3 (omega arith) (omega arith)) (omega arith))
    (λ x l. let d = led h 3 tl b.1 l in let y : h < 15 = ltb-true h 15 p₂.0 in back-row 4 ns b l (omega arith) (row-is-4 (omega arith)) (omega arith)) in
    subst (Back ns) same (good l)

-- ---- by index, for code that reads at a nibble of a longer run

module _ (ns : List ℕ) (at : ℕ) where
  here : get_or (drop at ns) 0 0 ≡ get_or ns at 0
  here = get_or-drop at ns 0 0 ∙ ap (λ (i : ℕ). get_or ns i 0) (add-zero at)

  -- its nibbles are there, and its first one means something: the reader's tests, as one
  abbrev pub is_there : Bool
  is_there = leb (at + row_by (get_or ns at 0)) (length ns)

  abbrev pub means : Bool
  means = ltb (get_or ns at 0) 15

  abbrev pub varnibble_at : Parsed ℕ
  varnibble_at =
      let k : ℕ = row_by (get_or ns at 0) in
      parsed (first_of k + value 4 (take k (drop at ns)) % 2 ^ (3 * k)) k

  there-is : (k n : ℕ) → 0 < k → (ltb 0 (n - at) && leb k (n - at)) ≡ leb (at + k) n
  there-is k n h =
      elim (dec_le (at + k) n) [
        | yes l ↦ rw (le-leb (at + k) n l, lt-ltb 0 (n - at) (omega arith), le-leb k (n - at) (omega arith))
        | no l ↦ rw (lt-leb (at + k) n (omega arith), lt-leb k (n - at) (omega arith)) (and-false (ltb 0 (n - at)))
      ]

  pub varnibble-test : Tested (is_there && means) bad_header varnibble_at (read_varnibble (drop at ns))
  unfolding read_varnibble
  varnibble-test =
      record {
        is =
            rw (here, length-drop at ns)
            (regroup varnibble_at (ltb 0 (length ns - at)) means (leb (row_by (get_or ns at 0)) (length ns - at))
            ∙ ap (λ (b : Bool). b && means otherwise bad_header >> accept varnibble_at) (there-is (row_by (get_or ns at 0)) (length ns) (row-some (get_or ns at 0))));
      }
    where
      regroup : {A : Type 0} (x : A) (a b c : Bool)
          → (a otherwise bad_header >> (b otherwise bad_header >> (c otherwise bad_header >> accept x))) ≡ ((a && c) && b otherwise bad_header >> accept x)
      regroup x true true true = refl
      regroup x true true false = refl
      regroup x true false true = refl
      regroup x true false false = refl
      regroup x false b c = refl

  pub read-ones : 15 ≤ get_or ns at 0 → read_varnibble (drop at ns) ≡ refuse bad_header
  read-ones h = varnibble-test.is ∙ rw (le-ltb (get_or ns at 0) 15 h, and-false is_there)

  pub read-cut : length ns < at + row_by (get_or ns at 0) → read_varnibble (drop at ns) ≡ refuse bad_header
  read-cut h = varnibble-test.is ∙ rw (lt-leb (at + row_by (get_or ns at 0)) (length ns) h)

  pub read_here : get_or ns at 0 < 15 → at + row_by (get_or ns at 0) ≤ length ns → read_varnibble (drop at ns) ≡ accept varnibble_at
  read_here h l = varnibble-test.is ∙ rw (lt-ltb (get_or ns at 0) 15 h, le-leb (at + row_by (get_or ns at 0)) (length ns) l)
