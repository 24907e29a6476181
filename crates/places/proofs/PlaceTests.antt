-- The tests of a used place as branches make them, and of zeros as a loop does.
use Prim.Native.Nat.{ℕ, zero, suc, ◌+◌, ◌-◌, ◌≤◌, ◌<◌}
use mathlib.Core.Path.{◌≡◌, refl, sym, ◌∙◌, ap}
use mathlib.Core.Bool.{Bool, true, false, cond, ◌&&◌, and-false}
use mathlib.Core.List.{List}
use native.Mathlib.Numerals.{add-one}
use native.Mathlib.Omega.{arith}
use lib.ListN.{length, get_or, take, drop, drop_of_length-le}
use lib.Seq.{drop-cons, drop-drop}
use lib.Dec.{eqb, ltb}
use Rattle.std.proofs.Common.{Less, Equal, Greater}
use Rattle.std.specs.Ordering.{nat_cmp, is_lt, ord_max}
use borrow.Author.Tests.{ltb-true, ltb-false, lt-ltb, le-ltb, eq-eqb, ne_eqb, le-leb, lt-leb}
use Rattle.iscc.specs.Digits.{all_below}
use Rattle.iscc.proofs.Parts.{drop-take}
use Rattle.loans.specs.Loan.{one_code}
use Rattle.loans.specs.Place.{is_place}
use Rattle.places.specs.Used.{is_used}

-- ---- zeros, by the largest m of the first i bytes

pub record Zeros (bs : List ℕ) (i m : ℕ) : Type 0 where
  pub within : i ≤ length bs
  pub is : (eqb m 0 && all_below 1 (drop i bs)) ≡ all_below 1 bs

pub zeros-none : (bs : List ℕ) → Zeros bs 0 0
zeros-none bs = record { within = omega arith; is = refl }

module _ {bs : List ℕ} {i m : ℕ} (z : Zeros bs i m) (h : i < length bs) where
  -- a larger byte: it is not zero
  zeros-new : m < get_or bs i 0 → Zeros bs (i + 1) (get_or bs i 0)
  unfolding all_below
  zeros-new l =
      let f : all_below 1 (drop i bs) ≡ false = rw (drop-cons bs i 0 h, le-ltb (get_or bs i 0) 1 (omega arith)) in
      let g : false ≡ all_below 1 bs = sym (and-false (eqb m 0)) ∙ (rw f at z.is) in
      record { within = omega arith; is = rw (ne_eqb (get_or bs i 0) 0 (omega arith)) g }

  zeros-kept : get_or bs i 0 ≤ m → Zeros bs (i + 1) m
  unfolding all_below
  zeros-kept l = record { within = omega arith; is = go m l z.is }
    where
      go : (m : ℕ) → get_or bs i 0 ≤ m → (eqb m 0 && all_below 1 (drop i bs)) ≡ all_below 1 bs → (eqb m 0 && all_below 1 (drop (i + 1) bs)) ≡ all_below 1 bs
      go zero l e = sym (rw (drop-cons bs i 0 h, lt-ltb (get_or bs i 0) 1 (omega arith), add-one) refl) ∙ e
      go (suc m) l e = let n : eqb (suc m) 0 ≡ false = ne_eqb (suc m) 0 (omega arith) in rw n (rw n at e)

max-is : (a b : ℕ) → ord_max nat_cmp a b ≡ cond (ltb b a) a b
max-is a b = go (ltb b a) (eqb b a)
  where
    go : (p q : Bool) → cond (is_lt (cond p Less (cond q Equal Greater))) a b ≡ cond p a b
    go true q = refl
    go false true = refl
    go false false = refl

pub zeros-next : {bs : List ℕ} {i m r : ℕ} → Zeros bs i m → i < length bs → r ≡ ord_max nat_cmp m (get_or bs i 0) → Zeros bs (i + 1) r
zeros-next {bs} {i} {m} {r} z h e = go (ltb (get_or bs i 0) m) (ltb m (get_or bs i 0)) refl refl
  where
    at-most : (p : Bool) → ltb (get_or bs i 0) m ≡ p → r ≡ cond p m (get_or bs i 0)
    at-most p w = e ∙ max-is m (get_or bs i 0) ∙ ap (λ (q : Bool). cond q m (get_or bs i 0)) w

    go : (p q : Bool) → ltb (get_or bs i 0) m ≡ p → ltb m (get_or bs i 0) ≡ q → Zeros bs (i + 1) r
    go true q w v = rw (at-most true w) (zeros-kept z h (omega (arith, ltb-true (get_or bs i 0) m w)))
    go false true w v = rw (at-most false w) (zeros-new z h (ltb-true m (get_or bs i 0) v))
    go false false w v =
        let k : get_or bs i 0 ≡ m = omega (arith, ltb-false (get_or bs i 0) m w, ltb-false m (get_or bs i 0) v) in
        rw (at-most false w, k) (zeros-kept z h (omega (arith, k)))

pub zeros-all : {bs : List ℕ} {i m : ℕ} → Zeros bs i m → length bs ≤ i → eqb m 0 ≡ all_below 1 bs
unfolding all_below
zeros-all {bs} {i} {m} z h = go (eqb m 0) (sym (ap (λ (xs : List ℕ). eqb m 0 && all_below 1 xs) (drop_of_length-le bs h)) ∙ z.is)
  where
    go : (b : Bool) → (b && true) ≡ all_below 1 bs → b ≡ all_below 1 bs
    go true e = e
    go false e = e

-- ---- a used place

module _ (bs : List ℕ) (n : ℕ) (e : n ≡ get_or bs 0 0) where
  pub used-none : n ≡ 0 → false ≡ is_used bs
  unfolding is_used
  used-none z = rw (← e, eq-eqb n 0 z)

  module _ (z : n ≡ 0 → ⊥) where
    pub used-long : 42 < n → false ≡ is_used bs
    unfolding is_used is_place
    used-long h = rw (← e, ne_eqb n 0 z, lt-leb n 42 h)

    module _ (h : n ≤ 42) where
      code-part : take (1 + n - 1) (drop 1 bs) ≡ take n (drop 1 bs)
      code-part = let k : 1 + n - 1 ≡ n = omega arith in ap (λ (j : ℕ). take j (drop 1 bs)) k

      fill-part : take (44 - (1 + n)) (drop (1 + n) bs) ≡ drop n (take 43 (drop 1 bs))
      fill-part =
          let k : 44 - (1 + n) ≡ 43 - n = omega arith in
          ap (λ (j : ℕ). take j (drop (1 + n) bs)) k ∙ ap (take (43 - n)) (sym (drop-drop n 1 bs)) ∙ sym (drop-take n 43 (drop 1 bs))

      pub used-bad : (r : Bool) → r ≡ one_code (take (1 + n - 1) (drop 1 bs)) → r ≡ false → false ≡ is_used bs
      unfolding is_used is_place
      used-bad r p q =
          let o : one_code (take n (drop 1 bs)) ≡ false = ap one_code (sym code-part) ∙ sym p ∙ q in
          rw (← e, ne_eqb n 0 z, le-leb n 42 h, o)

      pub used-code : (r s : Bool) → r ≡ one_code (take (1 + n - 1) (drop 1 bs)) → r ≡ true → s ≡ all_below 1 (take (44 - (1 + n)) (drop (1 + n) bs)) → s ≡ is_used bs
      unfolding is_used is_place
      used-code r s p q w =
          let o : one_code (take n (drop 1 bs)) ≡ true = ap one_code (sym code-part) ∙ sym p ∙ q in
          rw (← e, ne_eqb n 0 z, le-leb n 42 h, o) (w ∙ ap (all_below 1) fill-part)
