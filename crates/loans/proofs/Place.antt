-- A place's bytes and what they hold, there and back.
use Prim.Native.Nat.{ℕ, zero, suc, ◌+◌, ◌-◌, ◌≤◌, ◌<◌}
use mathlib.Core.Path.{◌≡◌, refl, sym, ◌∙◌, ap, ap₂, subst}
use mathlib.Core.Bool.{Bool, true, false, cond, ◌&&◌}
use mathlib.Core.Option.{Option, none, some}
use mathlib.Core.List.{List, [], ◌∷◌, ◌++◌, append_assoc}
use native.Mathlib.Nat.{mod-eq_of_lt}
use native.Mathlib.Omega.{arith}
use lib.ListN.{length, take, drop, length-append, length-drop, length-replicate, take-append-drop}
use lib.Seq.{take-append_seam, drop-append_seam, take_at, drop_at, take_all, take-take, length-take-le}
use lib.Dec.{eqb, leb, ltb}
use borrow.Author.Tests.{le-leb, leb-true, eqb-true, ne_eqb, eq-eqb, ltb-true}
use Rattle.iscc.specs.Digits.{digits, value, Below, all_below}
use Rattle.iscc.proofs.Digits.{length_digits, value-digits, digits_value, below-take, below-drop, value-lt}
use Rattle.iscc.proofs.Booleans.{both_true}
use Rattle.loans.specs.Loan.{Loan, loan_of, one_code}
use Rattle.loans.specs.Place.{zeros, place_bytes, place_of, is_place}
use Rattle.loans.specs.Good.{GoodPlace}
use Rattle.loans.proofs.Loan.{is_code}

-- ---- zeros

pub length-zeros : (n : ℕ) → length (zeros n) ≡ n
unfolding zeros
length-zeros n = length-replicate n 0

pub zeros-test : (n : ℕ) → all_below 1 (zeros n) ≡ true
unfolding all_below zeros
zeros-test zero = refl
zeros-test (suc n) = zeros-test n

pub zeros_of : (bs : List ℕ) → all_below 1 bs ≡ true → bs ≡ zeros (length bs)
unfolding all_below zeros
zeros_of [] e = refl
zeros_of (b ∷ bs) e =
    let h = both_true (ltb b 1) (all_below 1 bs) e in
    let l : b < 1 = ltb-true b 1 h.0 in
    let z : b ≡ 0 = omega arith in
    ap₂ (λ (x : ℕ) (xs : List ℕ). x ∷ xs) z (zeros_of bs h.1)

-- ---- from a place to its bytes and back

module _ (c ds : List ℕ) where
  abbrev rest : List ℕ
  rest = c ++ (zeros (43 - length c) ++ ds)

  rest-code : take (length c) rest ≡ c
  rest-code = take-append_seam c (zeros (43 - length c) ++ ds)

  module _ (l : length c ≤ 42) where
    front_length : length (c ++ zeros (43 - length c)) ≡ 43
    front_length = simp (length-append, length-zeros) (omega arith)

    rest-front : take 43 rest ≡ c ++ zeros (43 - length c)
    rest-front =
        ap (take 43) (sym (append_assoc c (zeros (43 - length c)) ds)) ∙ take_at (c ++ zeros (43 - length c)) ds 43 front_length

    rest-fill : drop (length c) (take 43 rest) ≡ zeros (43 - length c)
    rest-fill = ap (drop (length c)) rest-front ∙ drop-append_seam c (zeros (43 - length c))

    rest_back : drop 43 rest ≡ ds
    rest_back = ap (drop 43) (sym (append_assoc c (zeros (43 - length c)) ds)) ∙ drop_at (c ++ zeros (43 - length c)) ds 43 front_length

    rest-length : length rest ≡ 43 + length ds
    rest-length = simp (length-append, length-zeros) (omega arith)

pub length-loan : (l : Loan) → length l.code ≤ 42 → length (place_bytes (some l)) ≡ 48
unfolding place_bytes
length-loan l m =
    ap suc (rest-length l.code (digits 8 4 l.borrower) m ∙ ap (λ (n : ℕ). 43 + n) (length_digits 8 4 l.borrower))

pub length-place : (p : Option Loan) → GoodPlace p → length (place_bytes p) ≡ 48
unfolding place_bytes
length-place none g = length-zeros 48
length-place (some l) g = length-loan l g.code.most

pub place_is : (p : Option Loan) → GoodPlace p → is_place (place_bytes p) ≡ true
unfolding place_bytes is_place all_below zeros
place_is none g = refl
place_is (some l) g =
    let s : 0 < length l.code = g.code.some in
    let m : length l.code ≤ 42 = g.code.most in
    let ds : List ℕ = digits 8 4 l.borrower in
    let z : eqb (length l.code) 0 ≡ false = ne_eqb (length l.code) 0 (λ e. omega arith) in
    rw (z, le-leb (length l.code) 42 m, rest-code l.code ds, g.code.one, rest-fill l.code ds m) (zeros-test (43 - length l.code))

-- a borrower, or a record number
pub four-bytes-back : (n : ℕ) → n < 4294967296 → value 8 (digits 8 4 n) ≡ n
four-bytes-back n h = value-digits 8 4 n ∙ mod-eq_of_lt h

pub place-of : (p : Option Loan) → GoodPlace p → place_of (place_bytes p) ≡ p
unfolding place_bytes place_of zeros
place-of none g = refl
place-of (some l) g =
    let s : 0 < length l.code = g.code.some in
    let m : length l.code ≤ 42 = g.code.most in
    let ds : List ℕ = digits 8 4 l.borrower in
    let z : eqb (length l.code) 0 ≡ false = ne_eqb (length l.code) 0 (λ e. omega arith) in
    let v : value 8 (take 4 ds) ≡ l.borrower = ap (value 8) (take_all 4 ds (omega (arith, length_digits 8 4 l.borrower))) ∙ four-bytes-back l.borrower g.borrower in
    rw (z, rest-code l.code ds, rest_back l.code ds m, v)

-- ---- from 48 bytes to a place and back

module _ (n : ℕ) (xs : List ℕ) (l : length xs ≡ 47) (k : Below 256 xs) (m : n ≤ 42) where
  code-length : length (take n xs) ≡ n
  code-length = length-take-le n xs (omega arith)

  back-length : length (drop 43 xs) ≡ 4
  back-length = simp length-drop (omega arith)

  back-digits : digits 8 4 (value 8 (take 4 (drop 43 xs))) ≡ drop 43 xs
  back-digits =
      ap (λ (ds : List ℕ). digits 8 4 (value 8 ds)) (take_all 4 (drop 43 xs) (omega (arith, back-length)))
      ∙ ap (λ (j : ℕ). digits 8 j (value 8 (drop 43 xs))) (sym back-length) ∙ digits_value 8 (drop 43 xs) (below-drop 256 43 xs k)

  fill-length : length (drop n (take 43 xs)) ≡ 43 - n
  fill-length = length-drop n (take 43 xs) ∙ ap (λ (j : ℕ). j - n) (length-take-le 43 xs (omega arith))

  fill-zeros : all_below 1 (drop n (take 43 xs)) ≡ true → drop n (take 43 xs) ≡ zeros (43 - length (take n xs))
  fill-zeros z =
      zeros_of (drop n (take 43 xs)) z ∙ ap (λ (j : ℕ). zeros j) (fill-length ∙ ap (λ (j : ℕ). 43 - j) (sym code-length))

  bytes-again : all_below 1 (drop n (take 43 xs)) ≡ true
      → take n xs ++ (zeros (43 - length (take n xs)) ++ digits 8 4 (value 8 (take 4 (drop 43 xs)))) ≡ xs
  bytes-again z =
      rw (← fill-zeros z, back-digits)
      (sym (append_assoc (take n xs) (drop n (take 43 xs)) (drop 43 xs))
      ∙ ap (λ (ys : List ℕ). ys ++ drop n (take 43 xs) ++ drop 43 xs) (sym (take-take n 43 xs (omega arith)))
      ∙ ap (λ (ys : List ℕ). ys ++ drop 43 xs) (take-append-drop n (take 43 xs)) ∙ take-append-drop 43 xs)

  value-small : value 8 (take 4 (drop 43 xs)) < 4294967296
  value-small =
      let e : length (take 4 (drop 43 xs)) ≡ 4 = length-take-le 4 (drop 43 xs) (omega (arith, back-length)) in
      rw e at (value-lt 8 (take 4 (drop 43 xs)) (below-take 256 4 (drop 43 xs) (below-drop 256 43 xs k)))

pub record PlaceBack (bs : List ℕ) : Type 0 where
  pub good : GoodPlace (place_of bs)
  pub again : place_bytes (place_of bs) ≡ bs

module _ (n : ℕ) (xs : List ℕ) (l : length xs ≡ 47) (k : Below 256 (n ∷ xs)) where
  free_back : n ≡ 0 → all_below 1 (n ∷ xs) ≡ true → PlaceBack (n ∷ xs)
  unfolding place_bytes place_of
  free_back z e =
      let o : place_of (n ∷ xs) ≡ none = rw (eq-eqb n 0 z) in
      let r : zeros 48 ≡ n ∷ xs = ap (λ (j : ℕ). zeros (suc j)) (sym l) ∙ sym (zeros_of (n ∷ xs) e) in
      record { good = subst GoodPlace (sym o) tt; again = ap place_bytes o ∙ r }

  used-back : eqb n 0 ≡ false → leb n 42 && one_code (take n xs) && all_below 1 (drop n (take 43 xs)) ≡ true → PlaceBack (n ∷ xs)
  unfolding place_bytes place_of
  used-back z e =
      let a = both_true (leb n 42 && one_code (take n xs)) (all_below 1 (drop n (take 43 xs))) e in
      let b = both_true (leb n 42) (one_code (take n xs)) a.0 in
      let m : n ≤ 42 = leb-true n 42 b.0 in
      let h : Loan = loan_of (take n xs) (value 8 (take 4 (drop 43 xs))) in
      let o : place_of (n ∷ xs) ≡ some h = rw z in
      record {
        good =
            subst GoodPlace (sym o)
            (record { code = is_code (take n xs) (below-take 256 n xs k.1) b.1; borrower = value-small n xs l k.1 m });
        again = ap place_bytes o ∙ ap₂ (λ (x : ℕ) (ys : List ℕ). x ∷ ys) (code-length n xs l k.1 m) (bytes-again n xs l k.1 m a.1);
      }

pub place-back : (bs : List ℕ) → length bs ≡ 48 → Below 256 bs → is_place bs ≡ true → PlaceBack bs
unfolding is_place
place-back [] l k e = let z : ◌≡◌ {A = ℕ} 0 48 = l in absurd (omega arith)
place-back (n ∷ xs) l k e = go (eqb n 0) refl e
  where
    go : (b : Bool) → eqb n 0 ≡ b → cond b (all_below 1 (n ∷ xs)) (leb n 42 && one_code (take n xs) && all_below 1 (drop n (take 43 xs))) ≡ true → PlaceBack (n ∷ xs)
    go true z w = free_back n xs (omega arith) k (eqb-true n 0 z) w
    go false z w = used-back n xs (omega arith) k z w
