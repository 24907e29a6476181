-- One loan more and one fewer, as bytes put in and taken out.
use Prim.Native.Nat.{ℕ, zero, suc, ◌+◌, ◌-◌, ◌*◌, ◌≤◌, ◌<◌}
use mathlib.Core.Path.{◌≡◌, refl, sym, ◌∙◌, ap}
use mathlib.Core.Option.{some}
use mathlib.Core.List.{List, [], ◌∷◌, ◌++◌, append_assoc}
use native.Mathlib.Nat.{not-suc-le-zero, le_of_suc-le-suc}
use native.Mathlib.Omega.{arith}
use lib.ListN.{length, take, drop, length-append, length-drop, take-append-drop}
use lib.Seq.{take_at, drop_at, drop-drop, split_at, length-take-le}
use Rattle.loans.specs.Loan.{Loan, loan_of}
use Rattle.loans.specs.Place.{zeros, place_bytes, places_bytes}
use Rattle.loans.specs.Order.{placed}
use Rattle.loans.specs.Halving.{loan_in}
use Rattle.loans.specs.Good.{GoodLoan, GoodLoans}
use Rattle.loans.specs.Moves.{put_in, taken_out}
use Rattle.loans.proofs.Place.{length-place, length-loan, length-zeros}
use Rattle.loans.proofs.Places.{zeros-more, free_bytes}

-- the places of loans alone, without the free ones behind them
unfoldable pub used_bytes : List Loan → List ℕ
used_bytes [] = []
used_bytes (l ∷ ls) = place_bytes (some l) ++ used_bytes ls

used-append : (xs ys : List Loan) → used_bytes (xs ++ ys) ≡ used_bytes xs ++ used_bytes ys
unfolding used_bytes
used-append [] ys = refl
used-append (x ∷ xs) ys = ap (λ (bs : List ℕ). place_bytes (some x) ++ bs) (used-append xs ys) ∙ sym (append_assoc (place_bytes (some x)) (used_bytes xs) (used_bytes ys))

pub used-length : (ls : List Loan) → GoodLoans ls → length (used_bytes ls) ≡ 48 * length ls
unfolding used_bytes
used-length [] g = refl
used-length (l ∷ ls) g =
    let a : length (place_bytes (some l)) ≡ 48 = length-place (some l) g.0 in
    let b : length (used_bytes ls) ≡ 48 * length ls = used-length ls g.1 in
    simp length-append (omega arith)

pub placed-bytes : (n : ℕ) (ls : List Loan) → length ls ≤ n → places_bytes (placed n ls) ≡ used_bytes ls ++ zeros (48 * (n - length ls))
unfolding placed used_bytes places_bytes
placed-bytes n [] h = let k : n - 0 ≡ n = omega arith in rw k (free_bytes n)
placed-bytes n (l ∷ ls) h =
    let k : n - suc (length ls) ≡ n - 1 - length ls = omega arith in
    ap (λ (bs : List ℕ). place_bytes (some l) ++ bs) (placed-bytes (n - 1) ls (omega arith))
    ∙ ap (λ (j : ℕ). place_bytes (some l) ++ (used_bytes ls ++ zeros (48 * j))) (sym k) ∙ sym (append_assoc (place_bytes (some l)) (used_bytes ls) (zeros (48 * (n - suc (length ls)))))

-- ---- bytes in parts: some put in behind the first, or the second taken out

put-in-at : (a b z d new : List ℕ) (offset end : ℕ) → length a ≡ offset → length b ≡ end - offset → offset ≤ end → length z ≡ length new
    → put_in offset end new (a ++ (b ++ (z ++ d))) ≡ a ++ (new ++ (b ++ d))
unfolding put_in
put-in-at a b z d new offset end la lb h lz =
    let m : take (end - offset) (drop offset (a ++ (b ++ (z ++ d)))) ≡ b = ap (take (end - offset)) (drop_at a (b ++ (z ++ d)) offset la) ∙ take_at b (z ++ d) (end - offset) lb in
    let g : a ++ (b ++ (z ++ d)) ≡ (a ++ (b ++ z)) ++ d = ap (λ (xs : List ℕ). a ++ xs) (sym (append_assoc b z d)) ∙ sym (append_assoc a (b ++ z) d) in
    let l : length (a ++ (b ++ z)) ≡ end + length new = length-append a (b ++ z) ∙ omega (arith, length-append b z, la, lb, h, lz) in
    let r : drop (end + length new) (a ++ (b ++ (z ++ d))) ≡ d = ap (drop (end + length new)) g ∙ drop_at (a ++ (b ++ z)) d (end + length new) l in
    rw (take_at a (b ++ (z ++ d)) offset la, m, r)

taken-out-at : (a x b d : List ℕ) (offset count end : ℕ) → length a ≡ offset → length x ≡ count → length b ≡ end - (offset + count) → offset + count ≤ end
    → taken_out offset count end (a ++ (x ++ (b ++ d))) ≡ a ++ (b ++ (zeros count ++ d))
unfolding taken_out
taken-out-at a x b d offset count end la lx lb h =
    let l : length (a ++ x) ≡ offset + count = length-append a x ∙ omega (arith, la, lx) in
    let q : drop (offset + count) (a ++ (x ++ (b ++ d))) ≡ b ++ d = ap (drop (offset + count)) (sym (append_assoc a x (b ++ d))) ∙ drop_at (a ++ x) (b ++ d) (offset + count) l in
    let m : take (end - (offset + count)) (drop (offset + count) (a ++ (x ++ (b ++ d)))) ≡ b = ap (take (end - (offset + count))) q ∙ take_at b d (end - (offset + count)) lb in
    let s : end ≡ offset + count + length b = omega (arith, lb, h) in
    let r : drop end (a ++ (x ++ (b ++ d))) ≡ d =
    ap (λ (k : ℕ). drop k (a ++ (x ++ (b ++ d)))) s ∙ sym (drop-drop (length b) (offset + count) (a ++ (x ++ (b ++ d)))) ∙ ap (drop (length b)) q ∙ drop_at b d (length b) refl in
    rw (take_at a (x ++ (b ++ d)) offset la, m, r)

-- ---- in the register's bytes

good-take : (n : ℕ) (ls : List Loan) → GoodLoans ls → GoodLoans (take n ls)
good-take zero ls g = tt
good-take (suc n) [] g = tt
good-take (suc n) (l ∷ ls) g = (g.0, good-take n ls g.1)

pub good-at : (ls : List Loan) (i : ℕ) → GoodLoans ls → i < length ls → GoodLoan (loan_in ls i)
good-at [] i g h = absurd (not-suc-le-zero h)
good-at (l ∷ ls) zero g h = g.0
good-at (l ∷ ls) (suc i) g h = good-at ls i g.1 (le_of_suc-le-suc h)

good-drop : (n : ℕ) (ls : List Loan) → GoodLoans ls → GoodLoans (drop n ls)
good-drop zero ls g = g
good-drop (suc n) [] g = tt
good-drop (suc n) (l ∷ ls) g = good-drop n ls g.1

-- loans around one place: without a loan there, and with it
module _ (xs ys : List Loan) (few : length xs + length ys < 256) where
  abbrev unused : List ℕ
  unused = zeros (48 * (255 - (length xs + length ys)))

  without-one : places_bytes (placed 256 (xs ++ ys)) ≡ used_bytes xs ++ (used_bytes ys ++ (zeros 48 ++ unused))
  without-one =
      let n : length (xs ++ ys) ≡ length xs + length ys = length-append xs ys in
      let k : 48 * (256 - length (xs ++ ys)) ≡ 48 + 48 * (255 - (length xs + length ys)) = omega (arith, n, few) in
      placed-bytes 256 (xs ++ ys) (omega (arith, n, few))
      ∙ rw (k, used-append xs ys, ← zeros-more 48 (48 * (255 - (length xs + length ys)))) (append_assoc (used_bytes xs) (used_bytes ys) (zeros 48 ++ unused))

  with-one : (l : Loan) → places_bytes (placed 256 (xs ++ l ∷ ys)) ≡ used_bytes xs ++ (place_bytes (some l) ++ (used_bytes ys ++ unused))
  unfolding used_bytes
  with-one l =
      let n : length (xs ++ l ∷ ys) ≡ length xs + suc (length ys) = length-append xs (l ∷ ys) in
      let k : 256 - length (xs ++ l ∷ ys) ≡ 255 - (length xs + length ys) = omega (arith, n) in
      placed-bytes 256 (xs ++ l ∷ ys) (omega (arith, n, few))
      ∙ rw (k, used-append xs (l ∷ ys))
      (append_assoc (used_bytes xs) (place_bytes (some l) ++ used_bytes ys) unused
      ∙ ap (λ (bs : List ℕ). used_bytes xs ++ bs) (append_assoc (place_bytes (some l)) (used_bytes ys) unused))

  module _ (l : Loan) (gx : GoodLoans xs) (size : length (place_bytes (some l)) ≡ 48) (gy : GoodLoans ys) where
    one_more-is : places_bytes (placed 256 (xs ++ l ∷ ys)) ≡ put_in (48 * length xs) (48 * (length xs + length ys)) (place_bytes (some l)) (places_bytes (placed 256 (xs ++ ys)))
    one_more-is =
        rw without-one
        (with-one l
        ∙ sym (put-in-at (used_bytes xs) (used_bytes ys) (zeros 48) unused (place_bytes (some l)) (48 * length xs) (48 * (length xs + length ys))
        (used-length xs gx) (used-length ys gy ∙ omega arith) (omega arith) (length-zeros 48 ∙ sym size)))

    one_fewer : places_bytes (placed 256 (xs ++ ys)) ≡ taken_out (48 * length xs) 48 (48 * (length xs + suc (length ys))) (places_bytes (placed 256 (xs ++ l ∷ ys)))
    one_fewer =
        rw (with-one l)
        (without-one
        ∙ sym (taken-out-at (used_bytes xs) (place_bytes (some l)) (used_bytes ys) unused (48 * length xs) 48 (48 * (length xs + suc (length ys)))
        (used-length xs gx) size (used-length ys gy ∙ omega arith) (omega arith)))

-- by the place in all of them
module _ (ls : List Loan) (g : GoodLoans ls) (k : ℕ) where
  pub issue-bytes : (l : Loan) → length l.code ≤ 42 → k ≤ length ls → length ls < 256
      → places_bytes (placed 256 (take k ls ++ l ∷ drop k ls)) ≡ put_in (48 * k) (48 * length ls) (place_bytes (some l)) (places_bytes (placed 256 ls))
  issue-bytes l s h m =
      let a : length (take k ls) ≡ k = length-take-le k ls h in
      let b : length (take k ls) + length (drop k ls) ≡ length ls = omega (arith, a, length-drop k ls, h) in
      one_more-is (take k ls) (drop k ls) (omega (arith, b, m)) l (good-take k ls g) (length-loan l s) (good-drop k ls g)
      ∙ rw (b, a, take-append-drop k ls)

  pub return-bytes : k < length ls → length ls ≤ 256
      → places_bytes (placed 256 (take k ls ++ drop (suc k) ls)) ≡ taken_out (48 * k) 48 (48 * length ls) (places_bytes (placed 256 ls))
  return-bytes h m =
      let a : length (take k ls) ≡ k = length-take-le k ls (omega (arith, h)) in
      let d : length (drop (suc k) ls) ≡ length ls - suc k = length-drop (suc k) ls in
      let b : length (take k ls) + suc (length (drop (suc k) ls)) ≡ length ls = omega (arith, a, d, h) in
      one_fewer (take k ls) (drop (suc k) ls) (omega (arith, b, m)) (loan_in ls k) (good-take k ls g) (length-place (some (loan_in ls k)) (good-at ls k g h)) (good-drop (suc k) ls g)
      ∙ rw (b, a, ← split_at ls k (loan_of [] 0) h)
