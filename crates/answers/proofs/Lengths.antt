-- No line is cut.
use Rattle.iscc.specs.Refusals.{refusal_number}
use Prim.Native.Nat.{ℕ, zero, suc, ◌+◌, ◌/◌, ◌%◌, ◌*◌, ◌^◌, ◌≤◌, ◌<◌}
use mathlib.Core.Path.{◌≡◌}
use mathlib.Core.Bool.{Bool, true, false, cond}
use mathlib.Core.List.{List, [], ◌∷◌, ◌++◌}
use native.Mathlib.Nat.{pow-suc}
use native.Mathlib.Omega.{arith}
use lib.ListN.{length, get_or, length-append}
use lib.Dec.{ltb}
use Rattle.iscc.specs.Refusals.{Refusal}
use Rattle.iscc.specs.Digits.{Below}
use Rattle.answers.specs.Answers.{decimal_up_to, in_decimal, issued_line, returned_line, out_line, counts_line, refused_line}
use Rattle.answers.proofs.Digits.{digits_last}
use Rattle.answers.proofs.Others.{length-sentence}

length_digits : (k n : ℕ) → length (decimal_up_to k n) ≤ k + 1
unfolding decimal_up_to
length_digits zero n = omega arith
length_digits (suc k) n = go (ltb n 10) (length_digits k (n / 10))
  where
    go : (b : Bool) → length (decimal_up_to k (n / 10)) ≤ k + 1
        → length (cond b ((48 + n) ∷ []) (decimal_up_to k (n / 10) ++ ((48 + n % 10) ∷ []))) ≤ suc k + 1
    go true l = omega arith
    go false l = simp length-append (omega arith)

pub length-decimal : (n : ℕ) → length (in_decimal n) ≤ 20
unfolding in_decimal
length-decimal n = length_digits 19 n

module _ (text : List ℕ) (h : length text ≤ 73) where
  pub length-issued : (borrower number : ℕ) → length (issued_line text borrower number) ≤ 200
  unfolding issued_line
  length-issued borrower number = simp length-append (omega (arith, length-decimal borrower, length-decimal number))

  pub length-returned : (number : ℕ) → length (returned_line text number) ≤ 200
  unfolding returned_line
  length-returned number = simp length-append (omega (arith, length-decimal number))

  pub length-out : (borrower : ℕ) → length (out_line text borrower) ≤ 200
  unfolding out_line
  length-out borrower = simp length-append (omega (arith, length-decimal borrower))

length-small : (k j n : ℕ) → n < 10 ^ suc j → length (decimal_up_to k n) ≤ suc j
unfolding decimal_up_to
length-small zero j n h = omega arith
length-small (suc k) zero n h = rw (digits_last (suc k) n (omega (arith, h))) (omega arith)
length-small (suc k) (suc j) n h = go (ltb n 10) (length-small k j (n / 10))
  where
    go : (b : Bool) → (n / 10 < 10 ^ suc j → length (decimal_up_to k (n / 10)) ≤ suc j)
        → length (cond b ((48 + n) ∷ []) (decimal_up_to k (n / 10) ++ ((48 + n % 10) ∷ []))) ≤ suc (suc j)
    go true l = omega arith
    go false l =
        let p : 10 ^ suc (suc j) ≡ 10 ^ suc j * 10 = pow-suc 10 (suc j) in
        simp length-append (omega (arith, l (omega arith)))

short-number : (n : ℕ) → n < 4294967296 → length (in_decimal n) ≤ 10
unfolding in_decimal
short-number n h = length-small 19 9 n (omega arith)

small_at : (ns : List ℕ) (i : ℕ) → Below 4294967296 ns → get_or ns i 0 < 4294967296
small_at [] i b = omega arith
small_at (n ∷ ns) zero b = b.0
small_at (n ∷ ns) (suc i) b = small_at ns i b.1

pub length-counts : (ns : List ℕ) → Below 4294967296 ns → length (counts_line ns) ≤ 200
unfolding counts_line
length-counts ns h = simp length-append (omega (arith, ten 0, ten 1, ten 2, ten 3, ten 4, ten 5, ten 6, ten 7))
  where
    ten : (i : ℕ) → length (in_decimal (get_or ns i 0)) ≤ 10
    ten i = short-number (get_or ns i 0) (small_at ns i h)

pub length-refused : (q : Refusal) → length (refused_line q) ≤ 200
unfolding refused_line
length-refused q = simp length-append (omega (arith, length-decimal (refusal_number q), length-sentence (refusal_number q)))
