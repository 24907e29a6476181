-- A borrower's digits, read from the left.
use Prim.Native.Nat.{ℕ, suc, ◌+◌, ◌*◌, ◌-◌, ◌^◌, ◌≤◌, ◌<◌}
use mathlib.Core.Path.{◌≡◌, refl, sym, ◌∙◌}
use mathlib.Core.Bool.{true, false, and-false}
use mathlib.Core.List.{List, [], ◌∷◌}
use native.Mathlib.Nat.{pow-succ', pow-le-pow_right}
use native.Mathlib.Numerals.{add-one}
use native.Mathlib.Omega.{arith}
use lib.ListN.{length, get_or, drop, drop_of_length-le}
use lib.Seq.{drop-cons}
use lib.Dec.{eqb, ltb}
use borrow.Author.Tests.{lt-leb, le-leb, lt-ltb, le-ltb, eqb-true}
use Rattle.std.specs.Char.{is_ascii_digit}
use Rattle.std.specs.Result.{result_ok}
use Rattle.std.specs.Prelude.{Some, None, Result, Ok, Err, OkIff}
use Rattle.std.proofs.lemmas.Bool.Decides.{nat_tests}
use Rattle.iscc.specs.Lists.{every}
use Rattle.commands.specs.Commands.{is_empty, is_digit, decimal_from, decimal_value, is_borrower, borrower_of}

none : (word : List ℕ) → is_borrower word ≡ false → None ≡ borrower_of word
none word e = rw e

pub no-digits : (word : List ℕ) → eqb (length word) 0 ≡ true → None ≡ borrower_of word
unfolding is_borrower is_empty
no-digits [] h = none [] refl
no-digits (c ∷ cs) h = absurd (omega (arith, eqb-true (suc (length cs)) 0 h))

pub many-digits : (word : List ℕ) → 10 < length word → None ≡ borrower_of word
unfolding is_borrower
many-digits word h = none word (rw (lt-leb (length word) 10 h) (simp and-false))

-- the first i digits are read: the whole word is what they are and the rest
pub record Reading (word : List ℕ) (number i : ℕ) : Type 0 where
  pub some : length word ≡ 0 → ⊥
  pub short : length word ≤ 10
  pub within : i ≤ length word
  pub small : number < 10 ^ i
  pub digits : every is_digit (drop i word) ≡ every is_digit word
  pub value : decimal_from number (drop i word) ≡ decimal_value word

pub at-start : (word : List ℕ) → (length word ≡ 0 → ⊥) → length word ≤ 10 → Reading word 0 0
at-start word n h = record { some = n; short = h; within = omega arith; small = omega arith; digits = refl; value = refl }

module _ (word : List ℕ) (value i : ℕ) (s : Reading word value i) where
  pub small-value : i < length word → value < 1000000000
  small-value l =
      let k : 10 ^ i ≤ 10 ^ 9 = pow-le-pow_right {n = 10} (omega arith) {i = i} {j = 9} (omega (arith, s.short)) in
      omega (arith, s.small, k)

  module _ (l : i < length word) where
    bad : is_digit (get_or word i 0) ≡ false → None ≡ borrower_of word
    unfolding is_borrower every
    bad e =
        let k : every is_digit word ≡ false = sym s.digits ∙ rw (drop-cons word i 0 l, e) in
        none word (rw k (simp and-false))

    pub bad-digit : is_ascii_digit (get_or word i 0) ≡ false → None ≡ borrower_of word
    unfolding is_digit
    bad-digit e = bad e

    is-large : is_ascii_digit (get_or word i 0) ≡ true → 48 ≤ get_or word i 0
    is-large e = grind (arith, nat_tests)

    is_small : is_ascii_digit (get_or word i 0) ≡ true → get_or word i 0 ≤ 57
    is_small e = grind (arith, nat_tests)

    pub one_more : is_ascii_digit (get_or word i 0) ≡ true → Reading word (value * 10 + (get_or word i 0 - 48)) (i + 1)
    unfolding every is_digit decimal_from
    one_more e =
        let p : 10 ^ (i + 1) ≡ 10 * 10 ^ i = rw add-one (pow-succ' 10 i) in
        record {
          some = s.some;
          short = s.short;
          within = omega arith;
          small = omega (arith, p, s.small, is-large e, is_small e);
          digits = rw add-one (sym (rw (drop-cons word i 0 l, e)) ∙ s.digits);
          value = rw add-one (sym (rw (drop-cons word i 0 l)) ∙ s.value);
        }

  module _ (l : length word ≤ i) where
    value-is : value ≡ decimal_value word
    unfolding decimal_from
    value-is = sym (rw (drop_of_length-le word l)) ∙ s.value

    too_large : 4294967295 < value → None ≡ borrower_of word
    unfolding is_borrower
    too_large h = none word (rw (le-ltb (decimal_value word) 4294967296 (omega (arith, value-is))) (simp and-false))

    number_read : value ≤ 4294967295 → Some value ≡ borrower_of word
    unfolding is_borrower every is_empty
    number_read h =
        let d : every is_digit word ≡ true = sym s.digits ∙ rw (drop_of_length-le word l) in
        let n : ltb (decimal_value word) 4294967296 ≡ true = lt-ltb (decimal_value word) 4294967296 (omega (arith, value-is)) in
        rw (filled word s.some, le-leb (length word) 10 s.short, d, n, ← value-is)
      where
        filled : (cs : List ℕ) → (length cs ≡ 0 → ⊥) → is_empty cs ≡ false
        filled [] n = absurd (n refl)
        filled (c ∷ cs) n = refl

    -- as `try_from` has it
    pub borrower-read : {E : Type 0} (r : Result ℕ E) → OkIff r (value < 4294967296) value → result_ok r ≡ borrower_of word
    borrower-read (Ok x) h = rw h.1 (number_read (omega (arith, h.0)))
    borrower-read (Err e) h = too_large (omega (arith, h))
