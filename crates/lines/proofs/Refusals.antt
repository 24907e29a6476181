-- The answer to a line that is refused: the word, the number's digits and LF.
use Rattle.iscc.specs.Refusals.{Refusal, refusal_number}
use Prim.Native.Nat.{ℕ, ◌+◌, ◌/◌, ◌%◌, ◌≤◌, ◌<◌}
use mathlib.Core.Path.{◌≡◌, refl, ◌∙◌, ap}
use mathlib.Core.List.{List, [], ◌∷◌, ◌++◌}
use native.Mathlib.Omega.{arith}
use native.Mathlib.Decide.{dec_lt}
use lib.ListN.{length, take, drop, set}
use lib.Seq.{drop-drop}
use borrow.Author.Tests.{lt-ltb, le-ltb}
use Rattle.std.specs.Fmt as std
use Rattle.std.proofs.lemmas.Fmt.{decimal_by_steps}
use Rattle.iscc.specs.Answer.{accept, refuse, area_after}
use Rattle.iscc.specs.Lines.{decimal, refused_word, line_answer}
use Rattle.iscc.proofs.Area.{WrittenFront, one_written, length-written, all-written}
use Rattle.iscc.proofs.Filling.{more-written}

-- std's digits of a number below 100
digits_are : (n : ℕ) → n < 100 → std.decimal n ≡ decimal n
unfolding decimal
digits_are n h = decimal_by_steps (λ m ds. m < 100 → ds ≡ decimal m) one more n (omega (arith, h)) h
  where
    one : (m : ℕ) → m < 10 → m < 100 → (48 + m) ∷ [] ≡ decimal m
    one m l s = rw (lt-ltb m 10 l)

    more : (m : ℕ) (ds : List ℕ) → 10 ≤ m → (m / 10 < 100 → ds ≡ decimal (m / 10)) → m < 100 → ds ++ ((48 + m % 10) ∷ []) ≡ decimal m
    more m ds l f s =
        let k : m / 10 < 10 = omega arith in
        let e : ds ≡ (48 + m / 10) ∷ [] = f (omega arith) ∙ rw (lt-ltb (m / 10) 10 k) in
        rw (e, le-ltb m 10 l)

two_digits : (n : ℕ) → n < 100 → length (decimal n) ≤ 2
unfolding decimal
two_digits n h = elim (dec_lt n 10) [ yes l ↦ rw (lt-ltb n 10 l) (omega arith) | no l ↦ rw (le-ltb n 10 (omega arith)) (omega arith) ]

-- the answer's length and the area, once d was lent
pub record Refusing (q : Refusal) (d : List ℕ) (n : ℕ) (a : List ℕ) : Type 0 where
  pub answer : n ≡ length (line_answer (refuse q) ++ (10 ∷ []))
  pub area : a ≡ area_after (accept (line_answer (refuse q) ++ (10 ∷ []))) d

pub number_fits : (q : Refusal) (t : List ℕ) → refusal_number q < 100 → t ≡ std.decimal (refusal_number q) → length t ≤ 2
number_fits q t s e = omega (arith, ap length (e ∙ digits_are (refusal_number q) s), two_digits (refusal_number q) s)

module _ (q : Refusal) (small : refusal_number q < 100) (d area : List ℕ) (room : 11 ≤ length d) (word : area ≡ refused_word ++ drop 8 d) (t after : List ℕ) (k : ℕ)
    (number : t ≡ std.decimal (refusal_number q)) (all : k ≡ length t) (copied : after ≡ take 8 area ++ (t ++ drop k (drop 8 area))) where
  begun : WrittenFront refused_word d area 8
  unfolding refused_word
  begun = record { count = refl; room = omega arith; is = word }

  with_number : WrittenFront (refused_word ++ t) d after (8 + length t)
  with_number = more-written (length t) t begun refl (omega (arith, number_fits q t small number)) (copied ∙ rw (all, drop-drop (length t) 8 area))

  pub last_fits : 8 + length t < length after
  last_fits = omega (arith, length-written with_number, number_fits q t small number)

  pub refusing : Refusing q d (8 + length t + 1) (set after (8 + length t) 10)
  unfolding line_answer
  refusing =
      let w = all-written (one_written 10 with_number (omega (arith, number_fits q t small number))) in
      let e : refused_word ++ t ≡ line_answer (refuse q) = ap (λ (l : List ℕ). refused_word ++ l) (number ∙ digits_are (refusal_number q) small) in
      record {
        answer = w.0 ∙ ap (λ (l : List ℕ). length (l ++ (10 ∷ []))) e;
        area = w.1 ∙ ap (λ (l : List ℕ). area_after (accept (l ++ (10 ∷ []))) d) e;
      }
