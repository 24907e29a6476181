-- The answer to a line: its length, and its number where intake refuses.
use Rattle.std.specs.Prelude.{Ok, Err}
use Rattle.iscc.specs.Refusals.{refusal_number}
use Prim.Native.Nat.{ℕ, ◌+◌, ◌/◌, ◌%◌, ◌≤◌, ◌<◌}
use mathlib.Core.Bool.{Bool, true, false, cond}
use mathlib.Core.Path.{◌≡◌, refl, sym, ◌∙◌, ap}
use mathlib.Core.List.{List, [], ◌∷◌, ◌++◌}
use native.Mathlib.Omega.{arith}
use lib.ListN.{length, drop, set, length-append}
use lib.Dec.{ltb}
use borrow.Author.Tests.{le-leb, lt-leb}
use Rattle.iscc.specs.Refusals.{Refusal, long_text}
use Rattle.iscc.specs.Answer.{Answer, accept, refuse, area_after}
use Rattle.iscc.specs.Representation.{written_as}
use Rattle.iscc.specs.Representation.{Written}
use Rattle.iscc.specs.Doors.{payload, items_of_text, meaning_of_text, text_of, intake}
use Rattle.iscc.specs.Lines.{decimal, refused_word, line_answer}
use Rattle.iscc.proofs.Answer.{accepted-value}
use Rattle.iscc.proofs.Area as area
use Rattle.iscc.proofs.Area.{one_written, length-written, all-written}
use Rattle.iscc.proofs.Doors.{meant, short}
use Rattle.iscc.proofs.Numbers.{intake-numbered, number-table}
use Rattle.lines.specs.Feeding.{answer_line}

-- ---- no number that intake gives is above 99

pub refusal-small : (t : List ℕ) (area : ℕ) (q : Refusal) → intake t area ≡ refuse q → refusal_number q < 100
refusal-small t area q e = omega (arith, (number-table (intake t area) (intake-numbered t area) q e).1)

-- ---- any area of 73 bytes is as good as another

pub intake-same : (t : List ℕ) (area : ℕ) → 73 ≤ area → intake t area ≡ intake t 73
unfolding intake
intake-same t area h = rw (le-leb 73 area h)

pub text-short : (t out : List ℕ) → intake t 73 ≡ accept out → length out ≤ 73
unfolding intake
text-short t out e = accepted-value (meaning_of_text t) text_of (λ o. length o ≤ 73) (λ m f. short m (meant t m f)) out e

-- ---- a line of more than 1,024 bytes

pub intake-long : (t : List ℕ) → 1024 < length t → intake t 73 ≡ refuse long_text
unfolding intake meaning_of_text items_of_text payload
intake-long t h = rw (lt-leb (length t) 1024 h)

pub answer-long : (t : List ℕ) → 1024 < length t → answer_line t ≡ line_answer (refuse long_text) ++ (10 ∷ [])
unfolding answer_line
answer-long t h = rw (intake-long t h)

-- ---- every answer fits 74 bytes

refused-length : (q : Refusal) → length (line_answer (refuse q)) ≤ 73
unfolding line_answer decimal refused_word
refused-length q = go (ltb (refusal_number q) 10)
  where
    go : (b : Bool) → length (refused_word ++ cond b ((48 + (refusal_number q)) ∷ []) ((48 + (refusal_number q) / 10) ∷ (48 + (refusal_number q) % 10) ∷ [])) ≤ 73
    go true = omega arith
    go false = omega arith

pub answer-short : (t : List ℕ) → length (answer_line t) ≤ 74
unfolding answer_line line_answer
answer-short t = go (intake t 73) refl
  where
    go : (x : Answer (List ℕ)) → intake t 73 ≡ x → length (line_answer x ++ (10 ∷ [])) ≤ 74
    go (accept out) e = simp length-append (omega (arith, text-short t out e))
    go (refuse q) e = rw length-append (omega (arith, refused-length q))

-- ---- what intake wrote, a and w, once d was lent

module _ (t d a : List ℕ) (w : Written) (room : 74 ≤ length d) (answer : w ≡ written_as (intake t (length d))) (after : a ≡ area_after (intake t (length d)) d) where
  same : intake t (length d) ≡ intake t 73
  same = intake-same t (length d) (omega arith)

  answer-is : w ≡ written_as (intake t 73)
  answer-is = answer ∙ ap written_as same

  after_is : a ≡ area_after (intake t 73) d
  after_is = after ∙ ap (λ (x : Answer (List ℕ)). area_after x d) same

  pub text-answered : (n : ℕ) → w ≡ Ok n → (n < length a) × (n + 1 ≡ length (answer_line t)) × (set a n 10 ≡ area_after (accept (answer_line t)) d)
  unfolding answer_line line_answer
  text-answered n e = go (intake t 73) refl (sym e ∙ answer-is) after_is
    where
      go : (x : Answer (List ℕ)) → intake t 73 ≡ x → Ok n ≡ written_as x → a ≡ area_after x d
          → (n < length a) × (n + 1 ≡ length (line_answer x ++ (10 ∷ []))) × (set a n 10 ≡ area_after (accept (line_answer x ++ (10 ∷ []))) d)
      go (accept out) i l f =
          let k : n ≡ length out = cc in
          let s : length out ≤ 73 = text-short t out i in
          let v : area.WrittenFront out d a n = record { count = sym k; room = omega arith; is = f ∙ ap (λ (j : ℕ). out ++ drop j d) (sym k) } in
          let r = all-written (one_written 10 v (omega arith)) in
          (omega (arith, length-written v), r.0, r.1)
      go (refuse q) i l f = let z : ◌≡◌ {A = ℕ} 0 1 = cc in absurd (omega arith)

  pub refusal-answered : (q : Refusal) → w ≡ Err q → (refusal_number q < 100) × (a ≡ d) × (answer_line t ≡ line_answer (refuse q) ++ (10 ∷ []))
  unfolding answer_line
  refusal-answered q e = go (intake t 73) refl (sym e ∙ answer-is) after_is
    where
      go : (x : Answer (List ℕ)) → intake t 73 ≡ x → Err q ≡ written_as x → a ≡ area_after x d → (refusal_number q < 100) × (a ≡ d) × (line_answer x ++ (10 ∷ []) ≡ line_answer (refuse q) ++ (10 ∷ []))
      go (accept out) i l f = let z : ◌≡◌ {A = ℕ} 0 1 = cc in absurd (omega arith)
      go (refuse r) i l f = let k : r ≡ q = cc in (refusal-small t 73 q (i ∙ ap refuse k), f, ap (λ (s : Refusal). line_answer (refuse s) ++ (10 ∷ [])) k)

-- the answer of a refused line, written to an area, is the line's answer
pub refused-answer : (t d a b : List ℕ) (q : Refusal) (n : ℕ) → a ≡ d → answer_line t ≡ line_answer (refuse q) ++ (10 ∷ []) → n ≡ length (line_answer (refuse q) ++ (10 ∷ []))
    → b ≡ area_after (accept (line_answer (refuse q) ++ (10 ∷ []))) a → (n ≡ length (answer_line t)) × (b ≡ area_after (accept (answer_line t)) d)
refused-answer t d a b q n e f g h = rw f (g, h ∙ ap (λ (x : List ℕ). area_after (accept (line_answer (refuse q) ++ (10 ∷ []))) x) e)

-- a list that is written is any that equals it
pub same_answer : (q p d b : List ℕ) (n : ℕ) → q ≡ p → n ≡ length p → b ≡ area_after (accept p) d → (n ≡ length q) × (b ≡ area_after (accept q) d)
same_answer q p d b n e g h = rw e (g, h)
