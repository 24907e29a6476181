-- The words of a line, one behind the other.
use Prim.Native.Nat.{ℕ, suc, ◌+◌, ◌-◌, ◌≤◌}
use mathlib.Core.Path.{◌≡◌, refl, sym, ◌∙◌, ap}
use mathlib.Core.Bool.{Bool, true, false, cond, not}
use mathlib.Core.List.{List, [], ◌∷◌}
use native.Mathlib.Omega.{arith}
use lib.ListN.{length, take, drop, length-drop}
use Rattle.std.proofs.lemmas.List.{drop-drop}
use lib.Dec.{eqb, ltb}
use borrow.Author.Tests.{ltb-false, ne_eqb}
use Rattle.std.specs.Prelude.{Option, Some, None, unwrap_or}
use Rattle.std.specs.List.{position_or_len}
use Rattle.std.proofs.lemmas.List.Recursion.{is_position_or_len}
use Rattle.iscc.specs.Lists.{first_not}
use Rattle.iscc.specs.Doors.{is_blank}
use Rattle.commands.specs.Commands.{not_blank, word_start, word_end, word, is_empty}
use Rattle.commands.specs.Reading.{next_word, behind_word}

-- ---- the first that fails, as `position` finds it

first_not-is : (p q : ℕ → Bool) → ((c : ℕ) → q c ≡ not (p c)) → (xs : List ℕ) → first_not p xs ≡ position_or_len q xs
unfolding first_not
first_not-is p q e = is_position_or_len (first_not p) q refl (λ x xs. rw (e x) (go (p x) (first_not p xs)))
  where
    go : (b : Bool) (n : ℕ) → cond b (suc n) 0 ≡ cond (not b) 0 (1 + n)
    go true n = omega arith
    go false n = refl

first-within : (p : ℕ → Bool) (xs : List ℕ) → first_not p xs ≤ length xs
unfolding first_not
first-within p [] = omega arith
first-within p (x ∷ xs) = go (p x) (first-within p xs)
  where
    go : (b : Bool) → first_not p xs ≤ length xs → cond b (suc (first_not p xs)) 0 ≤ suc (length xs)
    go true h = omega arith
    go false h = omega arith

pub unless : (c : ℕ) → is_blank c ≡ not (not_blank c)
unless c = go (is_blank c)
  where
    go : (b : Bool) → b ≡ not (not b)
    go true = refl
    go false = refl

pub first-failing : (p q : ℕ → Bool) → ((c : ℕ) → q c ≡ not (p c)) → (xs : List ℕ) (r : Option ℕ)
    → r ≡ cond (ltb (position_or_len q xs) (length xs)) (Some (position_or_len q xs)) None → unwrap_or r (length xs) ≡ first_not p xs
first-failing p q e xs r f = rw (f, first_not-is p q e xs) (go (ltb (position_or_len q xs) (length xs)) refl)
  where
    go : (b : Bool) → ltb (position_or_len q xs) (length xs) ≡ b
        → unwrap_or (cond b (Some (position_or_len q xs)) None) (length xs) ≡ position_or_len q xs
    go true k = refl
    go false k = omega (arith, ltb-false (position_or_len q xs) (length xs) k, first-within p xs, first_not-is p q e xs)

-- ---- where a word of a line stands

module _ (line : List ℕ) (offset : ℕ) (h : offset ≤ length line) where
  pub word-ordered : word_start line offset ≤ word_end line offset
  unfolding word_end
  word-ordered = omega arith

  pub word-within : word_end line offset ≤ length line
  unfolding word_start word_end
  word-within =
      let a = first-within is_blank (drop offset line) in
      let b = first-within not_blank (drop (offset + first_not is_blank (drop offset line)) line) in
      omega (arith, a, b, length-drop offset line, length-drop (offset + first_not is_blank (drop offset line)) line)

-- ---- a word of a line, by what is left of the line

module _ (line : List ℕ) (offset start end : ℕ) (s : start ≡ first_not is_blank (drop offset line))
    (e : end ≡ first_not not_blank (drop start (drop offset line))) where
  begins : drop start (drop offset line) ≡ drop (offset + start) line
  begins = drop-drop start offset line

  ends : end ≡ first_not not_blank (drop (offset + start) line)
  ends = e ∙ ap (first_not not_blank) begins

  pub word-by : take end (drop start (drop offset line)) ≡ word line offset
  unfolding word word_end word_start
  word-by =
      let k : offset + start + first_not not_blank (drop (offset + start) line) - (offset + start) ≡ end = omega (arith, ends) in
      rw (← s, k, begins)

  pub end-by : offset + start + end ≡ word_end line offset
  unfolding word_end word_start
  end-by = rw (← s, ← ends)

  pub behind-by : drop end (drop start (drop offset line)) ≡ drop (word_end line offset) line
  behind-by = rw (← end-by) (ap (drop end) begins ∙ drop-drop end (offset + start) line)

module _ (line : List ℕ) (offset : ℕ) where
  abbrev start : ℕ
  start = first_not is_blank (drop offset line)

  abbrev end : ℕ
  end = first_not not_blank (drop start (drop offset line))

  pub word-is : word line offset ≡ next_word (drop offset line)
  word-is = sym (word-by line offset start end refl refl) ∙ word-by (drop offset line) 0 start end refl refl

  pub left-is : drop (word_end line offset) line ≡ behind_word (drop offset line)
  unfolding behind_word
  left-is =
      let a : offset + (start + end) ≡ word_end line offset = omega (arith, end-by line offset start end refl refl) in
      let b : start + end ≡ word_end (drop offset line) 0 = omega (arith, end-by (drop offset line) 0 start end refl refl) in
      rw (← a, ← b) (sym (drop-drop (start + end) offset line))

-- a word of no bytes is none
pub empty-is : (w : List ℕ) → eqb (length w) 0 ≡ is_empty w
unfolding is_empty
empty-is [] = refl
empty-is (c ∷ cs) = ne_eqb (suc (length cs)) 0 (λ e. omega (arith, e))
