-- What the code reads is the command that the line is.
use Prim.Native.Nat.{ℕ, ◌≤◌, ◌<◌}
use mathlib.Core.Path.{◌≡◌, refl, sym, ◌∙◌, ap}
use mathlib.Core.Bool.{Bool, true, false, cond, not, ◌&&◌}
use mathlib.Core.List.{List, [], ◌∷◌}
use lib.ListN.{length}
use lib.Dec.{eqb, leb}
use borrow.Author.Tests.{le-leb, lt-leb}
use Rattle.std.specs.Prelude.{Some, None, bytes_eq}
use Rattle.std.proofs.lemmas.Slice.Eq.{bytes_eq-Decides}
use Rattle.iscc.specs.Ascii.{ascii}
use Rattle.iscc.specs.Lists.{same_bytes}
use Rattle.loans.specs.Calls.{take_back, ask}
use Rattle.commands.specs.Commands.{Command, Fault, calls, faulty, word_end, word, is_empty, command_of}
use Rattle.commands.specs.Commands.{long_line, no_command, unknown_command, return_words, ask_words}
use Rattle.commands.specs.Reading.{next_word, behind_word, is_only, only_word, issue_behind, sheet_behind}
use Rattle.commands.proofs.WordOffsets.{word-is, left-is, empty-is}

-- ---- the first word, as the code compares it

same-is : (xs ys : List ℕ) → bytes_eq xs ys ≡ same_bytes xs ys
unfolding same_bytes
same-is [] [] = refl
same-is [] (y ∷ ys) = refl
same-is (x ∷ xs) [] = refl
same-is (x ∷ xs) (y ∷ ys) = ap (λ (b : Bool). eqb x y && b) (same-is xs ys)

is-word : (xs ys : List ℕ) → bytes_eq xs ys ≡ true → xs ≡ ys
is-word xs ys e = (bytes_eq-Decides xs ys).0 e

-- against a name that is lent
pub compared : (first lent name : List ℕ) {r b : Bool} → r ≡ bytes_eq first lent → lent ≡ name → r ≡ b → bytes_eq first name ≡ b
compared first lent name e n t = sym (e ∙ ap (bytes_eq first) n) ∙ t

-- ---- the only word of what stands behind the first

module _ (f : List ℕ → Command) (q : Fault) (text : List ℕ) where
  by_only : Command
  by_only = cond (is_only text) (f (next_word text)) (faulty q)

  only-read : (t : List ℕ) → Some t ≡ only_word text → f t ≡ cond (is_only text) (f (next_word text)) (faulty q)
  only-read t = go (is_only text)
    where
      go : (b : Bool) → Some t ≡ cond b (Some (next_word text)) None → f t ≡ cond b (f (next_word text)) (faulty q)
      go true e = let n : t ≡ next_word text = cc in ap f n
      go false e = cc

  only-none : None ≡ only_word text → faulty q ≡ cond (is_only text) (f (next_word text)) (faulty q)
  only-none = go (is_only text)
    where
      go : (b : Bool) → None ≡ cond b (Some (next_word text)) None → faulty q ≡ cond b (f (next_word text)) (faulty q)
      go true e = cc
      go false e = refl

-- ---- the whole line, by its first word and what stands behind that

abbrev by_word : List ℕ → List ℕ → Command
by_word first rest =
    cond (is_empty first) (faulty no_command)
    (cond (same_bytes first (ascii "issue")) (issue_behind rest)
    (cond (same_bytes first (ascii "return")) (cond (is_only rest) (calls (take_back (next_word rest))) (faulty return_words))
    (cond (same_bytes first (ascii "ask")) (cond (is_only rest) (calls (ask (next_word rest))) (faulty ask_words))
    (cond (same_bytes first (ascii "sheet")) (sheet_behind rest)
    (faulty unknown_command)))))

abbrev by_length : List ℕ → Command → Command
by_length line short = cond (not (leb (length line) 2048)) (faulty long_line) short

by-words : (line : List ℕ) → command_of line ≡ by_length line (by_word (next_word line) (behind_word line))
unfolding command_of
by-words line =
    let first : ℕ = word_end line 0 in
    let second : ℕ = word_end line first in
    let a : word line first ≡ next_word (behind_word line) = word-is line first ∙ ap next_word (left-is line 0) in
    let l = left-is line first ∙ ap behind_word (left-is line 0) in
    let b : word line second ≡ next_word (behind_word (behind_word line)) = word-is line second ∙ ap next_word l in
    let c : word line (word_end line second) ≡ next_word (behind_word (behind_word (behind_word line))) =
    word-is line (word_end line second) ∙ ap next_word (left-is line second ∙ ap behind_word l) in
    rw (c, b, a)

pub long-line : (line : List ℕ) → 2048 < length line → faulty long_line ≡ command_of line
long-line line h = sym (by-words line ∙ rw (lt-leb (length line) 2048 h))

module _ (line first rest : List ℕ) (short : length line ≤ 2048) (w : first ≡ next_word line) (b : rest ≡ behind_word line) where
  pub read-by : (c : Command) → c ≡ by_word first rest → c ≡ command_of line
  read-by c e = e ∙ sym (by-words line ∙ rw (← w, ← b, le-leb (length line) 2048 short))

  pub is-issue : bytes_eq first (ascii "issue") ≡ true → (c : Command) → c ≡ issue_behind rest → c ≡ command_of line
  unfolding same_bytes is_empty
  is-issue e c h = read-by c (rw (is-word first _ e) h)

  pub is-sheet : bytes_eq first (ascii "sheet") ≡ true → (c : Command) → c ≡ sheet_behind rest → c ≡ command_of line
  unfolding same_bytes is_empty
  is-sheet e c h = read-by c (rw (is-word first _ e) h)

  pub is-return : bytes_eq first (ascii "return") ≡ true → (t : List ℕ) → Some t ≡ only_word rest → calls (take_back t) ≡ command_of line
  unfolding same_bytes is_empty
  is-return e t h = read-by _ (rw (is-word first _ e) (only-read (λ u. calls (take_back u)) return_words rest t h))

  pub no_return : bytes_eq first (ascii "return") ≡ true → None ≡ only_word rest → faulty return_words ≡ command_of line
  unfolding same_bytes is_empty
  no_return e h = read-by _ (rw (is-word first _ e) (only-none (λ u. calls (take_back u)) return_words rest h))

  pub is_ask : bytes_eq first (ascii "ask") ≡ true → (t : List ℕ) → Some t ≡ only_word rest → calls (ask t) ≡ command_of line
  unfolding same_bytes is_empty
  is_ask e t h = read-by _ (rw (is-word first _ e) (only-read (λ u. calls (ask u)) ask_words rest t h))

  pub no_ask : bytes_eq first (ascii "ask") ≡ true → None ≡ only_word rest → faulty ask_words ≡ command_of line
  unfolding same_bytes is_empty
  no_ask e h = read-by _ (rw (is-word first _ e) (only-none (λ u. calls (ask u)) ask_words rest h))

  pub no-command : eqb (length first) 0 ≡ true → faulty no_command ≡ command_of line
  no-command e = read-by _ (rw (← empty-is first, e) refl)

  pub no-other : eqb (length first) 0 ≡ false → bytes_eq first (ascii "issue") ≡ false → bytes_eq first (ascii "return") ≡ false
      → bytes_eq first (ascii "ask") ≡ false → bytes_eq first (ascii "sheet") ≡ false → faulty unknown_command ≡ command_of line
  no-other e i r a s =
      read-by _ (rw (← empty-is first, e, ← same-is first (ascii "issue"), i, ← same-is first (ascii "return"), r, ← same-is first (ascii "ask"), a, ← same-is first (ascii "sheet"), s) refl)
