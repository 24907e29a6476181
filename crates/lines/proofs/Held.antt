-- The line begun, as an area and a count keep it.
use Prim.Native.Nat.{ℕ, ◌+◌, ◌-◌, ◌≤◌, ◌<◌, min}
use mathlib.Core.Path.{◌≡◌, refl, sym, ◌∙◌, ap}
use mathlib.Core.Bool.{Bool, true, false, cond}
use mathlib.Core.List.{List, [], ◌∷◌, ◌++◌, append_assoc}
use native.Mathlib.Omega.{arith}
use lib.ListN.{length, take, drop, length-append, length-take, length-drop, length-replicate, take-append-drop}
use lib.Seq.{length-take-le, take_at, take-append_seam, drop-append_seam, drop-drop}
use lib.Dec.{leb}
use borrow.Author.Tests.{le-leb, lt-leb, leb-true, leb-false}
use Rattle.iscc.specs.Refusals.{long_text}
use Rattle.iscc.specs.Answer.{refuse}
use Rattle.iscc.specs.Lines.{line_answer}
use Rattle.lines.specs.Feeding.{answer_line, overlong, begun_line, held_for, line_for, shortened}
use Rattle.lines.proofs.Answers.{answer-long}

pub length-overlong : length overlong ≡ 1025
unfolding overlong
length-overlong = length-replicate {A = ℕ} 1025 0

overlong-long : 1024 < length overlong
overlong-long = omega (arith, length-overlong)

-- ---- the definitions by cases

pub begun-short : (line : List ℕ) (held : ℕ) → held ≤ 1024 → begun_line line held ≡ take held line
unfolding begun_line
begun-short line held h = rw (le-leb held 1024 h)

pub begun-long : (line : List ℕ) (held : ℕ) → 1024 < held → begun_line line held ≡ overlong
unfolding begun_line
begun-long line held h = rw (lt-leb held 1024 h)

pub held-short : (p : List ℕ) → length p ≤ 1024 → held_for p ≡ length p
unfolding held_for
held-short p h = rw (le-leb (length p) 1024 h)

pub held-long : (p : List ℕ) → 1024 < length p → held_for p ≡ 1025
unfolding held_for
held-long p h = rw (lt-leb (length p) 1024 h)

pub line-short : (p line : List ℕ) → length p ≤ 1024 → line_for p line ≡ p ++ drop (length p) line
unfolding line_for
line-short p line h = rw (le-leb (length p) 1024 h)

pub line-long : (p line : List ℕ) → 1024 < length p → line_for p line ≡ line
unfolding line_for
line-long p line h = rw (lt-leb (length p) 1024 h)

pub length-line : (p line : List ℕ) → 1024 ≤ length line → length (line_for p line) ≡ length line
length-line p line room = go (leb (length p) 1024) refl
  where
    go : (b : Bool) → leb (length p) 1024 ≡ b → length (line_for p line) ≡ length line
    go true b = ap length (line-short p line (leb-true (length p) 1024 b)) ∙ simp (length-append, length-drop) (omega (arith, leb-true (length p) 1024 b))
    go false b = ap length (line-long p line (leb-false (length p) 1024 b))

-- ---- what is kept of a line, and its answer

pub begun_kept : (q line : List ℕ) → begun_line (line_for q line) (held_for q) ≡ shortened q
unfolding begun_line line_for held_for shortened
begun_kept q line = go (leb (length q) 1024) refl
  where
    go : (b : Bool) → leb (length q) 1024 ≡ b → cond (leb (cond b (length q) 1025) 1024) (take (cond b (length q) 1025) (cond b (q ++ drop (length q) line) line)) overlong ≡ cond b q overlong
    go true e = rw e (take_at q (drop (length q) line) (length q) refl)
    go false e = refl

pub answer-shortened : (q : List ℕ) → answer_line (shortened q) ≡ answer_line q
unfolding shortened
answer-shortened q = go (leb (length q) 1024) refl
  where
    go : (b : Bool) → leb (length q) 1024 ≡ b → answer_line (cond b q overlong) ≡ answer_line q
    go true e = refl
    go false e = answer-long overlong overlong-long ∙ sym (answer-long q (leb-false (length q) 1024 e))

pub answer-kept : (q line after : List ℕ) (n : ℕ) → n ≡ held_for q → after ≡ line_for q line → answer_line (begun_line after n) ≡ answer_line q
answer-kept q line after n e f = rw (e, f, begun_kept q line) (answer-shortened q)

pub answer-overlong : (line part : List ℕ) (held : ℕ) → 1024 < held → answer_line (begun_line line held ++ part) ≡ line_answer (refuse long_text) ++ (10 ∷ [])
answer-overlong line part held h = answer-long _ (rw (begun-long line held h, length-append) (omega (arith, length-overlong)))

-- a line of which nothing is kept
pub begun-none : (line : List ℕ) (held : ℕ) → held ≡ 0 → begun_line line held ≡ []
begun-none line held e = ap (begun_line line) e ∙ begun-short line 0 (omega arith)

-- ---- the count of the line that an area and a count keep

take_counted : (k : ℕ) (l : List ℕ) → take (length (take k l)) l ≡ take k l
take_counted k l = ap (take (length (take k l))) (sym (take-append-drop k l)) ∙ take-append_seam (take k l) (drop k l)

drop-counted : (k : ℕ) (l : List ℕ) → drop (length (take k l)) l ≡ drop k l
drop-counted k l = ap (drop (length (take k l))) (sym (take-append-drop k l)) ∙ drop-append_seam (take k l) (drop k l)

module _ (line : List ℕ) (held : ℕ) where
  take-most : held ≤ 1024 → length (take held line) ≤ 1024
  take-most h = simp length-take (omega arith)

  pub count_long : 1024 < held → 1025 ≡ held_for (begun_line line held)
  count_long h = sym (ap held_for (begun-long line held h) ∙ held-long overlong overlong-long)

  count-short : held ≤ 1024 → length (take held line) ≡ held_for (begun_line line held)
  count-short h = sym (ap held_for (begun-short line held h) ∙ held-short (take held line) (take-most h))

  pub count-some : (n : ℕ) → held ≤ 1024 → n ≡ min held (length line) → n ≡ held_for (begun_line line held)
  count-some n h e = e ∙ sym (length-take held line) ∙ count-short h

  -- it stands for the same line
  pub record Counted (n : ℕ) : Type 0 where
    pub same : begun_line line n ≡ begun_line line held
    pub within : n ≤ 1024 → n ≤ length line
    pub long : 1024 < n → 1024 < held

  pub counted : (n : ℕ) → n ≡ held_for (begun_line line held) → Counted n
  counted n e = go (leb held 1024) refl
    where
      short : held ≤ 1024 → Counted n
      short h =
          let k : n ≡ length (take held line) = e ∙ sym (count-short h) in
          let m : length (take held line) ≤ 1024 = take-most h in
          let l : length (take held line) ≤ length line = simp length-take (omega arith) in
          record {
            same = ap (begun_line line) k ∙ begun-short line _ m ∙ take_counted held line ∙ sym (begun-short line held h);
            within = λ w. omega arith;
            long = λ w. absurd (omega (arith, w));
          }

      long : 1024 < held → Counted n
      long h =
          let k : n ≡ 1025 = e ∙ sym (count_long h) in
          record { same = begun-long line n (omega arith) ∙ sym (begun-long line held h); within = λ w. absurd (omega (arith, w)); long = λ w. h }

      go : (b : Bool) → leb held 1024 ≡ b → Counted n
      go true b = short (leb-true held 1024 b)
      go false b = long (leb-false held 1024 b)

  -- the line itself, as the code lends it
  pub begun-part : (n : ℕ) → held ≤ 1024 → n ≡ min held (length line) → take (n - 0) line ≡ begun_line line held
  begun-part n h e = let z : n - 0 ≡ n = omega arith in rw (z, e, ← length-take held line) (take_counted held line ∙ sym (begun-short line held h))

  pub begun-refused : 1024 < held → answer_line (begun_line line held) ≡ line_answer (refuse long_text) ++ (10 ∷ [])
  begun-refused h = answer-long _ (rw (begun-long line held h) overlong-long)

  -- a line to which nothing is added leaves the area as it was
  pub line_same : line ≡ line_for (begun_line line held) line
  line_same = go (leb held 1024) refl
    where
      short : held ≤ 1024 → line ≡ line_for (take held line) line
      short h = sym (line-short (take held line) line (take-most h) ∙ rw (drop-counted held line) (take-append-drop held line))

      go : (b : Bool) → leb held 1024 ≡ b → line ≡ line_for (begun_line line held) line
      go true b = rw (begun-short line held (leb-true held 1024 b)) (short (leb-true held 1024 b))
      go false b = rw (begun-long line held (leb-false held 1024 b)) (sym (line-long overlong line overlong-long))

-- ---- a part is added

-- the count and the area that keep a line q
abbrev pub LineKept : List ℕ → List ℕ → ℕ → List ℕ → Type 0
LineKept q line held after = (held ≡ held_for q) × (after ≡ line_for q line)

kept-long : (q line : List ℕ) → 1024 < length q → LineKept q line 1025 line
kept-long q line h = (sym (held-long q h), sym (line-long q line h))

kept-short : (q line : List ℕ) (n : ℕ) (after : List ℕ) → length q ≡ n → n ≤ 1024 → after ≡ q ++ drop n line → LineKept q line n after
kept-short q line n after e h is =
    let l : length q ≤ 1024 = omega arith in
    (sym (held-short q l ∙ e), is ∙ sym (rw (line-short q line l, e)))

module _ (line : List ℕ) (held : ℕ) (part : List ℕ) (room : 1024 ≤ length line) where
  pub add-long : 1024 < held → LineKept (begun_line line held ++ part) line 1025 line
  add-long h = kept-long _ line (rw (begun-long line held h, length-append) (omega (arith, length-overlong)))

  pub add-over : held ≤ 1024 → 1024 - held < length part → LineKept (begun_line line held ++ part) line 1025 line
  add-over h l = kept-long _ line (rw (begun-short line held h, length-append, length-take-le held line (omega arith)) (omega arith))

  pub add-all : (after : List ℕ) (n k : ℕ) → held ≤ 1024 → length part ≤ 1024 - held → n ≡ held + length part → k ≡ length part
      → after ≡ take held line ++ (part ++ drop k (drop held line)) → LineKept (begun_line line held ++ part) line n after
  add-all after n k h l f g is =
      rw (begun-short line held h, f)
      (kept-short (take held line ++ part) line (held + length part) after (rw (length-append, length-take-le held line (omega arith)) refl) (omega arith)
      (is ∙ rw (append_assoc, g, drop-drop (length part) held line)))

-- ---- the line begun, copied to an area, and a part behind it

shortened-short : (p : List ℕ) → length p ≤ 1024 → shortened p ≡ p
unfolding shortened
shortened-short p h = rw (le-leb (length p) 1024 h)

pub answer-copied : (begun part z text whole : List ℕ) (held n : ℕ) → length begun ≤ 1024 → held ≡ held_for (begun_line z 0 ++ begun) → text ≡ line_for (begun_line z 0 ++ begun) z
    → n ≡ held_for (begun_line text held ++ part) → whole ≡ line_for (begun_line text held ++ part) text → answer_line (begun ++ part) ≡ answer_line (begun_line whole n)
answer-copied begun part z text whole held n h e f g k =
    let q : begun_line z 0 ++ begun ≡ begun = rw (begun-none z 0 refl) in
    let b : begun_line text held ≡ begun = rw (e, f) (begun_kept (begun_line z 0 ++ begun) z) ∙ ap shortened q ∙ shortened-short begun h in
    sym (answer-kept _ _ whole n g k ∙ ap (λ (p : List ℕ). answer_line (p ++ part)) b)
