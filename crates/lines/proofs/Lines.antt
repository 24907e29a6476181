-- The line program on a line begun and what follows it.
use Prim.Native.Nat.{ℕ, ◌≤◌, ◌<◌}
use mathlib.Core.Path.{◌≡◌, refl, sym, ◌∙◌, ap}
use mathlib.Core.Bool.{Bool, true, false}
use mathlib.Core.List.{List, [], ◌∷◌, ◌++◌}
use native.Mathlib.Omega.{arith}
use lib.ListN.{length, length-append}
use lib.Seq.{append_snoc}
use lib.Dec.{eqb, leb}
use borrow.Author.Tests.{le-leb, lt-leb, leb-true, leb-false}
use Rattle.iscc.specs.Doors.{intake}
use Rattle.iscc.specs.Lines.{lines_of, in_front, line_answer, line_answers, line_program}
use Rattle.lines.specs.Feeding.{answer_line, overlong, shortened, last_answer}
use Rattle.lines.proofs.Held.{length-overlong, answer-shortened}

-- a line: no LF in it
abbrev pub NoLF : List ℕ → Type 0
NoLF [] = Unit {0}
NoLF (c ∷ p) = (eqb c 10 ≡ false) × NoLF p

pub no-LF-more : (p : List ℕ) (c : ℕ) → NoLF p → eqb c 10 ≡ false → NoLF (p ++ (c ∷ []))
no-LF-more [] c h e = (e, tt)
no-LF-more (d ∷ p) c h e = (h.0, no-LF-more p c h.1 e)

lines-ended : (p rest : List ℕ) → NoLF p → lines_of (p ++ (10 ∷ rest)) ≡ p ∷ lines_of rest
unfolding lines_of
lines-ended [] rest h = refl
lines-ended (c ∷ p) rest h = rw (h.0, lines-ended p rest h.1)

lines-last : (c : ℕ) (p : List ℕ) → NoLF (c ∷ p) → lines_of (c ∷ p) ≡ (c ∷ p) ∷ []
unfolding lines_of
lines-last c [] h = rw h.0
lines-last c (d ∷ p) h = rw h.0 (ap (in_front c) (lines-last d p h.1))

pub program-ended : (p rest : List ℕ) → NoLF p → line_program (p ++ (10 ∷ rest)) ≡ answer_line p ++ line_program rest
unfolding line_program line_answers answer_line
program-ended p rest h = ap line_answers (lines-ended p rest h) ∙ sym (append_snoc (line_answer (intake p 73)) 10 (line_answers (lines_of rest)))

pub program-last : (p : List ℕ) → NoLF p → line_program p ≡ last_answer p
unfolding line_program line_answers answer_line last_answer lines_of
program-last [] h = refl
program-last (c ∷ p) h = ap line_answers (lines-last c p h)

-- ---- only what is kept of a line matters

shortened-short : (p : List ℕ) → length p ≤ 1024 → shortened p ≡ p
unfolding shortened
shortened-short p h = rw (le-leb (length p) 1024 h)

shortened-long : (p : List ℕ) → 1024 < length p → shortened p ≡ overlong
unfolding shortened
shortened-long p h = rw (lt-leb (length p) 1024 h)

pub shortened-twice : (p : List ℕ) → shortened (shortened p) ≡ shortened p
shortened-twice p = go (leb (length p) 1024) refl
  where
    go : (b : Bool) → leb (length p) 1024 ≡ b → shortened (shortened p) ≡ shortened p
    go true b = ap shortened (shortened-short p (leb-true (length p) 1024 b))
    go false b = let e = shortened-long p (leb-false (length p) 1024 b) in ap shortened e ∙ shortened-long overlong (omega (arith, length-overlong)) ∙ sym e

shortened-first : (p : List ℕ) (c : ℕ) → shortened (p ++ (c ∷ [])) ≡ shortened (shortened p ++ (c ∷ []))
shortened-first p c = go (leb (length p) 1024) refl
  where
    go : (b : Bool) → leb (length p) 1024 ≡ b → shortened (p ++ (c ∷ [])) ≡ shortened (shortened p ++ (c ∷ []))
    go true b = ap (λ (q : List ℕ). shortened (q ++ (c ∷ []))) (sym (shortened-short p (leb-true (length p) 1024 b)))
    go false b =
        shortened-long (p ++ (c ∷ [])) (simp length-append (omega (arith, leb-false (length p) 1024 b)))
        ∙ sym (ap (λ (q : List ℕ). shortened (q ++ (c ∷ []))) (shortened-long p (leb-false (length p) 1024 b)) ∙ shortened-long (overlong ++ (c ∷ [])) (simp length-append (omega (arith, length-overlong))))

pub shortened-more : (p q : List ℕ) (c : ℕ) → shortened p ≡ shortened q → shortened (p ++ (c ∷ [])) ≡ shortened (q ++ (c ∷ []))
shortened-more p q c e = shortened-first p c ∙ ap (λ (l : List ℕ). shortened (l ++ (c ∷ []))) e ∙ sym (shortened-first q c)

pub same-answers : (p q : List ℕ) → shortened p ≡ shortened q → answer_line p ≡ answer_line q
same-answers p q e = sym (answer-shortened p) ∙ ap answer_line e ∙ answer-shortened q

last-shortened : (p : List ℕ) → last_answer (shortened p) ≡ last_answer p
unfolding last_answer
last-shortened [] = ap last_answer (shortened-short [] (omega arith))
last-shortened (c ∷ p) = go (leb (length (c ∷ p)) 1024) refl
  where
    some : (p : List ℕ) → 0 < length p → last_answer p ≡ answer_line p
    some [] h = absurd (omega (arith, h))
    some (c ∷ p) h = refl

    go : (b : Bool) → leb (length (c ∷ p)) 1024 ≡ b → last_answer (shortened (c ∷ p)) ≡ answer_line (c ∷ p)
    go true b = ap last_answer (shortened-short (c ∷ p) (leb-true (length (c ∷ p)) 1024 b))
    go false b =
        let e = shortened-long (c ∷ p) (leb-false (length (c ∷ p)) 1024 b) in
        ap last_answer e ∙ some overlong (omega (arith, length-overlong)) ∙ ap answer_line (sym e) ∙ answer-shortened (c ∷ p)

pub same-last : (p q : List ℕ) → shortened p ≡ shortened q → last_answer p ≡ last_answer q
same-last p q e = sym (last-shortened p) ∙ ap last_answer e ∙ last-shortened q
