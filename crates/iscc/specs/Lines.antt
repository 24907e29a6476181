-- The specification, "The line program": what it writes for what it reads.
use Rattle.iscc.specs.Refusals.{refusal_number}
use Rattle.std.specs.Prelude.{ℕ, ◌+◌, ◌/◌, ◌%◌, cond, List, [], ◌∷◌, ◌++◌, eqb, ltb}
use Rattle.iscc.specs.Answer.{Answer, accept, refuse}
use Rattle.iscc.specs.Ascii.{ascii}
use Rattle.iscc.specs.Doors.{intake}

-- a byte in front of the first line, or as a line of its own before the end of input
abbrev pub in_front : ℕ → List (List ℕ) → List (List ℕ)
in_front c [] = (c ∷ []) ∷ []
in_front c (l ∷ ls) = (c ∷ l) ∷ ls

-- a line ends at LF or at the end of input; nothing after a last LF is no line
unfoldable pub lines_of : List ℕ → List (List ℕ)
lines_of [] = []
lines_of (c ∷ cs) = cond (eqb c 10) ([] ∷ lines_of cs) (in_front c (lines_of cs))

-- a number below 100, in decimal
unfoldable pub decimal : ℕ → List ℕ
decimal n = cond (ltb n 10) ((48 + n) ∷ []) ((48 + n / 10) ∷ (48 + n % 10) ∷ [])

-- the word refused and a space
unfoldable pub refused_word : List ℕ
refused_word = ascii "refused "

-- intake's text, or the word refused, a space and the number
unfoldable pub line_answer : Answer (List ℕ) → List ℕ
line_answer (accept out) = out
line_answer (refuse n) = refused_word ++ decimal (refusal_number n)

unfoldable pub line_answers : List (List ℕ) → List ℕ
line_answers [] = []
line_answers (t ∷ ts) = line_answer (intake t 73) ++ 10 ∷ line_answers ts

unfoldable pub line_program : List ℕ → List ℕ
line_program input = line_answers (lines_of input)
