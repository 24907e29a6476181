-- The line program (iscc's specs/Lines.antt) on one piece of its input after another: what is kept of the line begun, what a
-- piece adds to the answers, and what the end of input adds.
use Rattle.std.specs.Prelude.{ℕ, ◌+◌, ◌-◌, ◌≡◌, Bool, not, cond, List, [], ◌∷◌, ◌++◌, length, take, drop, replicate, eqb, leb}
use Rattle.iscc.specs.Refusals.{area_too_short}
use Rattle.iscc.specs.Answer.{Answer, accept, ◌>>◌, ◌otherwise◌}
use Rattle.iscc.specs.Doors.{intake}
use Rattle.iscc.specs.Lines.{line_answer}
use Rattle.lines.specs.declared.feed.Fed as code

-- the answer to a line, with the LF behind it: at most 74 bytes
unfoldable pub answer_line : List ℕ → List ℕ
answer_line t = line_answer (intake t 73) ++ (10 ∷ [])

abbrev pub not_lf : ℕ → Bool
not_lf c = not (eqb c 10)

-- ---- the line begun, as an area of 1,024 bytes or more and a count keep it

-- stands for every line of more than 1,024 bytes: they have one answer, and no byte of them matters
unfoldable pub overlong : List ℕ
overlong = replicate 1025 0

unfoldable pub begun_line : List ℕ → ℕ → List ℕ
begun_line line held = cond (leb held 1024) (take held line) overlong

-- the count and the area that keep a line; the area's bytes behind the line are as they were
unfoldable pub held_for : List ℕ → ℕ
held_for p = cond (leb (length p) 1024) (length p) 1025

unfoldable pub line_for : List ℕ → List ℕ → List ℕ
line_for p line = cond (leb (length p) 1024) (p ++ drop (length p) line) line

-- what is kept of a line: all of it, or that it is too long
unfoldable pub shortened : List ℕ → List ℕ
shortened p = cond (leb (length p) 1024) p overlong

-- the area and the count keep this line
abbrev pub Keeps : List ℕ → ℕ → List ℕ → Type 0
Keeps line held p = shortened (begun_line line held) ≡ shortened p

-- ---- a piece, byte by byte

-- behind a line begun, p, a byte ends it or makes it longer
abbrev pub begun_next : List ℕ → ℕ → List ℕ
begun_next p c = cond (eqb c 10) [] (p ++ (c ∷ []))

abbrev pub answer_next : List ℕ → ℕ → List ℕ
answer_next p c = cond (eqb c 10) (answer_line p) []

-- the line begun behind a piece, and the answers to the lines that end in it
unfoldable pub begun_after : List ℕ → List ℕ → List ℕ
begun_after p [] = p
begun_after p (c ∷ cs) = begun_after (begun_next p c) cs

unfoldable pub answers_to : List ℕ → List ℕ → List ℕ
answers_to p [] = []
answers_to p (c ∷ cs) = answer_next p c ++ answers_to (begun_next p c) cs

-- ---- a piece, as far as there is room

-- the line begun afterwards, how many bytes of the piece were taken, and what is answered to them
pub record Feeding : Type 0 where
  pub begun : List ℕ
  pub used : ℕ
  pub answers : List ℕ

-- the same with n bytes taken and `out` answered before it
abbrev pub behind : ℕ → List ℕ → Feeding → Feeding
behind n out f = record { begun = f.begun; used = n + f.used; answers = out ++ f.answers }

abbrev pub nothing_fed : List ℕ → Feeding
nothing_fed p = record { begun = p; used = 0; answers = [] }

-- a piece behind the line begun, p, with room for so many bytes of answers: it is taken byte by byte as long as an answer fits
unfoldable pub feeding : ℕ → List ℕ → List ℕ → Feeding
feeding room p [] = nothing_fed p
feeding room p (c ∷ cs) =
    cond (leb 74 room)
    (cond (eqb c 10) (behind 1 (answer_line p) (feeding (room - length (answer_line p)) [] cs)) (behind 1 [] (feeding room (p ++ (c ∷ [])) cs)))
    (nothing_fed p)

-- with an area below 1,024 bytes for the line begun there is room for nothing
unfoldable pub room_for : List ℕ → ℕ → ℕ
room_for line room = cond (leb 1024 (length line)) room 0

-- what `feed` does with its arguments: the line begun and its count, the piece and the bytes for answers
abbrev pub fed_by : List ℕ → ℕ → List ℕ → ℕ → Feeding
fed_by line held piece room = feeding (room_for line room) (begun_line line held) piece

-- what `feed` returns
abbrev pub fed_as : Feeding → code.Fed
fed_as f = record { held = held_for f.begun; used = f.used; written = length f.answers }

-- ---- the end of input

unfoldable pub last_answer : List ℕ → List ℕ
last_answer [] = []
last_answer (c ∷ p) = answer_line (c ∷ p)

-- nothing after a last LF is no line, and needs no room
unfoldable pub finishing : ℕ → List ℕ → Answer (List ℕ)
finishing room [] = accept []
finishing room (c ∷ p) = leb 74 room otherwise area_too_short >> accept (answer_line (c ∷ p))
