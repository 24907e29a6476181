-- However the input is cut: what calls of `feed`, one after another, and then `finish` take and write.
use Rattle.std.specs.Prelude.{ℕ, ◌+◌, ◌*◌, ◌≤◌, ◌<◌, ◌≡◌, length, take}
use mathlib.Core.List.{List, [], ◌∷◌, ◌++◌, map, flatten}
use Rattle.iscc.specs.Answer.{accept}
use Rattle.iscc.specs.Lines.{line_program}
use Rattle.lines.specs.Feeding.{Feeding, begun_line, held_for, line_for, fed_by, last_answer, finishing}

-- one call of `feed`: the piece that it is handed, and the bytes that its area for answers has
pub record Call : Type 0 where
  pub piece : List ℕ
  pub room : ℕ

abbrev pub fed_in : List ℕ → ℕ → Call → Feeding
fed_in line held c = fed_by line held c.piece c.room

-- the bytes of input that the calls take; each call finds the line begun as the one before left it
unfoldable pub taken : List ℕ → ℕ → List Call → List ℕ
taken line held [] = []
taken line held (c ∷ cs) =
    take (fed_in line held c).used c.piece ++ taken (line_for (fed_in line held c).begun line) (held_for (fed_in line held c).begun) cs

-- the bytes that they write, and `finish` after them
unfoldable pub outputs : List ℕ → ℕ → List Call → List ℕ
outputs line held [] = last_answer (begun_line line held)
outputs line held (c ∷ cs) =
    (fed_in line held c).answers ++ outputs (line_for (fed_in line held c).begun line) (held_for (fed_in line held c).begun) cs

-- whole pieces, each with room for all its answers
abbrev pub wholly : List ℕ → Call
wholly piece = record { piece = piece; room = 74 * (length piece + 1) }

pub record AnyCut : Type 1 where
  -- what is written is the line program's answer to what was taken, with any area for the line begun, pieces and rooms
  pub program : (line : List ℕ) (cs : List Call) → outputs line 0 cs ≡ line_program (taken line 0 cs)
  -- so two ways to cut the same input give the same output
  pub same : (line area : List ℕ) (cs ds : List Call) → taken line 0 cs ≡ taken area 0 ds → outputs line 0 cs ≡ outputs area 0 ds
  -- pieces with room for their answers are taken whole
  pub pieces : (line : List ℕ) (ps : List (List ℕ)) → 1024 ≤ length line → outputs line 0 (map wholly ps) ≡ line_program (flatten ps)
  -- a call takes something of any piece if it has room for one answer
  pub goes : (line piece : List ℕ) (held room : ℕ) → 1024 ≤ length line → 74 ≤ room → 0 < length piece → 0 < (fed_by line held piece room).used
  -- it takes no more than there is, and writes no more than there is room for
  pub within : (line piece : List ℕ) (held room : ℕ) → ((fed_by line held piece room).used ≤ length piece) × (length (fed_by line held piece room).answers ≤ room)
  -- `finish` writes the last answer where it has room
  pub last : (room : ℕ) (p : List ℕ) → 74 ≤ room → finishing room p ≡ accept (last_answer p)
