-- Where the characters of the run stand in the typed text.
use Rattle.std.specs.Prelude.{ℕ, zero, suc, ◌+◌, cond, List, [], ◌∷◌, eqb}
use Rattle.iscc.specs.Lists.{first_not}
use Rattle.iscc.specs.Doors.{is_blank, scheme_length, trimmed, behind_scheme}

-- the offset of the first character behind the scheme: as many blanks stand at the start, and then it
abbrev pub start : List ℕ → ℕ
start t = first_not is_blank t + scheme_length (trimmed t)

-- the offset among the characters behind the scheme of character i of those that are no hyphen; of one that is not there, the end
unfoldable pub offset_in : List ℕ → ℕ → ℕ
offset_in [] i = 0
offset_in (c ∷ cs) zero = cond (eqb c 45) (suc (offset_in cs zero)) 0
offset_in (c ∷ cs) (suc i) = suc (offset_in cs (cond (eqb c 45) (suc i) i))

-- the offset in the typed text of character i of the run
unfoldable pub offset_of : List ℕ → ℕ → ℕ
offset_of t i = start t + offset_in (behind_scheme t) i
