-- The bytes of an ASCII text, so that a definition can show the text itself.
use Rattle.std.specs.Prelude.{ℕ, zero, suc, List, [], ◌∷◌}
use Prim.Native.String.{String, len, char_at}
use Prim.Native.Char.{code}

-- n of them from offset i on
abbrev characters_from : String → ℕ → ℕ → List ℕ
characters_from s zero i = []
characters_from s (suc n) i = code (char_at s i) ∷ characters_from s n (suc i)

abbrev pub ascii : String → List ℕ
ascii s = characters_from s (len s) 0
