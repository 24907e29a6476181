-- The number is that of the first digits.
use mathlib.Core.List.{map}
use Rattle.iscc.specs.Alphabet.{digit_in}
use Rattle.iscc.specs.Base32.{base32}
use Rattle.iscc.proofs.Groups.{Loaded}
use Rattle.base32.proofs.reader.load.Given as goal

abbrev pub invariant-loop-c : goal.invariant-loop-c
invariant-loop-c l = Loaded 5 (map (digit_in base32) l.chars) l.c-index l.number
