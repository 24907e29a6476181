-- The first i characters stand there.
use Rattle.std.proofs.Common.{length}
use Rattle.iscc.specs.Alphabet.{char_in}
use Rattle.iscc.specs.Base32.{base32}
use Rattle.iscc.proofs.Groups.{Put}
use Rattle.base32.proofs.writer.put.Given as goal

abbrev pub invariant-loop-i : goal.invariant-loop-i
invariant-loop-i l = Put (char_in base32) 5 (length l.initial.part) l.number l.initial.part l.part 0 l.i
