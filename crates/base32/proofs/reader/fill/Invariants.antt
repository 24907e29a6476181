-- The groups before the i-th are written.
use Rattle.std.proofs.Common.{◌*◌, map}
use Rattle.iscc.specs.Alphabet.{digit_in}
use Rattle.iscc.specs.Base32.{base32}
use Rattle.iscc.proofs.Groups.{Decoded}
use Rattle.base32.proofs.reader.fill.Given as goal

abbrev pub invariant-loop-i : goal.invariant-loop-i
invariant-loop-i l = Decoded 5 (map (digit_in base32) l.text) l.initial.out l.out (8 * l.i) (l.i * 5)
