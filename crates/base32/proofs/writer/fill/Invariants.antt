-- The groups before the i-th are written.
use Rattle.std.proofs.Common.{◌*◌}
use Rattle.iscc.specs.Base32.{base32}
use Rattle.iscc.proofs.Groups.{Encoded}
use Rattle.base32.proofs.Characters.{five}
use Rattle.base32.proofs.writer.fill.Given as goal

abbrev pub invariant-loop-i : goal.invariant-loop-i
invariant-loop-i l = Encoded base32 five l.bytes l.initial.out l.out (5 * l.i) (l.i * 8)
