-- What is left has the text's end without its blanks.
use Rattle.std.proofs.Common.{◌≡◌, ◌≤◌, length}
use Rattle.iscc.specs.Doors.{trim_end}
use Rattle.payload.proofs.trim.trimmed_length.Given as goal

abbrev pub invariant-loop-rest : goal.invariant-loop-rest
invariant-loop-rest l = record { within : length l.rest ≤ length l.text; same : trim_end l.rest ≡ trim_end l.text }

abbrev pub decreases-loop-rest : goal.decreases-loop-rest
decreases-loop-rest l = length l.rest
