-- What is left of the index among the characters from here on.
use Rattle.std.proofs.Common.{◌≡◌, ◌+◌, drop}
use Rattle.payload.specs.Offsets.{offset_in}
use Rattle.payload.proofs.run.offset_in.Given as goal

abbrev pub invariant-loop-at : goal.invariant-loop-at
invariant-loop-at l = offset_in l.typed l.index ≡ l.at + offset_in (drop l.at l.typed) l.left
