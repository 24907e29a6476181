-- What is left of the characters, and that none before it is a hyphen.
use Rattle.std.proofs.Common.{◌≡◌, ◌≤◌, ◌-◌, length, drop}
use Rattle.payload.proofs.Runs.{Clear}
use Rattle.payload.proofs.run.plain_front.Given as goal

abbrev pub invariant-loop-part : goal.invariant-loop-part
invariant-loop-part l =
    record {
      fewer : length l.rest ≤ length l.typed;
      left : l.rest ≡ drop (length l.typed - length l.rest) l.typed;
      clear : Clear l.typed (length l.typed - length l.rest);
    }

abbrev pub decreases-loop-part : goal.decreases-loop-part
decreases-loop-part l = length l.rest
