-- None of the characters passed is a hyphen.
use Rattle.std.proofs.Common.{◌≡◌, take}
use Rattle.payload.specs.Runs.{no_hyphen}
use Rattle.payload.proofs.run.none_in.Given as goal

abbrev pub invariant-loop-c : goal.invariant-loop-c
invariant-loop-c l = l.none ≡ no_hyphen (take l.c-index l.part)
