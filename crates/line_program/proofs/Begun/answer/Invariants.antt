-- `Begun::answer` keeps the line begun, and ends: each call of `feed` takes at least a byte.
use Rattle.std.proofs.Common.{length, ◌-◌, ◌≤◌, take}
use Rattle.lines.specs.Feeding.{begun_line, begun_after, Keeps}
use Rattle.line_program.proofs.Begun.answer.Given as goal

abbrev pub invariant-loop-at : goal.invariant-loop-at
invariant-loop-at l =
    (l.at ≤ length l.piece)
    × Keeps l.self.line l.self.held (begun_after (begun_line l.fn.self.line l.fn.self.held) (take l.at l.piece))

abbrev pub decreases-loop-at : goal.decreases-loop-at
decreases-loop-at l = length l.piece - l.at
