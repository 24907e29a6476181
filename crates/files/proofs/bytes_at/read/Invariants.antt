use Rattle.std.proofs.Common.{length, ◌≤◌, ◌≡◌}
use Rattle.files.proofs.bytes_at.read.Given as goal

abbrev pub invariant-loop : goal.invariant-loop
invariant-loop l = (length l.area ≡ length l.fn.area) × (l.done ≤ length l.fn.area) × (l.offset ≤ 4611686018427387904)
