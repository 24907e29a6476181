-- `put_scheme` meets its contract.
use Rattle.std.proofs.Common.{ap, ◌++◌, drop, ℕ, List}
use Rattle.iscc.specs.Doors.{scheme}
use Rattle.door.proofs.text.put_scheme.Goals as goal

pub returns : goal.returns
unfolding scheme
returns c = ap (λ (x : List ℕ). x ++ drop 5 c.args.out.now) c.copy_from_slice.ensures.after
