-- `run::without_hyphens` meets its contract: the front is copied, and the run of the rest written behind it.
use Rattle.std.proofs.Common.{◌≡◌, ℕ, ◌-◌, ◌≤◌, List, ◌++◌, take, drop, length, ap, ◌∙◌, arith}
use lib.Seq.{take-length, length-take-le}
use borrow.Rule.Slice.PartMut.{post_of}
use Rattle.payload.proofs.Runs.{front_fits, front-written}
use Rattle.payload.proofs.run.without_hyphens.Goals as goal

pub overflow_add-result : goal.overflow_add-result
overflow_add-result c =
    let l = front_fits c.args.typed.now c.args.front (record { within = c.requires.within; none = c.requires.plain }) c.drop_hyphens.ensures in
    omega (arith, l)

copied : (typed area front : List ℕ) (n : ℕ) → n ≤ length typed → front ≡ take (n - 0) typed → front ++ post_of 0 (n - 0) area ≡ take (length front) front ++ drop (length front) area
copied typed area front n within same =
    let counted : length front ≡ n - 0 = ap length same ∙ length-take-le (n - 0) typed (omega arith) in
    rw (take-length front, counted)

pub returns : goal.returns
returns c =
    front-written c.args.typed.now c.args.front (record { within = c.requires.within; none = c.requires.plain }) c.copy_from_slice.new.self _ _ c.args.out.now _ c.copy_from_slice.ensures.after
    (copied c.args.typed.now c.args.out.now c.copy_from_slice.new.self c.args.front c.requires.within c.copy_from_slice.ensures.after)
    c.drop_hyphens.ensures
