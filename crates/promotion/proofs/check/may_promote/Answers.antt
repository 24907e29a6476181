-- `check::may_promote` meets its contract. The test of the work area goes by arithmetic, so that it stands whatever it compares.
use Rattle.std.proofs.Common.{refl, true, false, arith}
use Rattle.promotion.proofs.Trial.{told-23, told-15, told-replay}
use Rattle.promotion.proofs.check.may_promote.Goals as goal

pub returns-in_default : goal.returns-in_default
returns-in_default c =
    let t = told-23 c.args.log.now c.args.replica.now c.args.work.now _ _ false c.in_default.ensures.valid refl refl refl in
    record { answer = t.0; number = t.1.0; offset = t.1.1.0; code = t.1.1.1.0; work = t.1.1.1.1 }

pub returns-then-work-lt-REGISTER_LENGTH : goal.returns-then-work-lt-REGISTER_LENGTH
returns-then-work-lt-REGISTER_LENGTH c =
    let t =
    told-15 c.args.log.now c.args.replica.now c.args.work.now _ _ true c.in-Some.ensures.valid refl (omega arith) refl refl in
    record { answer = t.0; number = t.1.0; offset = t.1.1.0; code = t.1.1.1.0; work = t.1.1.1.1 }

pub returns : goal.returns
returns c =
    let answer = rw c.in-Some.ensures.area at c.replay_and_compare.ensures.answer in
    let t =
    told-replay c.args.log.now c.args.replica.now c.args.work.now _ _ true c.in-Some.ensures.valid refl (omega arith)
    _ (answer, c.replay_and_compare.ensures.area) refl in
    record { answer = t.0; number = t.1.0; offset = t.1.1.0; code = t.1.1.1.0; work = t.1.1.1.1 }
