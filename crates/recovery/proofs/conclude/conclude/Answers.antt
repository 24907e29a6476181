-- `conclude::conclude` meets its contract.
use Rattle.std.proofs.Common.{◌∙◌, sym, refl, true, false}
use Rattle.iscc.proofs.Answer.{exit-same}
use Rattle.recovery.proofs.Ends.{no-replica, no_register, both, ended-says, denied-says}
use Rattle.recovery.proofs.conclude.conclude.Goals as goal

pub returns-in_default : goal.returns-in_default
returns-in_default c = no-replica _ c.args.end c.args.made.now c.args.replica.now false c.in_default.ensures.valid refl refl

pub returns-in_default-from_bytes : goal.returns-in_default-from_bytes
returns-in_default-from_bytes c =
    no_register _ c.args.end c.args.made.now c.args.replica.now true c.in-Some.ensures.valid false c.in_default-from_bytes.ensures.valid refl refl

pub returns-in_err-ended : goal.returns-in_err-ended
returns-in_err-ended c =
    both _ c.args.end c.args.made.now c.args.replica.now true c.in-Some.ensures.valid true c.in-Some-from_bytes.ensures.valid refl refl
    (exit-same _ c.from_residual.ensures ∙ sym (denied-says c.args.end _ _ _ (sym c.ended.ensures ∙ c.in_err-ended.was)))

pub returns : goal.returns
returns c =
    let told = rw (c.in-Some.ensures.area, c.in-Some-from_bytes.ensures.area) at c.compare.ensures in
    both _ c.args.end c.args.made.now c.args.replica.now true c.in-Some.ensures.valid true c.in-Some-from_bytes.ensures.valid refl refl
    (told ∙ sym (ended-says c.args.end _ _ (sym c.ended.ensures ∙ c.in_ok-ended.was)))
