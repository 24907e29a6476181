-- `split` meets its contract.
use Rattle.std.proofs.Common.{refl, sym, ◌∙◌}
use Rattle.iscc.proofs.Answer.{exit-same}
use Rattle.iscc.proofs.Filling.{refused}
use Rattle.unit.proofs.ExactlyOne.{one-not}
use Rattle.composite.proofs.Units.{split-unread}
use Rattle.composite.proofs.split.split.Goals as goal

pub split_item-requires : goal.split_item-requires
split_item-requires c = sym c.read.ensures ∙ c.in_ok-u.was

pub returns-in_err-u-clause-answer : goal.returns-in_err-u-clause-answer
returns-in_err-u-clause-answer c =
    exit-same _ c.from_residual.ensures ∙ (refused c.args.out.now (split-unread _ _ (one-not _ _ (sym c.read.ensures ∙ c.in_err-u.was))) refl).0

pub returns-in_err-u-clause-area : goal.returns-in_err-u-clause-area
returns-in_err-u-clause-area c = (refused c.args.out.now (split-unread _ _ (one-not _ _ (sym c.read.ensures ∙ c.in_err-u.was))) refl).1
