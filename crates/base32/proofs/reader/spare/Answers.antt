-- By the last digit.
use Rattle.std.proofs.Common.{rules}
use Rattle.base32.proofs.Characters.{empty-spare, last-below, last-spare}
use Rattle.base32.proofs.reader.spare.Goals as goal

pub returns-in_default : goal.returns-in_default
returns-in_default c = empty-spare c.args.text.now (search rules)

pub digit-requires : goal.digit-requires
digit-requires c = last-below c.args.text.now c.in-Some.field-0.now (search rules) (search rules) c.requires.below

pub returns : goal.returns
returns c = last-spare c.args.text.now c.in-Some.field-0.now (search rules) (search rules) c.digit.result c.requires.text_bound c.digit.ensures.0
