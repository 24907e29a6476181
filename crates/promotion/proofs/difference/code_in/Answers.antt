-- `difference::code_in`: a code that is copied.
use Rattle.promotion.proofs.Answers.{copied}
use Rattle.promotion.proofs.difference.code_in.Goals as goal

pub returns : goal.returns
returns c = copied _ _ _ c.code-code.ensures.0 c.copy_from_slice.ensures.after
