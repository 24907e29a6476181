-- `read` meets its contract: what was written to the area, by value.
use Rattle.std.proofs.Common.{◌∙◌}
use Rattle.iscc.proofs.Answer.{exit-same}
use Rattle.iscc.proofs.Digits.{below_all}
use Rattle.composite.specs.Canonical.{detail_of}
use Rattle.composite.proofs.Whole.{canonical-most}
use Rattle.composite.proofs.CodeValue.{area-value, none-value}
use Rattle.composite.proofs.code.read.Goals as goal

pub returns-in_err-length : goal.returns-in_err-length
returns-in_err-length c =
    exit-same _ c.from_residual.ensures ∙ none-value (detail_of c.args.bytes.now) _ _ (canonical-most _ (below_all 256 _ (λ k _. (c.type_inv.bytes k).fits))) _ c.write.ensures.answer c.in_err-length.was

pub returns : goal.returns
returns c = area-value (detail_of c.args.bytes.now) _ _ (canonical-most _ (below_all 256 _ (λ k _. (c.type_inv.bytes k).fits))) _ _ c.write.ensures.answer c.write.ensures.area c.in_ok-length.was
