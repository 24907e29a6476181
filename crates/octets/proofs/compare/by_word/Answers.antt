-- `by_word`: eight bytes by the number that they are.
use mathlib.Core.Path.{◌∙◌, ap₂}
use Rattle.std.specs.Ordering.{nat_cmp}
use Rattle.iscc.proofs.Digits.{below_all}
use Rattle.octets.proofs.Words.{by_eights}
use Rattle.octets.proofs.compare.by_word.Goals as goal

pub returns : goal.returns
returns c =
    c.cmp.ensures ∙ ap₂ nat_cmp c.from_be_bytes.ensures c.from_be_bytes-2.ensures
    ∙ by_eights c.args.x.now c.args.y.now c.told-x c.told-y (below_all 256 c.args.x.now (λ k _. c.fits-x k)) (below_all 256 c.args.y.now (λ k _. c.fits-y k))
