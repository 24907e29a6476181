-- `all_digits` meets its contract.
use mathlib.Core.Path.{◌∙◌}
use Rattle.std.proofs.Common.{rules, arith}
use Rattle.iscc.specs.Base32.{base32}
use Rattle.iscc.proofs.FirstNot.{largest-none, largest-all}
use Rattle.base32.proofs.Characters.{all-inside, largest-next}
use Rattle.base32.proofs.reader.all_digits.Goals as goal

pub loop-c-init : goal.loop-c-init
loop-c-init c = largest-none _ _ _ (omega arith)

pub loop-c-preserved : goal.loop-c-preserved
loop-c-preserved c = largest-next _ _ c.loop-c.invariant c.loop-c-test.true c.outside_alphabet.ensures c.max-most.ensures

pub returns : goal.returns
unfolding base32
returns c = largest-all c.loop-c.invariant (search rules) ∙ all-inside c.args.text.now
