-- `outside_alphabet` meets its contract.
use Rattle.std.proofs.Common.{arith, rules}
use Prim.Native.Nat.{◌*◌}
use mathlib.Core.Path.{ap₂, ◌∙◌}
use Rattle.iscc.specs.Base32.{base32}
use Rattle.base32.proofs.Characters.{small_product, outside-is}
use Rattle.base32.proofs.reader.outside_alphabet.Goals as goal

pub overflow_mul-result : goal.overflow_mul-result
overflow_mul-result c = omega (arith, small_product _ _ c.outside_range.ensures.1 c.outside_range-2.ensures.1)

pub returns : goal.returns
unfolding base32
returns c = ap₂ ◌*◌ c.outside_range.ensures.0 c.outside_range-2.ensures.0 ∙ outside-is _ (search rules)
