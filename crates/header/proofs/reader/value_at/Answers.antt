-- One nibble more at each turn.
use Rattle.std.proofs.Common.{refl, arith}
use Rattle.iscc.specs.Digits.{value}
use Rattle.header.proofs.Nibbles.{value-more, value-small, value_grows}
use Rattle.header.proofs.reader.value_at.Goals as goal

pub loop-i-init : goal.loop-i-init
unfolding value
loop-i-init c = record { small = omega arith; passed = refl }

pub overflow_mul-v : goal.overflow_mul-v
overflow_mul-v c = omega (arith, value-small c.loop-i.i c.loop-i.v (omega arith) c.loop-i.invariant.small)

pub overflow_add-v : goal.overflow_add-v
overflow_add-v c = omega (arith, value-small c.loop-i.i c.loop-i.v (omega arith) c.loop-i.invariant.small)

pub loop-i-preserved : goal.loop-i-preserved
loop-i-preserved c =
    record {
      small = value_grows _ _ _ c.loop-i.invariant.small c.nibble.ensures.small;
      passed = value-more _ _ _ _ _ (omega arith) c.loop-i.invariant.passed c.nibble.ensures.value;
    }
