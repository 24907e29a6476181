-- One digit more.
use Rattle.std.proofs.Common.{arith, ◌∙◌, sym, ap, List, ℕ}
use mathlib.Core.List.{map}
use lib.ListN.{length-map}
use lib.Seq.{take_all}
use Rattle.iscc.specs.Alphabet.{digit_in}
use Rattle.iscc.specs.Base32.{base32}
use Rattle.iscc.specs.Digits.{value}
use Rattle.iscc.proofs.Digits.{below_at}
use Rattle.iscc.proofs.Lists.{map_at}
use Rattle.iscc.proofs.Groups.{loaded-none, loaded-one, loaded-small}
use Rattle.base32.proofs.reader.load.Goals as goal

pub loop-c-init : goal.loop-c-init
loop-c-init c = loaded-none _ _

pub overflow_mul-number : goal.overflow_mul-number
overflow_mul-number c = omega (arith, loaded-small 35 c.loop-c.invariant (omega arith))

pub overflow_add-number : goal.overflow_add-number
overflow_add-number c = omega (arith, loaded-small 35 c.loop-c.invariant (omega arith), c.digit.ensures.1)

pub digit-requires : goal.digit-requires
digit-requires c =
    let t : List ℕ = c.args.chars.now in
    rw (map_at (digit_in base32) t c.loop-c.c-index 0 0 (omega arith)) at (below_at 32 (map (digit_in base32) t) c.loop-c.c-index c.requires.below (omega (arith, length-map t (digit_in base32))))

pub loop-c-preserved : goal.loop-c-preserved
loop-c-preserved c =
    let t : List ℕ = c.args.chars.now in
    loaded-one c.digit.result c.loop-c.invariant (omega (arith, length-map t (digit_in base32))) (c.digit.ensures.0 ∙ sym (map_at (digit_in base32) t c.loop-c.c-index 0 0 (omega arith))) c.digit.ensures.1

pub returns : goal.returns
returns c = c.loop-c.invariant.is ∙ ap (value 5) (take_all c.loop-c.c-index (map (digit_in base32) c.args.chars.now) (omega (arith, length-map c.args.chars.now (digit_in base32))))
