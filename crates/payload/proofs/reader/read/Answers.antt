-- The test goes by arithmetic, so that it stands whatever number it compares with.
use Rattle.std.proofs.Common.{arith}
use Rattle.payload.proofs.Payloads.{text-long}
use Rattle.payload.proofs.reader.read.Goals as goal

pub returns-then-text-gt-LONGEST_TYPED-clause-answer : goal.returns-then-text-gt-LONGEST_TYPED-clause-answer
returns-then-text-gt-LONGEST_TYPED-clause-answer c = rw c.with_detail.ensures (text-long c.args.text.now c.args.out.now (omega arith)).0

pub returns-then-text-gt-LONGEST_TYPED-clause-area : goal.returns-then-text-gt-LONGEST_TYPED-clause-area
returns-then-text-gt-LONGEST_TYPED-clause-area c = (text-long c.args.text.now c.args.out.now (omega arith)).1
