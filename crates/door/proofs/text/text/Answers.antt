-- `text` meets its contract. The test of the area goes by arithmetic, so that it stands whatever number it compares with.
use Rattle.std.proofs.Common.{◌∙◌, arith}
use Rattle.iscc.proofs.Answer.{exit-same}
use Rattle.iscc.proofs.Digits.{below_all}
use Rattle.door.proofs.Texts.{text-short, text-written, text-refused}
use Rattle.door.proofs.text.text.Goals as goal

pub returns-then-out-lt-LONGEST_WRITTEN-clause-answer : goal.returns-then-out-lt-LONGEST_WRITTEN-clause-answer
returns-then-out-lt-LONGEST_WRITTEN-clause-answer c =
    (text-short c.args.code.now c.args.out.now (omega arith)).0

pub returns-then-out-lt-LONGEST_WRITTEN-clause-area : goal.returns-then-out-lt-LONGEST_WRITTEN-clause-area
returns-then-out-lt-LONGEST_WRITTEN-clause-area c =
    (text-short c.args.code.now c.args.out.now (omega arith)).1

pub returns-in_err-read-clause-answer : goal.returns-in_err-read-clause-answer
returns-in_err-read-clause-answer c =
    exit-same _ c.from_residual.ensures ∙ (text-refused _ _ (omega arith) _ c.read.ensures _ c.in_err-read.was).0

pub returns-in_err-read-clause-area : goal.returns-in_err-read-clause-area
returns-in_err-read-clause-area c =
    (text-refused _ _ (omega arith) _ c.read.ensures _ c.in_err-read.was).1

pub returns-clause-answer : goal.returns-clause-answer
returns-clause-answer c =
    (text-written _ _ (omega arith) _ c.read.ensures _ c.in_ok-read.was (below_all 256 _ (λ k _. (c.type_inv.code k).fits)) _ _ (c.write.ensures.answer, c.write.ensures.area)).0

pub returns-clause-area : goal.returns-clause-area
returns-clause-area c =
    (text-written _ _ (omega arith) _ c.read.ensures _ c.in_ok-read.was (below_all 256 _ (λ k _. (c.type_inv.code k).fits)) _ _ (c.write.ensures.answer, c.write.ensures.area)).1
