-- `write` meets its contract.
use Rattle.std.proofs.Common.{◌∙◌, arith}
use Rattle.iscc.proofs.Answer.{exit-same}
use Rattle.door.proofs.Texts.{no-scheme, text-not, text-within, text-put}
use Rattle.door.proofs.text.write.Goals as goal

pub returns-then-out-lt5-clause-answer : goal.returns-then-out-lt5-clause-answer
returns-then-out-lt5-clause-answer c =
    (no-scheme _ _ c.if-out-lt5.true).0

pub returns-then-out-lt5-clause-area : goal.returns-then-out-lt5-clause-area
returns-then-out-lt5-clause-area c =
    (no-scheme _ _ c.if-out-lt5.true).1

pub returns-in_err-n-clause-answer : goal.returns-in_err-n-clause-answer
returns-in_err-n-clause-answer c =
    exit-same _ c.from_residual.ensures ∙ (text-not c.args.bytes.now c.args.out.now c.if-out-lt5.false _ _ c.write.ensures.answer c.write.ensures.area _ c.in_err-n.was).0

pub returns-in_err-n-clause-area : goal.returns-in_err-n-clause-area
returns-in_err-n-clause-area c =
    (text-not c.args.bytes.now c.args.out.now c.if-out-lt5.false _ _ c.write.ensures.answer c.write.ensures.area _ c.in_err-n.was).1

pub overflow_add-result : goal.overflow_add-result
overflow_add-result c = let m = text-within c.args.bytes.now c.args.out.now c.if-out-lt5.false _ _ c.write.ensures.answer c.write.ensures.area _ c.in_ok-n.was in omega arith

pub returns-clause-answer : goal.returns-clause-answer
returns-clause-answer c =
    (text-put c.args.bytes.now c.args.out.now c.if-out-lt5.false _ _ c.write.ensures.answer c.write.ensures.area _ c.in_ok-n.was _ c.put_scheme.ensures).0

pub returns-clause-area : goal.returns-clause-area
returns-clause-area c =
    (text-put c.args.bytes.now c.args.out.now c.if-out-lt5.false _ _ c.write.ensures.answer c.write.ensures.area _ c.in_ok-n.was _ c.put_scheme.ensures).1
