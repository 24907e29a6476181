-- What intake wrote with LF behind it, or the refusal.
use Rattle.lines.proofs.Answers.{text-answered, refusal-answered, refused-answer}
use Rattle.lines.proofs.answer.whole.Goals as goal

pub bounds-out-n : goal.bounds-out-n
bounds-out-n c = (text-answered c.args.text.now c.args.out.now _ _ c.requires c.intake.ensures.answer c.intake.ensures.area _ c.in-Ok.is).0

pub returns-in-Ok : goal.returns-in-Ok
returns-in-Ok c =
    let r = text-answered c.args.text.now c.args.out.now _ _ c.requires c.intake.ensures.answer c.intake.ensures.area _ c.in-Ok.is in
    record { answer = r.1; area = r.2 }

pub write-requires-clause-number : goal.write-requires-clause-number
write-requires-clause-number c = (refusal-answered c.args.text.now c.args.out.now _ _ c.requires c.intake.ensures.answer c.intake.ensures.area _ c.in-Err.is).0

pub returns-in-Err : goal.returns-in-Err
returns-in-Err c =
    let r = refusal-answered c.args.text.now c.args.out.now _ _ c.requires c.intake.ensures.answer c.intake.ensures.area _ c.in-Err.is in
    let a = refused-answer _ _ _ _ _ _ r.1 r.2 c.write.ensures.answer c.write.ensures.area in
    record { answer = a.0; area = a.1 }
