-- A line that is too long is refused.
use Rattle.std.proofs.Common.{refl}
use Rattle.lines.proofs.Answers.{refused-answer}
use Rattle.lines.proofs.Held.{answer-overlong}
use Rattle.lines.proofs.answer.joined.Goals as goal

pub returns-in-None : goal.returns-in-None
returns-in-None c =
    let a = refused-answer _ _ _ _ _ _ refl (answer-overlong c.args.line.now c.args.part.now c.args.held (c.in-None.ensures.long refl)) c.write.ensures.answer c.write.ensures.area in
    record { answer = a.0; area = a.1 }
