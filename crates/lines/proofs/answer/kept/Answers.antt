-- A line that is too long is refused.
use Rattle.std.proofs.Common.{refl}
use Rattle.lines.proofs.Answers.{refused-answer}
use Rattle.lines.proofs.Held.{begun-refused}
use Rattle.lines.proofs.answer.kept.Goals as goal

pub returns-in_default : goal.returns-in_default
returns-in_default c =
    let a = refused-answer _ _ _ _ _ _ refl (begun-refused c.args.line.now c.args.held (c.in_default.ensures.long refl)) c.write.ensures.answer c.write.ensures.area in
    record { answer = a.0; area = a.1 }
