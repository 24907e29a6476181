-- The line begun and its last part, one behind the other in the area.
use Rattle.lines.proofs.Answers.{same_answer}
use Rattle.lines.proofs.Held.{answer-copied}
use Rattle.lines.proofs.answer.copied.Goals as goal

pub returns : goal.returns
returns c =
    let a =
    same_answer _ _ _ _ _
    (answer-copied c.args.begun.now c.args.part.now _ _ _ _ _ c.requires.short c.add-held.ensures.count c.add-held.ensures.area c.add-whole.ensures.count c.add-whole.ensures.area)
    c.kept.ensures.answer c.kept.ensures.area in
    record { answer = a.0; area = a.1 }
