use Rattle.commands.proofs.WordOffsets.{empty-is}
use Rattle.commands.proofs.command.sheet.Goals as goal

pub returns-then-is_empty : goal.returns-then-is_empty
returns-then-is_empty c = rw (← c.next.ensures.word, ← empty-is c.next.result.0.now, ← c.is_empty.ensures, c.if-is_empty.true)

pub returns-else-is_empty : goal.returns-else-is_empty
returns-else-is_empty c = rw (← c.next.ensures.word, ← empty-is c.next.result.0.now, ← c.is_empty.ensures, c.if-is_empty.false)
