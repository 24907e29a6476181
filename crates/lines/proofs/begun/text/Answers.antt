use Rattle.lines.proofs.Held.{begun-part}
use Rattle.lines.proofs.begun.text.Goals as goal

pub returns-clause-short : goal.returns-clause-short
returns-clause-short c = begun-part _ _ _ c.if-held-gt-LONGEST_LINE.false c.min.ensures
