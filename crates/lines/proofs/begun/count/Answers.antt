use Rattle.lines.proofs.Held.{count_long, count-some}
use Rattle.lines.proofs.begun.count.Goals as goal

pub returns-then-held-gt-LONGEST_LINE : goal.returns-then-held-gt-LONGEST_LINE
returns-then-held-gt-LONGEST_LINE c = count_long _ _ c.if-held-gt-LONGEST_LINE.true

pub returns : goal.returns
returns c = count-some _ _ _ c.if-held-gt-LONGEST_LINE.false c.min.ensures
