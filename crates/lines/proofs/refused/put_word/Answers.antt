use Rattle.iscc.specs.Lines.{refused_word}
use Rattle.lines.proofs.refused.put_word.Goals as goal

pub returns : goal.returns
unfolding refused_word
returns c = rw c.copy_from_slice.ensures.after
