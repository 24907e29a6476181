-- `words::read_borrower`: the digits before the next one are read.
use Rattle.commands.proofs.Borrowers.{Reading}
use Rattle.commands.proofs.words.read_borrower.Given as goal

abbrev pub invariant-loop-digit : goal.invariant-loop-digit
invariant-loop-digit l = Reading l.word l.number l.digit-index
