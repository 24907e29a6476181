-- `words::read_borrower`: digit by digit.
use Rattle.std.proofs.Common.{◌∙◌, sym}
use Rattle.commands.specs.Commands.{is_digit}
use Rattle.commands.proofs.Borrowers.{no-digits, many-digits, one_more, bad-digit, borrower-read}
use Rattle.commands.proofs.words.read_borrower.Goals.{then-is_empty-via-then-is_empty, then-is_empty-via-else-is_empty+then-word-gt10}
use Rattle.commands.proofs.words.read_borrower.Goals as goal

pub returns-then-is_empty : goal.returns-then-is_empty
returns-then-is_empty c =
    elim c.then-is_empty.branch [
      | then-is_empty-via-then-is_empty w ↦ no-digits _ (sym c.is_empty.ensures ∙ w.if-is_empty.true)
      | then-is_empty-via-else-is_empty+then-word-gt10 w ↦ many-digits _ w.if-word-gt10.true
    ]

pub returns-then-not-is_digit : goal.returns-then-not-is_digit
unfolding is_digit
returns-then-not-is_digit c = bad-digit _ _ _ c.loop-digit.invariant c.loop-digit-test.true (sym c.is_digit.ensures ∙ c.if-not-is_digit.true)

pub loop-digit-preserved : goal.loop-digit-preserved
unfolding is_digit
loop-digit-preserved c = rw c.from.ensures (one_more _ _ _ c.loop-digit.invariant c.loop-digit-test.true (sym c.is_digit.ensures ∙ c.if-not-is_digit.false))

pub returns : goal.returns
returns c = c.ok.ensures.value ∙ borrower-read _ _ _ c.loop-digit.invariant c.loop-digit-test.false _ c.try_from.ensures
