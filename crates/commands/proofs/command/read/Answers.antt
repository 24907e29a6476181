-- `command::read`: by the line's length, then by its first word.
use Rattle.std.proofs.Common.{rules, ◌≡◌, ◌∙◌, sym, Err}
use Rattle.commands.specs.declared.command.Fault.TheVariants as faults
use Rattle.commands.proofs.Reading.{compared, long-line, is-issue, is-sheet, is-return, no_return, is_ask, no_ask, no-command, no-other}
use Rattle.commands.proofs.command.read.Goals as goal

pub returns-then-line-gt-LONGEST_COMMAND : goal.returns-then-line-gt-LONGEST_COMMAND
returns-then-line-gt-LONGEST_COMMAND c = long-line _ c.if-line-gt-LONGEST_COMMAND.true

pub returns-then-is_empty : goal.returns-then-is_empty
returns-then-is_empty c = no-command _ _ _ c.if-line-gt-LONGEST_COMMAND.false c.next.ensures.word c.next.ensures.behind (sym c.is_empty.ensures ∙ c.if-is_empty.true)

pub returns-then-eq : goal.returns-then-eq
returns-then-eq c = is-issue _ _ _ c.if-line-gt-LONGEST_COMMAND.false c.next.ensures.word c.next.ensures.behind (compared _ _ _ c.eq.ensures c.as_slice.ensures c.if-eq.true) _ c.issue.ensures

pub returns-in_ok-text : goal.returns-in_ok-text
returns-in_ok-text c =
    is-return _ _ _ c.if-line-gt-LONGEST_COMMAND.false c.next.ensures.word c.next.ensures.behind (compared _ _ _ c.eq-else-eq.ensures c.as_slice-else-eq.ensures c.if-eq-2.true)
    _ (rw (c.ok_or.ensures.ok_part, c.in_ok-text.was) at c.only_word.ensures)

pub returns-in_err-text : goal.returns-in_err-text
returns-in_err-text c =
    let e : c.from_residual.result ≡ Err faults.ReturnWords = search rules in
    rw e
    (no_return _ _ _ c.if-line-gt-LONGEST_COMMAND.false c.next.ensures.word c.next.ensures.behind (compared _ _ _ c.eq-else-eq.ensures c.as_slice-else-eq.ensures c.if-eq-2.true)
    (rw (c.ok_or.ensures.ok_part, c.in_err-text.was) at c.only_word.ensures))

pub returns-in_ok-text-2 : goal.returns-in_ok-text-2
returns-in_ok-text-2 c =
    is_ask _ _ _ c.if-line-gt-LONGEST_COMMAND.false c.next.ensures.word c.next.ensures.behind (compared _ _ _ c.eq-else-eq-2.ensures c.as_slice-else-eq-2.ensures c.if-eq-3.true)
    _ (rw (c.ok_or-then-eq-3.ensures.ok_part, c.in_ok-text-2.was) at c.only_word-then-eq-3.ensures)

pub returns-in_err-text-2 : goal.returns-in_err-text-2
returns-in_err-text-2 c =
    let e : c.from_residual-in_err-text-2.result ≡ Err faults.AskWords = search rules in
    rw e
    (no_ask _ _ _ c.if-line-gt-LONGEST_COMMAND.false c.next.ensures.word c.next.ensures.behind (compared _ _ _ c.eq-else-eq-2.ensures c.as_slice-else-eq-2.ensures c.if-eq-3.true)
    (rw (c.ok_or-then-eq-3.ensures.ok_part, c.in_err-text-2.was) at c.only_word-then-eq-3.ensures))

pub returns-then-eq-4 : goal.returns-then-eq-4
returns-then-eq-4 c = is-sheet _ _ _ c.if-line-gt-LONGEST_COMMAND.false c.next.ensures.word c.next.ensures.behind (compared _ _ _ c.eq-else-eq-3.ensures c.as_slice-else-eq-3.ensures c.if-eq-4.true) _ c.sheet.ensures

pub returns-else-eq-4 : goal.returns-else-eq-4
returns-else-eq-4 c =
    no-other _ _ _ c.if-line-gt-LONGEST_COMMAND.false c.next.ensures.word c.next.ensures.behind (sym c.is_empty.ensures ∙ c.if-is_empty.false)
    (compared _ _ _ c.eq.ensures c.as_slice.ensures c.if-eq.false)
    (compared _ _ _ c.eq-else-eq.ensures c.as_slice-else-eq.ensures c.if-eq-2.false)
    (compared _ _ _ c.eq-else-eq-2.ensures c.as_slice-else-eq-2.ensures c.if-eq-3.false)
    (compared _ _ _ c.eq-else-eq-3.ensures c.as_slice-else-eq-3.ensures c.if-eq-4.false)
