-- `serving::serve`: by the command that the line is.
use Rattle.std.proofs.Common.{refl, sym}
use Rattle.hall.proofs.Tellings.{none-put, said_at}
use Rattle.hall.proofs.CommandLines.{told-as, area-as, ask-keeps, sheet-keeps}
use Rattle.hall.proofs.serving.serve.Goals as goal

pub returns-in-Ok-Issue-clause-told : goal.returns-in-Ok-Issue-clause-told
returns-in-Ok-Issue-clause-told c = told-as _ _ _ (rw (c.in-Ok-Issue.is, c.in-Ok-Issue.field-0-is) at c.read.ensures) c.issue.ensures.told

pub returns-in-Ok-Issue-clause-area : goal.returns-in-Ok-Issue-clause-area
returns-in-Ok-Issue-clause-area c = area-as _ _ _ (rw (c.in-Ok-Issue.is, c.in-Ok-Issue.field-0-is) at c.read.ensures) c.issue.ensures.area

pub returns-in-Ok-Return-clause-told : goal.returns-in-Ok-Return-clause-told
returns-in-Ok-Return-clause-told c = told-as _ _ _ (rw (c.in-Ok-Return.is, c.in-Ok-Return.field-0-is) at c.read.ensures) c.take_back.ensures.told

pub returns-in-Ok-Return-clause-area : goal.returns-in-Ok-Return-clause-area
returns-in-Ok-Return-clause-area c = area-as _ _ _ (rw (c.in-Ok-Return.is, c.in-Ok-Return.field-0-is) at c.read.ensures) c.take_back.ensures.area

pub returns-in-Ok-Ask-clause-told : goal.returns-in-Ok-Ask-clause-told
returns-in-Ok-Ask-clause-told c =
    told-as _ _ _ (rw (c.in-Ok-Ask.is, c.in-Ok-Ask.field-0-is) at c.read.ensures) (none-put _ (ask-keeps c.in-Ok-Ask.text.now c.args.area.now).0 c.ask.ensures.said)

pub returns-in-Ok-Ask-clause-area : goal.returns-in-Ok-Ask-clause-area
returns-in-Ok-Ask-clause-area c = area-as _ _ _ (rw (c.in-Ok-Ask.is, c.in-Ok-Ask.field-0-is) at c.read.ensures) (sym (ask-keeps c.in-Ok-Ask.text.now c.args.area.now).1)

pub returns-in-Ok-Sheet-clause-told : goal.returns-in-Ok-Sheet-clause-told
returns-in-Ok-Sheet-clause-told c = told-as _ _ _ (rw (c.in-Ok-Sheet.is, c.in-Ok-Sheet.field-0-is) at c.read.ensures) (none-put _ (sheet-keeps c.args.area.now).0 c.counted.ensures)

pub returns-in-Ok-Sheet-clause-area : goal.returns-in-Ok-Sheet-clause-area
returns-in-Ok-Sheet-clause-area c = area-as _ _ _ (rw (c.in-Ok-Sheet.is, c.in-Ok-Sheet.field-0-is) at c.read.ensures) (sym (sheet-keeps c.args.area.now).1)

pub returns-in-Err-clause-told : goal.returns-in-Err-clause-told
returns-in-Err-clause-told c = told-as _ _ _ (rw c.in-Err.is at c.read.ensures) (none-put _ refl (said_at c.args.area.now c.faulty.ensures))

pub returns-in-Err-clause-area : goal.returns-in-Err-clause-area
returns-in-Err-clause-area c = area-as _ _ _ (rw c.in-Err.is at c.read.ensures) refl
