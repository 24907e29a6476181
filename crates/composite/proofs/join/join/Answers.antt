-- `join` meets its contract.
use Rattle.std.proofs.Common.{refl, sym, ◌∙◌, ap}
use Rattle.iscc.specs.Answer.{refuse}
use Rattle.iscc.proofs.Answer.{exit-same}
use Rattle.iscc.proofs.Filling.{refused, answers-same}
use Rattle.composite.proofs.Joins.{listed_of, read-refused, join-refused, joins-one, joins-more}
use Rattle.composite.proofs.join.join.Goals as goal

pub returns-in_err-read-clause-answer : goal.returns-in_err-read-clause-answer
returns-in_err-read-clause-answer c =
    exit-same _ c.from_residual.ensures
    ∙ (refused c.args.out.now (join-refused _ _ (read-refused _ c.read-read.ensures.answer _ _ c.in_err-read.was).0) refl).0

pub returns-in_err-read-clause-area : goal.returns-in_err-read-clause-area
returns-in_err-read-clause-area c =
    (refused c.args.out.now (join-refused _ _ (read-refused _ c.read-read.ensures.answer _ _ c.in_err-read.was).0) refl).1

pub returns-then-read-lt2-clause-answer : goal.returns-then-read-lt2-clause-answer
returns-then-read-lt2-clause-answer c =
    let i = listed_of _ c.read-read.ensures.answer _ c.read-read.ensures.list c.in_ok-read.was in
    (refused c.args.out.now (joins-one _ _ i c.if-read-lt2.true ∙ ap refuse (sym c.single.ensures)) refl).0

pub returns-then-read-lt2-clause-area : goal.returns-then-read-lt2-clause-area
returns-then-read-lt2-clause-area c =
    let i = listed_of _ c.read-read.ensures.answer _ c.read-read.ensures.list c.in_ok-read.was in
    (refused c.args.out.now (joins-one _ _ i c.if-read-lt2.true ∙ ap refuse (sym c.single.ensures)) refl).1

pub join_list-requires : goal.join_list-requires
join_list-requires c = listed_of _ c.read-read.ensures.answer _ c.read-read.ensures.list c.in_ok-read.was

pub returns-clause-answer : goal.returns-clause-answer
returns-clause-answer c =
    let i = listed_of _ c.read-read.ensures.answer _ c.read-read.ensures.list c.in_ok-read.was in
    (answers-same c.args.out.now (joins-more _ _ i c.if-read-lt2.false) c.join_list.ensures.answer c.join_list.ensures.area).0

pub returns-clause-area : goal.returns-clause-area
returns-clause-area c =
    let i = listed_of _ c.read-read.ensures.answer _ c.read-read.ensures.list c.in_ok-read.was in
    (answers-same c.args.out.now (joins-more _ _ i c.if-read-lt2.false) c.join_list.ensures.answer c.join_list.ensures.area).1
