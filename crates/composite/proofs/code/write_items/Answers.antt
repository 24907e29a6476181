-- `write_items` meets its contract: no list, or two or more.
use Rattle.std.proofs.Common.{sym, ◌∙◌, ap, length}
use Rattle.iscc.specs.Answer.{Answer, into, area_after}
use Rattle.iscc.proofs.Answer.{exit-same}
use Rattle.iscc.proofs.Digits.{below_all}
use Rattle.composite.specs.Canonical.{coded_into, detail_of}
use Rattle.composite.proofs.Joins.{listed_of, read-refused}
use Rattle.composite.proofs.Whole.{two-at-least, canonical-more}
use Rattle.composite.proofs.CodeValue.{unread-coded}
use Rattle.std.proofs.Common.{ℕ, List}
use Rattle.composite.proofs.code.write_items.Goals as goal

pub returns-in_err-read-clause-answer : goal.returns-in_err-read-clause-answer
returns-in_err-read-clause-answer c =
    exit-same _ c.from_residual.ensures ∙ (unread-coded _ c.args.out.now _ _ (read-refused _ c.read-read.ensures.answer _ _ c.in_err-read.was)).0

pub returns-in_err-read-clause-area : goal.returns-in_err-read-clause-area
returns-in_err-read-clause-area c = (unread-coded _ _ _ _ (read-refused _ c.read-read.ensures.answer _ _ c.in_err-read.was)).1

pub write_list-requires : goal.write_list-requires
write_list-requires c = listed_of _ c.read-read.ensures.answer _ c.read-read.ensures.list c.in_ok-read.was

pub returns-clause-answer : goal.returns-clause-answer
returns-clause-answer c =
    let l = listed_of _ c.read-read.ensures.answer _ c.read-read.ensures.list c.in_ok-read.was in
    let k = two-at-least _ _ l (below_all 256 _ (λ k _. (c.type_inv.bytes k).fits)) c.requires in
    c.write_list.ensures.answer ∙ ap (coded_into (length c.args.out.now) (detail_of c.args.bytes.now)) (sym (canonical-more _ _ l k))

pub returns-clause-area : goal.returns-clause-area
returns-clause-area c =
    let l = listed_of _ c.read-read.ensures.answer _ c.read-read.ensures.list c.in_ok-read.was in
    let k = two-at-least _ _ l (below_all 256 _ (λ k _. (c.type_inv.bytes k).fits)) c.requires in
    c.write_list.ensures.area ∙ ap (λ (x : Answer (List ℕ)). area_after (into (length c.args.out.now) x) c.args.out.now) (sym (canonical-more _ _ l k))
