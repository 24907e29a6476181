-- `write_list` meets its contract: a refusal, or what the writer of the composite tells.
use Rattle.std.proofs.Common.{◌≡◌, sym, ◌∙◌, ap}
use Rattle.iscc.specs.Answer.{accept}
use Rattle.iscc.proofs.Answer.{exit-same}
use Rattle.iscc.proofs.Digits.{below_all}
use Rattle.composite.specs.Code.{composite_bytes}
use Rattle.composite.specs.Joined.{composed_bytes}
use Rattle.composite.specs.Canonical.{detail_of}
use Rattle.composite.proofs.Joins.{verdict-refuses, verdict-makes, makes-bytes}
use Rattle.composite.proofs.CodeValue.{broken-coded, written-coded, refused-coded, written-area}
use Rattle.composite.proofs.code.write_list.Goals as goal

pub returns-in_err-decide-clause-answer : goal.returns-in_err-decide-clause-answer
returns-in_err-decide-clause-answer c =
    exit-same _ c.from_residual.ensures
    ∙ (broken-coded _ c.args.out.now _ c.requires _ _ (verdict-refuses _ _ c.requires c.decide.ensures _ _ c.in_err-decide.was)).0

pub returns-in_err-decide-clause-area : goal.returns-in_err-decide-clause-area
returns-in_err-decide-clause-area c =
    (broken-coded _ c.args.out.now _ c.requires _ _ (verdict-refuses _ _ c.requires c.decide.ensures _ _ c.in_err-decide.was)).1

pub from_list-requires : goal.from_list-requires
from_list-requires c =
    let k = verdict-makes _ _ c.requires c.decide.ensures (below_all 256 _ (λ k _. (c.type_inv.bytes k).fits)) c.in_ok-decide.was in
    (k.0, k.1)

pub returns-in_err-write-clause-answer : goal.returns-in_err-write-clause-answer
returns-in_err-write-clause-answer c =
    let k = verdict-makes _ _ c.requires c.decide.ensures (below_all 256 _ (λ k _. (c.type_inv.bytes k).fits)) c.in_ok-decide.was in
    let e : composed_bytes c.args.bytes.now ≡ accept (composite_bytes c.from_list.result) =
    k.2 ∙ ap accept (sym (makes-bytes _ _ k.0 k.1 _ (c.from_list.ensures k.0 k.1))) in
    exit-same _ c.from_residual-in_err-write.ensures ∙ refused-coded (detail_of c.args.bytes.now) _ c.args.out.now _ e _ _ c.write.ensures.answer c.in_err-write.was

pub returns-in_err-write-clause-area : goal.returns-in_err-write-clause-area
returns-in_err-write-clause-area c =
    let k = verdict-makes _ _ c.requires c.decide.ensures (below_all 256 _ (λ k _. (c.type_inv.bytes k).fits)) c.in_ok-decide.was in
    let e : composed_bytes c.args.bytes.now ≡ accept (composite_bytes c.from_list.result) =
    k.2 ∙ ap accept (sym (makes-bytes _ _ k.0 k.1 _ (c.from_list.ensures k.0 k.1))) in
    written-area (detail_of c.args.bytes.now) _ c.args.out.now _ e _ c.write.ensures.area

pub returns-clause-answer : goal.returns-clause-answer
returns-clause-answer c =
    let k = verdict-makes _ _ c.requires c.decide.ensures (below_all 256 _ (λ k _. (c.type_inv.bytes k).fits)) c.in_ok-decide.was in
    let e : composed_bytes c.args.bytes.now ≡ accept (composite_bytes c.from_list.result) =
    k.2 ∙ ap accept (sym (makes-bytes _ _ k.0 k.1 _ (c.from_list.ensures k.0 k.1))) in
    written-coded (detail_of c.args.bytes.now) _ c.args.out.now _ e _ _ c.write.ensures.answer c.in_ok-write.was

pub returns-clause-area : goal.returns-clause-area
returns-clause-area c =
    let k = verdict-makes _ _ c.requires c.decide.ensures (below_all 256 _ (λ k _. (c.type_inv.bytes k).fits)) c.in_ok-decide.was in
    let e : composed_bytes c.args.bytes.now ≡ accept (composite_bytes c.from_list.result) =
    k.2 ∙ ap accept (sym (makes-bytes _ _ k.0 k.1 _ (c.from_list.ensures k.0 k.1))) in
    written-area (detail_of c.args.bytes.now) _ c.args.out.now _ e _ c.write.ensures.area
