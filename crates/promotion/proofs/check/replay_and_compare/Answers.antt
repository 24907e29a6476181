-- `check::replay_and_compare` meets its contract.
use Rattle.std.proofs.Common.{◌∙◌, sym}
use Rattle.iscc.proofs.Answer.{exit-same}
use Rattle.iscc.proofs.Digits.{below_all}
use Rattle.loans.specs.Contents.{contents_of}
use Rattle.promotion.proofs.Trial.{filled, clear-valid, made-valid, ran-to-end, denied-told}
use Rattle.promotion.proofs.check.replay_and_compare.Goals as goal

pub run-requires : goal.run-requires
run-requires c = clear-valid _ _ c.requires (filled _ _ (c.fill.ensures.after (λ y e. e)))

pub new-requires : goal.new-requires
new-requires c =
    let log = below_all 256 c.args.log.now (λ k _. (c.type_inv.log k).fits) in
    made-valid c.args.log.now c.args.area.now _ c.requires (filled _ _ (c.fill.ensures.after (λ y e. e))) _ _ (c.run.ensures.answer, c.run.ensures.area) log

pub returns-in_err-ended : goal.returns-in_err-ended
returns-in_err-ended c =
    let t =
    denied-told c.args.log.now c.args.area.now _ c.requires (filled _ _ (c.fill.ensures.after (λ y e. e))) _ _ (c.run.ensures.answer, c.run.ensures.area)
    (contents_of c.args.replica.area.now) _ (sym c.ended.ensures ∙ c.in_err-ended.was) _ (exit-same _ c.from_residual.ensures) in
    record { answer = t.0; area = t.1 }

pub returns : goal.returns
returns c =
    let log = below_all 256 c.args.log.now (λ k _. (c.type_inv.log k).fits) in
    let t =
    ran-to-end c.args.log.now c.args.area.now _ c.requires (filled _ _ (c.fill.ensures.after (λ y e. e))) _ _ (c.run.ensures.answer, c.run.ensures.area) log
    (contents_of c.args.replica.area.now) (sym c.ended.ensures ∙ c.in_ok-ended.was) _ (rw c.new.ensures at c.compare.ensures) in
    record { answer = t.0; area = t.1 }
