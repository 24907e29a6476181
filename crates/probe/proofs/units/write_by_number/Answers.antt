-- `write_by_number` meets its contract: the unit writer's answer, by the number's main type.
use Rattle.std.proofs.Common.{◌∙◌, ap, ℕ, length}
use Rattle.iscc.specs.Answer.{area_after}
use Rattle.iscc.specs.Header.{header_with_numbers}
use Rattle.iscc.specs.Item.{write_unit}
use Rattle.iscc.specs.Representation.{written_as}
use Rattle.iscc.proofs.Answer.{exit-same}
use Rattle.probe.proofs.Laws.{no-type, no_write, numbered}
use Rattle.probe.proofs.units.write_by_number.Goals as goal

pub returns-in_err-main_type-clause-answer : goal.returns-in_err-main_type-clause-answer
returns-in_err-main_type-clause-answer c =
    exit-same _ c.from_residual.ensures ∙ no-type _ _ _ _ c.args.body.now c.args.out.now c.try_from.ensures _ c.in_err-main_type.was

pub returns-in_err-main_type-clause-area : goal.returns-in_err-main_type-clause-area
returns-in_err-main_type-clause-area c = no_write c.args.main_type _ _ _ c.args.body.now c.args.out.now c.try_from.ensures _ c.in_err-main_type.was

pub returns-clause-answer : goal.returns-clause-answer
returns-clause-answer c =
    c.write.ensures.answer
    ∙ ap (λ (n : ℕ). written_as (write_unit (header_with_numbers n c.args.subtype c.args.version c.args.length_number) c.args.body.now (length c.args.out.now)))
    (numbered _ c.args.subtype c.args.version c.args.length_number c.args.body.now c.args.out.now c.try_from.ensures _ c.in_ok-main_type.was)

pub returns-clause-area : goal.returns-clause-area
returns-clause-area c =
    c.write.ensures.area
    ∙ ap (λ (n : ℕ). area_after (write_unit (header_with_numbers n c.args.subtype c.args.version c.args.length_number) c.args.body.now (length c.args.out.now)) c.args.out.now)
    (numbered _ c.args.subtype c.args.version c.args.length_number c.args.body.now c.args.out.now c.try_from.ensures _ c.in_ok-main_type.was)
