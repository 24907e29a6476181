-- `split_item` meets its contract.
use Rattle.std.proofs.Common.{refl, sym, rules}
use denote.Enum.Bare.{differs_true, differs_false}
use Rattle.iscc.specs.contracts.main_type.Name.{the_type}
use Rattle.iscc.proofs.Digits.{below_all}
use Rattle.iscc.proofs.Filling.{refused, answers-same}
use Rattle.unit.proofs.ExactlyOne.{one-is}
use Rattle.composite.proofs.Units.{split-other, wide_room, wide-whole, code-room, split-sound, split-whole}
use Rattle.composite.proofs.split.split_item.Goals as goal

pub returns-then-ne-clause-answer : goal.returns-then-ne-clause-answer
returns-then-ne-clause-answer c =
    (refused c.args.out.now (split-other _ _ (one-is _ _ c.requires) (differs_true the_type _ _ (sym c.if-ne.ensures))) refl).0

pub returns-then-ne-clause-area : goal.returns-then-ne-clause-area
returns-then-ne-clause-area c =
    (refused c.args.out.now (split-other _ _ (one-is _ _ c.requires) (differs_true the_type _ _ (sym c.if-ne.ensures))) refl).1

pub write_units-requires : goal.write_units-requires
write_units-requires c = wide_room _ _ (one-is _ _ c.requires) (differs_false the_type (search rules) _ _ (sym c.if-ne.ensures)) c.is_wide.ensures c.if-is_wide.true

pub returns-then-is_wide-clause-answer : goal.returns-then-is_wide-clause-answer
returns-then-is_wide-clause-answer c =
    (answers-same c.args.out.now (wide-whole _ _ (one-is _ _ c.requires) (differs_false the_type (search rules) _ _ (sym c.if-ne.ensures)) c.is_wide.ensures c.if-is_wide.true) c.write_units.ensures.answer c.write_units.ensures.area).0

pub returns-then-is_wide-clause-area : goal.returns-then-is_wide-clause-area
returns-then-is_wide-clause-area c =
    (answers-same c.args.out.now (wide-whole _ _ (one-is _ _ c.requires) (differs_false the_type (search rules) _ _ (sym c.if-ne.ensures)) c.is_wide.ensures c.if-is_wide.true) c.write_units.ensures.answer c.write_units.ensures.area).1

pub from_code-requires : goal.from_code-requires
from_code-requires c =
    let w = one-is _ _ c.requires in
    let t = differs_false the_type (search rules) _ _ (sym c.if-ne.ensures) in
    let s = split-sound _ _ w t c.is_wide.ensures c.if-is_wide.false (below_all 256 _ (λ k _. (c.type_inv.bytes k).fits)) _ refl in
    record { few = s.number; permitted = s.subtype; room = code-room _ _ w t c.is_wide.ensures c.if-is_wide.false }

pub returns-clause-answer : goal.returns-clause-answer
returns-clause-answer c =
    (answers-same c.args.out.now (split-whole _ _ (one-is _ _ c.requires) (differs_false the_type (search rules) _ _ (sym c.if-ne.ensures)) c.is_wide.ensures c.if-is_wide.false (below_all 256 _ (λ k _. (c.type_inv.bytes k).fits)) _ c.from_code.ensures) c.write_units-2.ensures.answer c.write_units-2.ensures.area).0

pub returns-clause-area : goal.returns-clause-area
returns-clause-area c =
    (answers-same c.args.out.now (split-whole _ _ (one-is _ _ c.requires) (differs_false the_type (search rules) _ _ (sym c.if-ne.ensures)) c.is_wide.ensures c.if-is_wide.false (below_all 256 _ (λ k _. (c.type_inv.bytes k).fits)) _ c.from_code.ensures) c.write_units-2.ensures.answer c.write_units-2.ensures.area).1
