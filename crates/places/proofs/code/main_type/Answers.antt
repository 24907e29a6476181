-- `code::main_type` meets its contract.
use Rattle.iscc.proofs.Digits.{below_all}
use Rattle.places.proofs.CodeTypes.{first_byte, is-type, type-is}
use Rattle.places.proofs.code.main_type.Goals as goal

pub bounds-code-0 : goal.bounds-code-0
bounds-code-0 c = first_byte _ (below_all 256 c.args.code.now (λ k _. (c.type_inv.code k).fits)) c.requires

pub unwrap-requires : goal.unwrap-requires
unwrap-requires c = is-type _ (below_all 256 c.args.code.now (λ k _. (c.type_inv.code k).fits)) c.requires _ c.from.ensures _ c.try_from.ensures

pub returns : goal.returns
returns c =
    type-is _ (below_all 256 c.args.code.now (λ k _. (c.type_inv.code k).fits)) c.requires _ c.from.ensures _ c.try_from.ensures _ c.unwrap.ensures
