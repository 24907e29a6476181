-- `item_of` meets its contract: a law of `read_item` for each return. The body's length goes by arithmetic, so that it stands whatever is
-- compared.
use Rattle.header.proofs.Bounds.{raw-bounds}
use Rattle.std.proofs.Common.{◌∙◌, arith}
use Rattle.iscc.proofs.Answer.{exit-same}
use Rattle.unit.proofs.Read.{item-type, item-bad, item-short, item-good, length-small}
use Rattle.unit.proofs.reader.item_of.Goals as goal

pub returns-in_err-main_type : goal.returns-in_err-main_type
returns-in_err-main_type c =
    exit-same _ c.from_residual.ensures ∙ item-type c.args.bytes.now c.args.raw c.requires c.try_from.ensures _ c.in_err-main_type.was

pub returns-then-not-permits : goal.returns-then-not-permits
returns-then-not-permits c =
    item-bad _ _ c.requires c.try_from.ensures _ c.in_ok-main_type.was c.permits.ensures c.if-not-permits.true

pub body_bytes-requires : goal.body_bytes-requires
body_bytes-requires c = search length-small

pub overflow_add-used : goal.overflow_add-used
overflow_add-used c = omega (arith, (raw-bounds _ _ c.requires).most)

pub returns-then-bytes-used : goal.returns-then-bytes-used
returns-then-bytes-used c =
    item-short _ _ c.requires c.try_from.ensures _ c.in_ok-main_type.was c.permits.ensures c.if-not-permits.false c.body_bytes.ensures.0 (omega arith)

pub returns : goal.returns
returns c =
    item-good _ _ c.requires c.try_from.ensures _ c.in_ok-main_type.was c.permits.ensures c.if-not-permits.false c.body_bytes.ensures.0 (omega arith)
