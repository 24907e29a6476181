-- `is_one` meets its contract: a law for each return.
use Rattle.iscc.proofs.Digits.{below_all}
use Rattle.unit.proofs.Short.{no_header, no-type, no_row, whole-test}
use Rattle.unit.proofs.Read.{length-small}
use Rattle.unit.proofs.one.is_one.Goals as goal

pub returns-then-bytes-lt2 : goal.returns-then-bytes-lt2
returns-then-bytes-lt2 c = no_header _ (below_all 256 _ (λ k _. (c.type_inv.bytes k).fits)) c.if-bytes-lt2.true

pub returns-in_default : goal.returns-in_default
returns-in_default c = no-type _ (below_all 256 _ (λ k _. (c.type_inv.bytes k).fits)) c.from-first.ensures c.from-second.ensures c.try_from.ensures _ c.in_default.is

pub returns-then-not-permits : goal.returns-then-not-permits
returns-then-not-permits c =
    no_row _ (below_all 256 _ (λ k _. (c.type_inv.bytes k).fits)) c.from-first.ensures c.from-second.ensures c.try_from.ensures _ c.in-Ok.is c.permits.ensures c.if-not-permits.true

pub body_bytes-requires : goal.body_bytes-requires
body_bytes-requires c = search length-small

pub returns : goal.returns
returns c =
    whole-test _ (below_all 256 _ (λ k _. (c.type_inv.bytes k).fits)) c.from-first.ensures c.from-second.ensures c.try_from.ensures _ c.in-Ok.is c.permits.ensures c.if-bytes-lt2.false
    c.if-not-permits.false c.body_bytes.ensures.0
