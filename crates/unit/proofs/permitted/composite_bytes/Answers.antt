-- `composite_bytes` meets its contract.
use Rattle.unit.proofs.Table.{body-units}
use Rattle.unit.proofs.permitted.composite_bytes.Goals as goal

pub returns : goal.returns
returns c = body-units _ _ _ _ c.body_count.ensures.0 c.unit_bytes.ensures
