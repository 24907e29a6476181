-- `put_unit` meets its contract.
use Rattle.std.proofs.Common.{rules}
use Rattle.composite.proofs.Units.{unit-put}
use Rattle.composite.proofs.writer.put_unit.Goals as goal

pub returns : goal.returns
returns c =
    unit-put c.args.main_type c.args.subtype _ c.args.body c.args.out.now _ c.args.offset c.unit_subtype-own.ensures c.requires.0 c.requires.1 (search rules) c.requires.2 c.write.ensures.area
