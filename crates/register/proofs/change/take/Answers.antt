-- `change::take` meets its contract.
use Rattle.register.proofs.Areas.{some_left, type-left, take_done}
use Rattle.register.proofs.change.take.Goals as goal

pub one_less-requires : goal.one_less-requires
one_less-requires c =
    let counts = (rw c.unwrap.ensures at c.first_chunk_mut.ensures.cases).same in
    rw counts (
      some_left c.args.area.now _ c.told-area c.remove.auto.places c.requires.3,
      type-left c.args.area.now _ c.told-area c.remove.auto.places _ _ c.main_type.ensures c.requires.4,
    )

pub returns : goal.returns
returns c =
    let counts = (rw c.unwrap.ensures at c.first_chunk_mut.ensures.cases).same in
    take_done c.args.area.now _ _ _ _ _ c.told-area c.remove.auto.places c.main_type.ensures _ c.remove.ensures
    (rw counts at c.one_less.ensures)
