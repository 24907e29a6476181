-- `change::put` meets its contract.
use Rattle.iscc.proofs.Digits.{below_all}
use Rattle.register.proofs.Areas.{code-short, put-done}
use Rattle.register.proofs.change.put.Goals as goal

pub place_of-loan-requires : goal.place_of-loan-requires
place_of-loan-requires c = code-short _ (below_all 256 c.args.code.now (λ k _. (c.type_inv.code k).fits)) c.requires.0

pub returns : goal.returns
returns c =
    let counts = (rw c.unwrap.ensures at c.first_chunk_mut.ensures.cases).same in
    put-done c.args.area.now _ _ _ _ _ c.told-area c.insert.auto.places c.main_type.ensures _ _ _ c.place_of-loan.ensures
    c.insert.ensures (rw counts at c.one_more.ensures)
