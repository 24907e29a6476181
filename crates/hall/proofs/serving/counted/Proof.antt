-- `serving::counted` meets its contract.
use borrow.Author.Rules.{rules}
use Rattle.hall.proofs.Tellings.{sheet-counted, sheet-refused}
use Rattle.hall.proofs.serving.counted.Statement.{statement}
use Rattle.hall.proofs.serving.counted.Tie as tie

pub counted_spec : {M : Type 1} → statement M
counted_spec =
    tie.close
    (tie.spec
    (λ c κs. search rules)
    (λ c κs. search rules)
    (λ c. sheet-counted _ _ c.before.before.is_register.ensures _ c.before.if-is_register.true c.line.ensures)
    (λ c κs. search rules)
    (λ c. sheet-refused _ _ c.before.before.is_register.ensures _ c.before.if-is_register.false c.refused.ensures))
