-- `write` meets its contract: a law of `write_unit` for each return.
use Rattle.std.proofs.Common.{sym, arith, rules, []}
use Rattle.iscc.specs.contracts.main_type.Name.{the_type}
use denote.Enum.Bare.{same_true, same_false}
use Rattle.iscc.proofs.Permitted.{number_small}
use Rattle.unit.proofs.Write.{numbers-small, write-composite, write-8, write-9, write-15, write-ok}
use Rattle.unit.proofs.Read.{length-small}
use Rattle.unit.proofs.writer.write.Goals as goal

pub returns-then-eq-clause-answer : goal.returns-then-eq-clause-answer
returns-then-eq-clause-answer c =
    (write-composite _ _ _ _ _ _ (same_true the_type (search rules) _ _ (sym c.if-eq.ensures))).0

pub returns-then-eq-clause-area : goal.returns-then-eq-clause-area
returns-then-eq-clause-area c =
    (write-composite _ _ _ _ _ _ (same_true the_type (search rules) _ _ (sym c.if-eq.ensures))).1

pub returns-then-not-permits-clause-answer : goal.returns-then-not-permits-clause-answer
returns-then-not-permits-clause-answer c = (write-8 _ _ _ _ _ _ c.permits.ensures c.if-not-permits.true).0

pub returns-then-not-permits-clause-area : goal.returns-then-not-permits-clause-area
returns-then-not-permits-clause-area c = (write-8 _ _ _ _ _ _ c.permits.ensures c.if-not-permits.true).1

pub body_bytes-count-requires : goal.body_bytes-count-requires
body_bytes-count-requires c = length-small _ _ _ _ c.permits.ensures c.if-not-permits.false

pub returns-then-body-count-clause-answer : goal.returns-then-body-count-clause-answer
returns-then-body-count-clause-answer c =
    (write-9 _ _ _ _ _ _ c.permits.ensures (same_false the_type _ _ (sym c.if-eq.ensures)) c.if-not-permits.false c.body_bytes-count.ensures.0 c.if-body-count.true).0

pub returns-then-body-count-clause-area : goal.returns-then-body-count-clause-area
returns-then-body-count-clause-area c =
    (write-9 _ _ _ _ _ _ c.permits.ensures (same_false the_type _ _ (sym c.if-eq.ensures)) c.if-not-permits.false c.body_bytes-count.ensures.0 c.if-body-count.true).1

pub returns-then-out-count-clause-answer : goal.returns-then-out-count-clause-answer
returns-then-out-count-clause-answer c =
    (write-15 _ _ _ _ _ _ c.permits.ensures (same_false the_type _ _ (sym c.if-eq.ensures)) c.if-not-permits.false c.body_bytes-count.ensures.0 c.if-body-count.false c.if-out-count.true).0

pub returns-then-out-count-clause-area : goal.returns-then-out-count-clause-area
returns-then-out-count-clause-area c =
    (write-15 _ _ _ _ _ _ c.permits.ensures (same_false the_type _ _ (sym c.if-eq.ensures)) c.if-not-permits.false c.body_bytes-count.ensures.0 c.if-body-count.false c.if-out-count.true).1

pub lay-requires : goal.lay-requires
lay-requires c =
    let s = numbers-small _ _ _ _ [] [] c.permits.ensures (same_false the_type _ _ (sym c.if-eq.ensures)) c.if-not-permits.false c.body_bytes-count.ensures.0 in
    let n = number_small c.args.main_type in
    (omega (arith, c.number.ensures, n), omega (arith, s.subtype), omega (arith, s.version), omega (arith, s.length_number), omega arith, omega arith)

pub returns-clause-answer : goal.returns-clause-answer
returns-clause-answer c =
    (write-ok _ _ _ _ _ _ c.permits.ensures (same_false the_type _ _ (sym c.if-eq.ensures)) c.if-not-permits.false c.body_bytes-count.ensures.0 c.if-body-count.false c.if-out-count.false c.number.ensures c.lay.ensures).0

pub returns-clause-area : goal.returns-clause-area
returns-clause-area c =
    (write-ok _ _ _ _ _ _ c.permits.ensures (same_false the_type _ _ (sym c.if-eq.ensures)) c.if-not-permits.false c.body_bytes-count.ensures.0 c.if-body-count.false c.if-out-count.false c.number.ensures c.lay.ensures).1
