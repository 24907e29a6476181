-- `Composite::write` meets its contract.
use Rattle.composite.specs.Code.{composite_bytes}
use Rattle.composite.proofs.Bytes.{into-short, into-fits, code_size}
use Rattle.composite.proofs.bodies.Composite.write.Goals as goal

pub returns-then-out-size-clause-answer : goal.returns-then-out-size-clause-answer
returns-then-out-size-clause-answer c =
    (into-short (composite_bytes c.args.self) c.args.out.now _ (code_size _ _ c.self.view_is c.self.invariant _ c.body_count-count.ensures.0) c.if-out-size.true).0

pub returns-then-out-size-clause-area : goal.returns-then-out-size-clause-area
returns-then-out-size-clause-area c =
    (into-short (composite_bytes c.args.self) c.args.out.now _ (code_size _ _ c.self.view_is c.self.invariant _ c.body_count-count.ensures.0) c.if-out-size.true).1

pub returns-clause-answer : goal.returns-clause-answer
returns-clause-answer c =
    (into-fits (composite_bytes c.args.self) c.args.out.now _ (code_size _ _ c.self.view_is c.self.invariant _ c.body_count-count.ensures.0) _ c.if-out-size.false c.put_code.ensures).0

pub returns-clause-area : goal.returns-clause-area
returns-clause-area c =
    (into-fits (composite_bytes c.args.self) c.args.out.now _ (code_size _ _ c.self.view_is c.self.invariant _ c.body_count-count.ensures.0) _ c.if-out-size.false c.put_code.ensures).1
