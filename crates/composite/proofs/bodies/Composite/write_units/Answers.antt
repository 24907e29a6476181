-- `Composite::write_units` meets its contract.
use Rattle.std.proofs.Common.{ap, ◌*◌, ℕ, ◌∙◌, sym}
use Rattle.composite.specs.Code.{split_into}
use Rattle.composite.proofs.Bytes.{into-short, into-fits}
use Rattle.composite.proofs.Units.{units_size, units_area}
use Rattle.composite.proofs.bodies.Composite.write_units.Goals as goal

pub returns-then-out-size-clause-answer : goal.returns-then-out-size-clause-answer
returns-then-out-size-clause-answer c =
    (into-short (split_into c.args.self) c.args.out.now _
    (units_size _ _ c.self.view_is c.self.invariant _ c.unit_set-set.ensures.0 ∙ ap (λ (n : ℕ). n * 10) (sym c.from-size.ensures)) c.if-out-size.true).0

pub returns-then-out-size-clause-area : goal.returns-then-out-size-clause-area
returns-then-out-size-clause-area c =
    (into-short (split_into c.args.self) c.args.out.now _
    (units_size _ _ c.self.view_is c.self.invariant _ c.unit_set-set.ensures.0 ∙ ap (λ (n : ℕ). n * 10) (sym c.from-size.ensures)) c.if-out-size.true).1

pub returns-clause-answer : goal.returns-clause-answer
returns-clause-answer c =
    (into-fits (split_into c.args.self) c.args.out.now _
    (units_size _ _ c.self.view_is c.self.invariant _ c.unit_set-set.ensures.0 ∙ ap (λ (n : ℕ). n * 10) (sym c.from-size.ensures)) _ c.if-out-size.false
    (units_area _ _ c.self.view_is c.self.invariant _ c.unit_set-set.ensures.0 _ _ c.put_units.ensures)).0

pub returns-clause-area : goal.returns-clause-area
returns-clause-area c =
    (into-fits (split_into c.args.self) c.args.out.now _
    (units_size _ _ c.self.view_is c.self.invariant _ c.unit_set-set.ensures.0 ∙ ap (λ (n : ℕ). n * 10) (sym c.from-size.ensures)) _ c.if-out-size.false
    (units_area _ _ c.self.view_is c.self.invariant _ c.unit_set-set.ensures.0 _ _ c.put_units.ensures)).1
