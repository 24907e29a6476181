-- `write_units` meets its contract: DATA at the front of the area, and INSTANCE behind it.
use Rattle.composite.specs.Wide.{wide_units}
use Rattle.composite.proofs.Bytes.{into-short, into-fits}
use Rattle.composite.proofs.TwoUnits.{units-36, units-over}
use Rattle.composite.proofs.wide.write_units.Goals as goal

pub returns-then-out-lt36-clause-answer : goal.returns-then-out-lt36-clause-answer
returns-then-out-lt36-clause-answer c = (into-short (wide_units c.args.bytes.now) c.args.out.now 36 (units-36 _ c.requires) c.if-out-lt36.true).0

pub returns-then-out-lt36-clause-area : goal.returns-then-out-lt36-clause-area
returns-then-out-lt36-clause-area c = (into-short (wide_units c.args.bytes.now) c.args.out.now 36 (units-36 _ c.requires) c.if-out-lt36.true).1

pub returns-clause-answer : goal.returns-clause-answer
returns-clause-answer c =
    (into-fits (wide_units c.args.bytes.now) c.args.out.now 36 (units-36 _ c.requires) _ c.if-out-lt36.false
    (units-over _ c.requires c.args.out.now _ _ c.if-out-lt36.false c.write.ensures.area c.write-2.ensures.area)).0

pub returns-clause-area : goal.returns-clause-area
returns-clause-area c =
    (into-fits (wide_units c.args.bytes.now) c.args.out.now 36 (units-36 _ c.requires) _ c.if-out-lt36.false
    (units-over _ c.requires c.args.out.now _ _ c.if-out-lt36.false c.write.ensures.area c.write-2.ensures.area)).1
