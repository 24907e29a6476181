-- `Composite::put_units` meets its contract: one unit more is laid. Its main type is read within the set, so by any default.
use Rattle.std.proofs.Common.{◌≡◌, ◌<◌, arith, rules, length}
use Rattle.std.proofs.lemmas.List.{get_or_default}
use Rattle.iscc.specs.declared.main_type.Name.TheVariants.{Meta}
use Rattle.composite.proofs.Parts.{none-laid, more-laid, all_laid}
use Rattle.composite.proofs.Units.{put_ok, put-long, put-units}
use Rattle.composite.proofs.bodies.Composite.put_units.Goals as goal

pub loop-i-init : goal.loop-i-init
loop-i-init c = none-laid _ 10 _

pub put_unit-requires : goal.put_unit-requires
put_unit-requires c =
    let h : c.loop-i.i < c.args.set.count = omega (arith, c.from-i-end.ensures) in
    let k = put_ok _ _ c.self.view_is c.self.invariant _ c.requires.0 c.loop-i.i h in
    rw (get_or_default c.args.set.units c.loop-i.i c.index-set-i.result Meta (search rules))
    (k.0, k.1, omega (arith, h, c.loop-i.invariant.same, c.requires.2))

pub loop-i-preserved : goal.loop-i-preserved
loop-i-preserved c =
    let e : length c.put_unit.new.out ≡ length c.loop-i.out = search rules in
    more-laid _ 10 _ _ _ c.loop-i.invariant c.put_unit.new.out
    (put-long _ _ c.self.view_is c.self.invariant _ c.requires.0 c.loop-i.i (omega (arith, c.from-i-end.ensures))) e
    (rw (get_or_default c.args.set.units c.loop-i.i c.index-set-i.result Meta (search rules)) at c.put_unit.ensures)

pub returns : goal.returns
returns c =
    put-units _ _ c.self.view_is c.self.invariant _ c.requires.0 c.args.out.now _
    (all_laid _ 10 c.args.out.now _ _ c.loop-i.invariant c.args.set.count (omega (arith, c.from-i-end.ensures)))
