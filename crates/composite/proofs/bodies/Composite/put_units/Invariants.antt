-- The units up to i are laid.
use Rattle.composite.proofs.Parts.{Laid}
use Rattle.composite.proofs.Units.{unit_in}
use Rattle.composite.proofs.bodies.Composite.put_units.Given as goal

abbrev pub invariant-loop-i : goal.invariant-loop-i
invariant-loop-i l = Laid (unit_in l.set.units l.self-inside.subtype l.self-inside.bodies) 10 l.initial.out l.out l.i
