-- The table's rule, computed once.
use Rattle.std.proofs.Common.{◌≡◌, ◌≤◌, ◌∙◌, sym, ap, ℕ}
use mathlib.Core.Path.{subst}
use Rattle.tables.specs.declared.UnitSet.{UnitSet}
use Rattle.iscc.specs.Permitted.{sets, set_of, unit_types}
use Rattle.tables.specs.Representation.{unit_set_as}
use Rattle.iscc.proofs.Table.{entry}
use Rattle.iscc.proofs.Permitted.{count_most}
use Rattle.tables.proofs.unit_set.Goals as goal

abbrev of : ℕ → UnitSet
of l = unit_set_as (set_of l)

bounded : (r : UnitSet) (k l : ℕ) → r ≡ of k → set_of k ≡ set_of l → (r ≡ of l) × (r.count ≤ 5)
unfolding unit_set_as
bounded r k l e s =
    let q : r ≡ of l = e ∙ ap unit_set_as s in
    (q, subst (λ (u : UnitSet). u.count ≤ 5) (sym q) (count_most (set_of l)))

pub returns : goal.returns
unfolding unit_set_as set_of sets unit_types
returns c = let r = c.row_of-row in bounded _ r.result c.args.length_number (entry of _ 8 r.result r.ensures.0) r.ensures.1
