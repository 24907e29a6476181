-- The code's types as representations of the definitions' values.
use mathlib.Core.Path.{◌≡◌, ◌∙◌, ap}
use Rattle.iscc.specs.Representation.{outcome_as}
use Rattle.iscc.specs.declared.outcome.Outcome.{Outcome}
use Rattle.iscc.specs.Representation.{Written}

-- what C is told of an answer
pub outcome-is : (w v : Written) (o : Outcome) → w ≡ v → o ≡ outcome_as w → o ≡ outcome_as v
outcome-is w v o e f = f ∙ ap outcome_as e
