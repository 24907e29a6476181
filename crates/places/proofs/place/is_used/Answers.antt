-- `place::is_used` meets its contract.
use Rattle.std.proofs.Common.{◌∙◌}
use Rattle.places.proofs.PlaceTests.{used-none, used-long, used-bad, used-code}
use Rattle.places.proofs.place.is_used.Goals as goal
use Rattle.places.proofs.place.is_used.Goals.{then-n-eq0-via-then-n-eq0, then-n-eq0-via-else-n-eq0+then-n-gt-LONGEST_CODE}

pub returns-then-n-eq0 : goal.returns-then-n-eq0
returns-then-n-eq0 c =
    elim c.then-n-eq0.branch [
      | then-n-eq0-via-then-n-eq0 w ↦ used-none _ _ c.from-n.ensures w.if-n-eq0.true
      | then-n-eq0-via-else-n-eq0+then-n-gt-LONGEST_CODE w ↦ used-long _ _ c.from-n.ensures w.if-n-eq0.false w.if-n-gt-LONGEST_CODE.true
    ]

pub returns-then-is_code : goal.returns-then-is_code
returns-then-is_code c =
    used-code _ _ c.from-n.ensures c.if-n-eq0.false c.if-n-gt-LONGEST_CODE.false _ _ c.is_code.ensures c.if-is_code.true c.all_zero.ensures

pub returns-else-is_code : goal.returns-else-is_code
returns-else-is_code c =
    c.if-is_code.false ∙ used-bad _ _ c.from-n.ensures c.if-n-eq0.false c.if-n-gt-LONGEST_CODE.false _ c.is_code.ensures c.if-is_code.false
