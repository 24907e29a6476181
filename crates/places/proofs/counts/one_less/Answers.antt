-- `counts::one_less` meets its contract.
use Rattle.std.proofs.Common.{ℕ, ◌+◌, ap}
use Rattle.places.proofs.Counting.{counted-less}
use Rattle.places.proofs.counts.one_less.Goals as goal

pub returns : goal.returns
returns c =
    counted-less _ _ _ _ _ _ _ (ap (λ (m : ℕ). m + 1) c.number.ensures) c.read-of_type.ensures.0 c.read-out.ensures.0 c.write.ensures c.write-2.ensures
