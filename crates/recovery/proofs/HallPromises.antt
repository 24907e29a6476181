-- The promises of the halls hold.
use Prim.Native.Nat.{ℕ, ◌≤◌}
use mathlib.Core.Path.{◌≡◌, refl}
use mathlib.Core.Bool.{Bool, true, false}
use mathlib.Core.List.{List, flatten}
use lib.ListN.{length}
use Rattle.iscc.specs.Answer.{accept}
use Rattle.iscc.specs.Digits.{Below}
use Rattle.loans.specs.Numbered.{nothing}
use Rattle.loans.specs.Contents.{is_register, bytes_of}
use Rattle.loans.specs.PendingLog.{apply_record}
use Rattle.loans.specs.Promotion.{from_empty, promotion}
use Rattle.loans.proofs.Promotion.{from-valid, from_back, trial-yes, trial-23}
use Rattle.recovery.specs.Concluded.{concluded}
use Rattle.recovery.specs.Recovery.{HallPromises}
use Rattle.recovery.proofs.InPieces.{in_pieces}
use Rattle.recovery.proofs.Crash.{recovery}

module _ (log replica work : List ℕ) (k : Below 256 log) (h : 12308 ≤ length work) where
  concluded-by : (b : Bool) → is_register replica ≡ b
      → concluded (accept (from_empty log).end) (bytes_of (from_empty log).state) replica ≡ promotion log replica work
  unfolding concluded promotion
  concluded-by true v = rw (v, from-valid log k, from_back log k, trial-yes log replica work v h)
  concluded-by false v = rw (v, trial-23 log replica work v)

pub hall-promises : HallPromises
hall-promises =
    record {
      pieces = in_pieces apply_record;
      recovery = recovery;
      promoted = λ ps replica work k h.
          rw ((in_pieces apply_record).any_cut ps nothing) (concluded-by (flatten ps) replica work k h (is_register replica) refl);
    }
