-- `place::number_in`: four bytes hold no more.
use Rattle.std.proofs.Common.{◌∙◌}
use Rattle.places.proofs.PlaceMade.{number-read}
use Rattle.places.proofs.place.number_in.Goals as goal

pub returns : goal.returns
returns c = c.from_be_bytes.ensures ∙ number-read _ c.told-part
