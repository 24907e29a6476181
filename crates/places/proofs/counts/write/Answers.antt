-- `counts::write` meets its contract.
use Rattle.std.proofs.Common.{refl, rules}
use Rattle.places.proofs.Counting.{number-written}
use Rattle.places.proofs.counts.write.Goals as goal

pub returns : goal.returns
returns c = number-written _ _ (search rules) c.requires _ _ _ _ refl c.to_be_bytes-bytes.ensures c.copy_from_slice.ensures.after
