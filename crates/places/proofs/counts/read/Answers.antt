-- `counts::read` meets its contract.
use Rattle.std.proofs.Common.{rules, ◌∙◌}
use Rattle.places.proofs.Counting.{number_read}
use Rattle.places.proofs.counts.read.Goals as goal

pub returns : goal.returns
returns c = (number_read _ _ (search rules) c.requires _ (c.from.ensures ∙ c.from_be_bytes.ensures), search rules)
