-- Neighbours joined three times, by `eight`.
use Rattle.std.proofs.Common.{rules, ◌∙◌, map}
use lib.ListN.{length-map}
use Rattle.iscc.specs.Alphabet.{digit_in}
use Rattle.iscc.specs.Base32.{base32}
use Rattle.base32.proofs.Lanes.{eight}
use Rattle.base32.proofs.reader.load_eight.Goals as goal

pub returns : goal.returns
returns c = rw c.digit_bytes-eight.ensures (eight (map (digit_in base32) c.args.group) (length-map c.args.group (digit_in base32) ∙ search rules) c.requires).is
