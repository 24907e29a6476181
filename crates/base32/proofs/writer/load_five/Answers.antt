-- Three zeros in front make eight bytes.
use Rattle.std.proofs.Common.{rules, ◌∙◌}
use Rattle.base32.proofs.Characters.{five-bytes}
use Rattle.base32.proofs.writer.load_five.Goals as goal

pub returns : goal.returns
returns c = c.from_be_bytes.ensures ∙ five-bytes c.args.group (search rules)
