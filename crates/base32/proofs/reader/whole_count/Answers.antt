-- `whole_count` meets its contract: 1, 3 and 6 over a multiple of 8, by `bad-count`.
use Rattle.std.proofs.Common.{arith}
use Rattle.iscc.proofs.Base32.{bad-count}
use Rattle.base32.proofs.reader.whole_count.Goals as goal
use Rattle.base32.proofs.reader.whole_count.Goals.{in-1, in_default}

pub returns : goal.returns
returns c = rw bad-count (elim c.match-matches.branch [ in-1 w ↦ grind arith | in_default w ↦ grind arith ])
