-- A law of `finishing` for each return. The first has no answer, so that it stands whatever number its test compares with; the others take
-- that test by arithmetic.
use Rattle.std.proofs.Common.{arith}
use Rattle.lines.proofs.Fed.{finished-short, finished}
use Rattle.lines.proofs.feed.finish.Goals as goal

pub returns-then-out-lt-ROOM : goal.returns-then-out-lt-ROOM
returns-then-out-lt-ROOM c = let a = finished-short c.args.out.now _ _ c.count.ensures (λ e. omega arith) (omega arith) in record { answer = a.0; area = a.1 }

pub returns : goal.returns
returns c = let a = finished c.args.out.now _ _ c.count.ensures _ _ (λ e. omega arith) (omega arith) c.kept.ensures.answer c.kept.ensures.area in record { answer = a.0; area = a.1 }
