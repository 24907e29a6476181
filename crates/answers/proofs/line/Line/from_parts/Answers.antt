-- `Line::from_parts`: all that is put fits, and a length above 200 stands for all bytes.
use Rattle.std.proofs.Common.{◌≡◌, take, length-take, rules, arith}
use lib.Seq.{take_all}
use Rattle.answers.proofs.Parts.{cut-same}
use Rattle.answers.proofs.line.Line.from_parts.Goals as goal

pub returns : goal.returns
returns c =
    let all : take c.min-count.result c.args.bytes ≡ take c.args.length c.args.bytes = cut-same _ 200 _ _ (search rules) (omega arith) in
    let fits : take 200 (take c.min-count.result c.args.bytes) ≡ take c.min-count.result c.args.bytes = take_all 200 _ (simp length-take (omega arith)) in
    let put = rw c.new-line.ensures at c.push.ensures in
    cc
