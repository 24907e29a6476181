-- `Line::push_number`: the digits behind the line.
use Rattle.std.proofs.Common.{◌≡◌, arith}
use Rattle.std.specs.Fmt.{decimal}
use Rattle.answers.specs.Answers.{in_decimal}
use Rattle.answers.proofs.Digits.{decimal-is}
use Rattle.answers.proofs.line.Line.push_number.Goals as goal

pub returns : goal.returns
returns c = let e : decimal c.args.number ≡ in_decimal c.args.number = decimal-is c.args.number (omega arith) in cc
