-- v is the value of the nibbles passed.
use Rattle.std.proofs.Common.{◌≡◌, ◌<◌, ◌^◌, take, drop}
use Rattle.iscc.specs.Digits.{value}
use Rattle.iscc.specs.Header.{nibbles}
use Rattle.header.proofs.reader.value_at.Given as goal

abbrev pub invariant-loop-i : goal.invariant-loop-i
invariant-loop-i l = record { small : l.v < 16 ^ l.i; passed : l.v ≡ value 4 (take l.i (drop l.at (nibbles l.bytes))) }
