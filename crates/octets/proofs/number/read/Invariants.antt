-- The number of the first bytes, by 32 bits.
use Rattle.std.proofs.Common.{◌≡◌, ◌%◌, ◌^◌, take}
use Rattle.iscc.specs.Digits.{value}
use Rattle.octets.proofs.number.read.Given as goal

abbrev pub invariant-loop-byte : goal.invariant-loop-byte
invariant-loop-byte l = l.number ≡ value 8 (take l.byte-index l.part) % 2 ^ 32
