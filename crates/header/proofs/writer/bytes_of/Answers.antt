-- Two nibbles a byte.
use Rattle.std.proofs.Common.{◌≡◌, ◌+◌, ◌/◌, arith}
use Rattle.header.proofs.Write.{bytes-even, bytes-odd, fits-pad}
use Rattle.header.proofs.writer.bytes_of.Goals as goal

pub returns-then-n-eq0 : goal.returns-then-n-eq0
returns-then-n-eq0 c = bytes-even _ _ _ c.nibbles_of-n.ensures.nibbles c.if-n-eq0.true

pub overflow_mul-result : goal.overflow_mul-result
overflow_mul-result c =
    let n = c.nibbles_of-n.result in
    omega (arith, fits-pad n.count n.value (omega arith) n.fits)

pub returns : goal.returns
returns c =
    let e : c.div_ceil.result ≡ (c.nibbles_of-n.result.count + 1) / 2 = omega (arith, c.div_ceil.ensures) in
    rw e (bytes-odd _ _ _ c.nibbles_of-n.ensures.nibbles c.if-n-eq0.false)
