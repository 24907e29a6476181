-- An area that is too short.
use Rattle.std.proofs.Common.{arith, refl}
use Rattle.iscc.specs.Alphabet.{encode}
use Rattle.iscc.specs.Base32.{base32}
use Rattle.iscc.proofs.Alphabet.{length-encode}
use Rattle.iscc.proofs.Filling.{too_short}
use Rattle.base32.proofs.writer.write.Goals as goal

pub returns-then-out-count : goal.returns-then-out-count
unfolding base32
returns-then-out-count c =
    let a = too_short (encode base32 c.args.bytes.now) c.args.out.now (omega (arith, length-encode base32 c.args.bytes.now, c.text_length-count.ensures, c.if-out-count.true)) refl in
    record { answer = a.0; area = a.1 }
