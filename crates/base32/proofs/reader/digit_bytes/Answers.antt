-- All eight at once, by `digit-bytes`.
use Rattle.std.proofs.Common.{rules, ◌∙◌, map}
use Rattle.iscc.specs.Alphabet.{digit_in}
use Rattle.iscc.specs.Base32.{base32}
use Rattle.iscc.specs.Digits.{value}
use Rattle.iscc.proofs.Digits.{below_all}
use Rattle.iscc.proofs.Words.{word-of}
use Rattle.base32.proofs.Lanes.{DigitBytes, digit-bytes}
use Rattle.base32.proofs.reader.digit_bytes.Goals as goal

bytes : (c : goal.After-from_be_bytes-w) → DigitBytes c.from_be_bytes-w.result (value 8 (map (digit_in base32) c.args.group))
bytes c =
    rw (c.from_be_bytes-w.ensures ∙ word-of c.args.group (search rules))
    (digit-bytes c.args.group (search rules) (below_all 256 c.args.group (λ k _. search rules)) c.requires)

pub overflow_sub-result : goal.overflow_sub-result
overflow_sub-result c = (bytes c).fits

pub returns : goal.returns
returns c = (bytes c).is
