-- `most` is the largest answer for the first characters.
use mathlib.Core.Bool.{cond}
use Rattle.iscc.specs.Alphabet.{is_digit}
use Rattle.iscc.specs.Base32.{base32}
use Rattle.iscc.proofs.FirstNot.{Largest}
use Rattle.base32.proofs.reader.all_digits.Given as goal

abbrev pub invariant-loop-c : goal.invariant-loop-c
invariant-loop-c l = Largest (λ c. cond (is_digit base32 c) 0 1) 1 l.text l.c-index l.most
