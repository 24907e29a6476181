-- What the code finds, one part after the other.
use Rattle.std.proofs.Common.{refl}
use Rattle.payload.proofs.Offsets.{code-begins, code-stands}
use Rattle.payload.proofs.span.Typed.new.Goals as goal

pub invariant_of-result-clause-begins : goal.invariant_of-result-clause-begins
invariant_of-result-clause-begins c = code-begins c.args.text.now _ _ _ _ _ refl refl c.blanks-blanks.ensures.value c.trimmed_length.ensures.value c.scheme_length-front.ensures.value

pub invariant_of-result-clause-stands : goal.invariant_of-result-clause-stands
invariant_of-result-clause-stands c = code-stands c.args.text.now _ _ _ _ _ refl refl c.blanks-blanks.ensures.value c.trimmed_length.ensures.value c.scheme_length-front.ensures.value
