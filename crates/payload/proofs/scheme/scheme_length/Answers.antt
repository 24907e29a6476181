-- The first five characters, in any letter case.
use Rattle.std.proofs.Common.{refl, inl, inr, arith}
use mathlib.Core.Bool.{false≢true}
use Rattle.payload.proofs.Blanks.{scheme-there, scheme-other, scheme-cut}
use Rattle.payload.proofs.scheme.scheme_length.Goals as goal

pub returns-in-Some-clause-value : goal.returns-in-Some-clause-value
returns-in-Some-clause-value c = scheme-there c.args.text.now c.in-Some.front.now c.in-Some.ensures.lookup.0.2 (c.if-eq_ignore_ascii_case.ensures.test.0 refl)

pub returns-in_default-clause-value : goal.returns-in_default-clause-value
returns-in_default-clause-value c =
    scheme-other c.args.text.now c.in-Some.front.now c.in-Some.ensures.lookup.0.2 (λ e. false≢true (c.if-eq_ignore_ascii_case.ensures.test.1 e))

pub returns-in_default-2-clause-value : goal.returns-in_default-2-clause-value
returns-in_default-2-clause-value c =
    let h = rw c.in_default.is at c.get.ensures.lookup in
    elim h.0 [ inl x ↦ absurd (omega arith) | inr x ↦ scheme-cut c.args.text.now x ]
