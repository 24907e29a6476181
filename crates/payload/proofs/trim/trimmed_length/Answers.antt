-- By the last character.
use Rattle.std.proofs.Common.{arith, ◌-◌, ◌∙◌, ap, sym, length}
use lib.Seq.{length-take-le}
use Rattle.payload.proofs.Blanks.{end-none, end-blank, end-kept}
use Rattle.payload.proofs.trim.trimmed_length.Goals as goal

pub loop-rest-preserved : goal.loop-rest-preserved
loop-rest-preserved c =
    let r = c.loop-rest in
    record {
      within = omega (arith, r.invariant.within, length-take-le (length r.rest.now - 1) r.rest.now (omega arith));
      same = end-blank _ c.in-len1-up.len_at_least (sym c.is_blank.ensures ∙ c.if-not-is_blank.false) ∙ r.invariant.same;
    }

pub returns-in_default-clause-value : goal.returns-in_default-clause-value
returns-in_default-clause-value c = end-none _ c.in_default.len_below ∙ ap length c.loop-rest.invariant.same

pub returns-then-not-is_blank-clause-value : goal.returns-then-not-is_blank-clause-value
returns-then-not-is_blank-clause-value c =
    end-kept _ c.in-len1-up.len_at_least (sym c.is_blank.ensures ∙ c.if-not-is_blank.true) ∙ ap length c.loop-rest.invariant.same
