-- The first character that is no blank.
use Rattle.std.proofs.Common.{◌≡◌, ◌∙◌, sym, true, false, not, rules}
use Rattle.std.proofs.lemmas.Iterator.{YieldsList-from_slice, IsFirst-from_position}
use Rattle.iscc.specs.Doors.{is_blank}
use Rattle.payload.proofs.Blanks.{blanks-first}
use Rattle.payload.proofs.trim.blanks.Goals as goal

pub returns-clause-value : goal.returns-clause-value
returns-clause-value c =
    c.unwrap_or.ensures
    ∙ sym (blanks-first _ _ (IsFirst-from_position _ _ _ (λ x. not (is_blank x) ≡ true) (λ x. not (is_blank x) ≡ false) c.position.ensures.ran (YieldsList-from_slice c.args.text.now cc) (λ x q k. search rules) (λ x q k. search rules)))
