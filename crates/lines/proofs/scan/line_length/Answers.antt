-- The first LF.
use Rattle.std.proofs.Common.{◌≡◌, ◌∙◌, sym, true, false, eqb, rules}
use Rattle.std.proofs.lemmas.Iterator.{YieldsList-from_slice, IsFirst-from_position}
use Rattle.lines.proofs.Fed.{lf-first}
use Rattle.lines.proofs.scan.line_length.Goals as goal

pub returns-clause-found : goal.returns-clause-found
returns-clause-found c =
    c.unwrap_or.ensures
    ∙ sym (lf-first _ _ (IsFirst-from_position _ _ _ (λ x. eqb x 10 ≡ true) (λ x. eqb x 10 ≡ false) c.position.ensures.ran (YieldsList-from_slice c.args.piece.now cc) (λ x q k. search rules) (λ x q k. search rules)))
