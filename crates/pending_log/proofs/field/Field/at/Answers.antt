-- `Field::at`: the field of the size that stands there.
use Rattle.std.proofs.Common.{◌∙◌, sym, ap, is_some}
use Rattle.pending_log.proofs.Sizes.{is-torn, is_whole, field-is}
use Rattle.pending_log.proofs.field.Field.at.Goals as goal

pub returns-in_err-size-clause-whole : goal.returns-in_err-size-clause-whole
returns-in_err-size-clause-whole c = ap is_some c.from_residual.ensures ∙ sym (is-torn _ (sym c.whole_size.ensures.size ∙ c.in_err-size.was))

pub returns-clause-whole : goal.returns-clause-whole
returns-clause-whole c = sym (is_whole _ _ (sym c.whole_size.ensures.size ∙ c.in_ok-size.was)).0

pub returns-clause-field : goal.returns-clause-field
returns-clause-field c = field-is c.args.log.now _ _ c.requires (sym c.whole_size.ensures.size ∙ c.in_ok-size.was)
