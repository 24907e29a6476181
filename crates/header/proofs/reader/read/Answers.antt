-- A short header by its law, any other by `read_any`.
use Rattle.std.proofs.Common.{◌∙◌}
use Rattle.header.proofs.Read.{fields_told}
use Rattle.header.proofs.Short.{short-there, short-fields}
use Rattle.header.proofs.reader.read.Goals as goal

pub returns-in-len2-up-clause-answer : goal.returns-in-len2-up-clause-answer
returns-in-len2-up-clause-answer c = short-there _ _ _ c.in-len2-up.len_at_least c.is_short.ensures c.if-is_short.true c.short.ensures

pub returns-in-len2-up-clause-fields : goal.returns-in-len2-up-clause-fields
returns-in-len2-up-clause-fields c = short-fields _ _ _ c.in-len2-up.len_at_least c.is_short.ensures c.if-is_short.true c.short.ensures

pub returns-in_default-clause-fields : goal.returns-in_default-clause-fields
returns-in_default-clause-fields c = fields_told _ _ (c.ok_or.ensures.value ∙ c.read_any.ensures)
