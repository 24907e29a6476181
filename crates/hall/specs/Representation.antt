-- The definitions' values in the code.
use Rattle.std.specs.Prelude.{take, Ok, Err}
use Rattle.loans.specs.Promotion as verdicts
use Rattle.promotion.specs.declared.answer.Denial.TheVariants as denials
use Rattle.promotion.specs.Representation.{Promotion}

-- a verdict, as the code has it
abbrev pub verdict_in : Promotion → verdicts.Verdict
verdict_in (Ok x) = verdicts.granted
verdict_in (Err (denials.Refused q)) = verdicts.refused q
verdict_in (Err (denials.At q offset)) = verdicts.refused_at q offset
verdict_in (Err (denials.For q code)) = verdicts.refused_for q (take code.length code.bytes)
