-- The answers in the code.
use Rattle.iscc.specs.Refusals.{refusal_number, log_torn}
use Rattle.std.specs.Prelude.{ℕ, cond, List, [], take, eqb, Option, Some, None, Result, Ok, Err}
use Rattle.std.proofs.Math.Option as math
use Rattle.iscc.specs.Lists.{same_bytes}
use Rattle.iscc.specs.declared.code.Code.{Code}
use Rattle.iscc.specs.Representation.{code_as}
use Rattle.octets.specs.Order.{before}
use Rattle.loans.specs.Loan.{Loan}
use Rattle.loans.specs.Promotion as verdicts
use Rattle.loans.specs.Promotion.{granted, refused, refused_at, refused_for}
use Rattle.pending_log.specs.declared.replay.Replayed.{Replayed}
use Rattle.pending_log.specs.declared.replay.Replayed.TheVariants as ends
use Rattle.promotion.specs.declared.answer.Denial.{Denial}
use Rattle.promotion.specs.declared.answer.Denial.TheVariants as denials

-- of two loans the lesser code that differs
unfoldable pub loans_difference : Loan → Loan → math.Option (List ℕ)
loans_difference l k =
    cond (same_bytes l.code k.code) (cond (eqb l.borrower k.borrower) math.none (math.some l.code))
    (cond (before l.code k.code) (math.some l.code) (math.some k.code))

-- the least difference, by value
abbrev pub difference_as : math.Option (List ℕ) → Option Code
difference_as math.none = None
difference_as (math.some c) = Some (code_as c)

-- the checker's answer, and the code and the offset that it tells
abbrev pub Promotion : Type 0
Promotion = Result (Unit {0}) Denial

abbrev pub promotion_as : verdicts.Verdict → Promotion
promotion_as granted = Ok tt
promotion_as (refused q) = Err (denials.Refused q)
promotion_as (refused_at q offset) = Err (denials.At q offset)
promotion_as (refused_for q c) = Err (denials.For q (code_as c))

abbrev pub code_told : verdicts.Verdict → List ℕ
code_told granted = []
code_told (refused q) = []
code_told (refused_at q offset) = []
code_told (refused_for q c) = c

abbrev pub offset_told : verdicts.Verdict → ℕ
offset_told granted = 0
offset_told (refused q) = 0
offset_told (refused_at q offset) = offset
offset_told (refused_for q c) = 0

-- what the end of a replay says
abbrev pub ended_as : Replayed → Promotion
ended_as ends.Ended = promotion_as granted
ended_as (ends.Torn offset) = promotion_as (refused_at log_torn offset)
ended_as (ends.Stopped q offset) = promotion_as (refused_at q offset)
ended_as (ends.Refused q) = promotion_as (refused q)

-- its number, offset and code by the specification
abbrev pub promotion_number : Promotion → ℕ
promotion_number (Ok x) = 0
promotion_number (Err (denials.Refused q)) = refusal_number q
promotion_number (Err (denials.At q offset)) = refusal_number q
promotion_number (Err (denials.For q code)) = refusal_number q

abbrev pub promotion_offset : Promotion → ℕ
promotion_offset (Ok x) = 0
promotion_offset (Err (denials.Refused q)) = 0
promotion_offset (Err (denials.At q offset)) = offset
promotion_offset (Err (denials.For q code)) = 0

abbrev pub promotion_code : Promotion → List ℕ
promotion_code (Ok x) = []
promotion_code (Err (denials.Refused q)) = []
promotion_code (Err (denials.At q offset)) = []
promotion_code (Err (denials.For q code)) = take code.length code.bytes
