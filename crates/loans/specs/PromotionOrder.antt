-- The tests of the checker, in their order: 23, 15, those of a replay at each record, 36, 37, 27.
use Rattle.std.specs.Prelude.{ℕ, not, List, [], ◌∷◌, length, eqb, leb}
use Rattle.iscc.specs.Refusals.{area_too_short, not_register, last_numbers_differ, log_torn, loans_differ}
use Rattle.iscc.specs.Answer.{Answer, accept, refuse}
use Rattle.iscc.specs.Exactly.{Rule, once}
use Rattle.loans.specs.Loan.{is_some}
use Rattle.loans.specs.Numbered.{nothing}
use Rattle.loans.specs.Contents.{is_register, contents_of}
use Rattle.loans.specs.Log.{records_from}
use Rattle.loans.specs.PendingLog.{apply_record}
use Rattle.loans.specs.LogOrder.{record_rules, record_stage}
use Rattle.loans.specs.Promotion.{Verdict, granted, refused, refused_at, refused_for, difference, from_empty}

-- the verdict as an answer: yes, or a refusal
abbrev pub verdict_answer : Verdict → Answer (Unit {0})
verdict_answer granted = accept tt
verdict_answer (refused q) = refuse q
verdict_answer (refused_at q offset) = refuse q
verdict_answer (refused_for q c) = refuse q

unfoldable pub promotion_stages : List ℕ → List ℕ → List ℕ → List (List Rule)
promotion_stages log replica work =
    once not_register (is_register replica)
    ∷ once area_too_short (leb 12308 (length work))
    ∷ record_stage apply_record record_rules (records_from 0 log).whole nothing
    ∷ once log_torn (not (is_some (records_from 0 log).tear))
    ∷ once loans_differ (not (is_some (difference (from_empty log).state.loans (contents_of replica).loans)))
    ∷ once last_numbers_differ (eqb (from_empty log).state.last (contents_of replica).last)
    ∷ []
