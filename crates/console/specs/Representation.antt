-- The C entries' answers as representations of the definitions' values.
use Rattle.iscc.specs.Refusals.{refusal_number}
use Rattle.std.specs.Prelude.{ℕ, ◌-◌, List, length, get_or, Result, Ok, Err}
use Rattle.iscc.specs.Answer.{Answer, accept, refuse, number_of}
use Rattle.iscc.specs.Lists.{zero_filled}
use Rattle.iscc.specs.Refusals.{Refusal}
use Rattle.iscc.specs.declared.outcome.Outcome.{Outcome}
use Rattle.loans.specs.Contents.{number_taken}
use Rattle.loans.specs.Writer.{Written}
use Rattle.loans.specs.Replay.{ended, torn, stopped, End, Replayed}
use Rattle.loans.specs.Promotion.{Verdict}
use Rattle.loans.specs.PromotionOrder.{verdict_answer}
use Rattle.distance.specs.declared.answer.Measured.{Measured}
use Rattle.iscc.specs.declared.code.Code.{Code}
use Rattle.register.specs.Representation.{Changed}
use Rattle.register.specs.Representation.{changed_number, changed_record}
use Rattle.promotion.specs.Representation.{offset_told, code_told}
use Rattle.console.specs.declared.lending.ChangeAnswer.{ChangeAnswer}
use Rattle.console.specs.declared.lending.Counts.{Counts}
use Rattle.console.specs.declared.lending.HolderAnswer.{HolderAnswer}
use Rattle.console.specs.declared.logging.ReplayAnswer.{ReplayAnswer}
use Rattle.console.specs.declared.promoting.PromotionAnswer.{PromotionAnswer}
use Rattle.console.specs.declared.distances.DistanceAnswer.{DistanceAnswer}

-- a distance: its number, and the three things, which a refusal has too
abbrev pub distance_answer_as : Measured → DistanceAnswer
distance_answer_as m = record { number = m.number; d = m.distance.d; n = m.distance.n; ratio = m.distance.ratio }

-- an issue or a return: its number, and the record number that it took, "0 with a refusal"
abbrev pub change_answer_for : Changed → ChangeAnswer
change_answer_for y = record { number = changed_number y; record_number = changed_record y }

abbrev pub change_answer_as : Answer (List ℕ) → ChangeAnswer
change_answer_as x = record { number = number_of x; record_number = number_taken x }

-- who has a code: "A refusal has borrower 0."; and the looks
abbrev pub holder_answer_as : Answer ℕ → ℕ → HolderAnswer
holder_answer_as (accept b) looks = record { number = 0; borrower = b; looks = looks }
holder_answer_as (refuse q) looks = record { number = (refusal_number q); borrower = 0; looks = looks }

-- how many codes are out: the eight numbers, each by its main type's name; a refusal has zeros
abbrev pub counts_answer_as : Answer (List ℕ) → Counts
counts_answer_as (accept ns) =
    record {
      number = 0;
      out = get_or ns 0 0;
      meta = get_or ns 1 0;
      semantic = get_or ns 2 0;
      content = get_or ns 3 0;
      «data» = get_or ns 4 0;
      instance = get_or ns 5 0;
      iscc = get_or ns 6 0;
      id = get_or ns 7 0;
    }
counts_answer_as (refuse q) = record { number = (refusal_number q); out = 0; meta = 0; semantic = 0; content = 0; «data» = 0; instance = 0; iscc = 0; id = 0 }

-- a record appended: the number, and the length that the position moved on; a refusal has length 0
abbrev pub moved_on : ℕ → Result ℕ Refusal → Outcome
moved_on position (Ok end) = record { number = 0; length = end - position }
moved_on position (Err q) = record { number = (refusal_number q); length = 0 }

abbrev pub record_outcome : ℕ → Answer Written → Outcome
record_outcome position (accept w) = record { number = 0; length = w.position - position }
record_outcome position (refuse q) = record { number = (refusal_number q); length = 0 }

-- how a replay ended, by a mark: 1 to the log's end, 2 torn, 3 stopped
abbrev pub end_answer : End → ReplayAnswer
end_answer ended = record { number = 0; end = 1; offset = 0 }
end_answer (torn offset) = record { number = 0; end = 2; offset = offset }
end_answer (stopped q offset) = record { number = (refusal_number q); end = 3; offset = offset }

-- 23 has zeros: nothing was replayed
abbrev pub replay_answer_as : Answer (Replayed (List ℕ)) → ReplayAnswer
replay_answer_as (accept x) = end_answer x.end
replay_answer_as (refuse q) = record { number = (refusal_number q); end = 0; offset = 0 }

-- may a replica be promoted: the number, 0 for yes, and an offset or a code where one is told
abbrev pub promotion_with : ℕ → ℕ → Code → PromotionAnswer
promotion_with number offset c = record { number = number; offset = offset; code_length = c.length; code = c.bytes }

abbrev pub promotion_answer_as : Verdict → PromotionAnswer
promotion_answer_as v =
    record {
      number = number_of (verdict_answer v);
      offset = offset_told v;
      code_length = length (code_told v);
      code = zero_filled 42 (code_told v);
    }
