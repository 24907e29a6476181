-- The code's types (src/) as representations of the definitions' values.
use Rattle.std.specs.Prelude.{ℕ, List, [], length, Result, Ok, Err}
use Rattle.iscc.specs.Refusals.{Refusal, refusal_number}
use Rattle.iscc.specs.Detailed.{with_detail}
use Rattle.iscc.specs.declared.refusal.DetailedRefusal.{DetailedRefusal}
use Rattle.iscc.specs.Answer.{Answer, accept, refuse}
use Rattle.iscc.specs.Lists.{zero_filled}
use Rattle.iscc.specs.declared.code.Code.{Code}
use Rattle.iscc.specs.declared.outcome.Outcome.{Outcome}

-- an answer in the code
unfoldable pub result_of : {A : Type 0} → Answer A → Result A Refusal
result_of (accept a) = Ok a
result_of (refuse q) = Err q

-- a writer's answer in the code, and its number and length by the specification
abbrev pub Written : Type 0
Written = Result ℕ Refusal

abbrev pub written_as : Answer (List ℕ) → Written
written_as (accept out) = Ok (length out)
written_as (refuse q) = Err q

abbrev pub number_in : Written → ℕ
number_in (Ok n) = 0
number_in (Err q) = refusal_number q

abbrev pub length_in : Written → ℕ
length_in (Ok n) = n
length_in (Err q) = 0

-- the same for C
abbrev pub outcome_as : Written → Outcome
outcome_as w = record { number = number_in w; length = length_in w }

-- a code by value: its bytes, filled up with zeros to 42, and how many they are
unfoldable pub code_as : List ℕ → Code
code_as bs = record { bytes = zero_filled 42 bs; length = length bs }

-- what reads or makes a code answers: the code, or the refusal with its detail k
abbrev pub CodeRead : Type 0
CodeRead = Result Code DetailedRefusal

abbrev pub code_read_as : ℕ → Answer (List ℕ) → CodeRead
code_read_as k (accept bs) = Ok (code_as bs)
code_read_as k (refuse q) = Err (with_detail k q)
