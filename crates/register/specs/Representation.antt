-- The answers in the code, and the lent area after a change.
use Rattle.std.specs.Prelude.{ℕ, List, get_or, Result, Ok, Err}
use Rattle.iscc.specs.Answer.{Answer, accept, refuse}
use Rattle.iscc.specs.Refusals.{Refusal, refusal_number}
use Rattle.loans.specs.Contents.{contents_of}
use Rattle.register.specs.declared.answer.Asked.{Asked}
use Rattle.register.specs.declared.answer.Counts.{Counts}

abbrev pub Holder : Type 0
Holder = Result ℕ Refusal

abbrev pub Changed : Type 0
Changed = Result ℕ Refusal

-- what a question hands over; "A refusal has borrower 0."
abbrev pub borrower_in : Answer ℕ → ℕ
borrower_in (accept b) = b
borrower_in (refuse q) = 0

-- who has a code
abbrev pub holder_as : Answer ℕ → Holder
holder_as (accept b) = Ok b
holder_as (refuse q) = Err q

-- a question's answer: who has the code, and the looks
abbrev pub asked_as : Answer ℕ → ℕ → Asked
asked_as x looks = record { holder = holder_as x; looks = looks }

-- its number and borrower by the specification
abbrev pub holder_number : Holder → ℕ
holder_number (Ok b) = 0
holder_number (Err q) = refusal_number q

abbrev pub holder_borrower : Holder → ℕ
holder_borrower (Ok b) = b
holder_borrower (Err q) = 0

-- the answer of an issue or a return, which is accepted with the area afterwards: the number that it took is the last one there
abbrev pub changed_as : Answer (List ℕ) → Changed
changed_as (accept area) = Ok (contents_of area).last
changed_as (refuse q) = Err q

-- its numbers by the specification: a refusal's own, and the record number, "0 with a refusal"
abbrev pub changed_number : Changed → ℕ
changed_number (Ok n) = 0
changed_number (Err q) = refusal_number q

abbrev pub changed_record : Changed → ℕ
changed_record (Ok n) = n
changed_record (Err q) = 0

-- how many codes are out: the eight numbers, each by its main type's name
abbrev pub counts_of : List ℕ → Counts
counts_of ns =
    record {
      out = get_or ns 0 0;
      meta = get_or ns 1 0;
      semantic = get_or ns 2 0;
      content = get_or ns 3 0;
      «data» = get_or ns 4 0;
      instance = get_or ns 5 0;
      iscc = get_or ns 6 0;
      id = get_or ns 7 0;
    }

abbrev pub counts_as : Answer (List ℕ) → Result Counts Refusal
counts_as (accept ns) = Ok (counts_of ns)
counts_as (refuse q) = Err q
