-- The bytes that a typed text holds, and what a refusal of them tells.
use Rattle.iscc.specs.Detailed.{with_detail}
use Rattle.std.specs.Prelude.{Ok, Err}
use Rattle.std.specs.Prelude.{ℕ, cond, ◌&&◌, List, length, ltb, leb}
use Rattle.iscc.specs.Answer.{Answer, accept, refuse}
use Rattle.iscc.specs.Lists.{first_not}
use Rattle.iscc.specs.Alphabet.{is_digit}
use Rattle.iscc.specs.Base32.{base32}
use Rattle.iscc.specs.Doors.{cleaned}
use Rattle.payload.specs.Offsets.{offset_of}
use Rattle.iscc.specs.declared.refusal.DetailedRefusal.{DetailedRefusal}
use Rattle.std.specs.Prelude.{Result}

-- the first character of the run that is outside the alphabet
abbrev pub first_bad : List ℕ → ℕ
first_bad t = first_not (is_digit base32) (cleaned t)

-- its offset in the typed text; 0 where there is none
unfoldable pub bad_offset : List ℕ → ℕ
bad_offset t = cond (ltb (first_bad t) (length (cleaned t))) (offset_of t (first_bad t)) 0

-- what a refusal tells: for 4 that offset
unfoldable pub payload_detail : List ℕ → ℕ
payload_detail t = cond (leb (length t) 1024 && leb (length (cleaned t)) 80) (bad_offset t) 0

abbrev pub PayloadAnswer : Type 0
PayloadAnswer = Result ℕ DetailedRefusal

abbrev pub payload_answer_as : ℕ → Answer (List ℕ) → PayloadAnswer
payload_answer_as k (accept bs) = Ok (length bs)
payload_answer_as k (refuse q) = Err (with_detail k q)
