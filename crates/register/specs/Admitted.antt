-- What comes before every call's own tests: the code of the text, and that the area is a register.
use Rattle.std.specs.Prelude.{ℕ, List}
use Rattle.iscc.specs.Refusals.{not_register}
use Rattle.iscc.specs.Answer.{Answer, accept, refuse, ◌>>=◌, ◌>>◌, ◌otherwise◌}
use Rattle.iscc.specs.Doors.{code_bytes}
use Rattle.door.specs.Codes.{code_detail}
use Rattle.loans.specs.Contents.{is_register}

-- intake's numbers, then 23
unfoldable pub admitted : List ℕ → List ℕ → Answer (List ℕ)
admitted t area = do
  c ← code_bytes t
  is_register area otherwise not_register
  accept c

-- what a refusal tells: 23 tells nothing
abbrev pub detail_if : ℕ → Answer (List ℕ) → ℕ
detail_if k (accept c) = 0
detail_if k (refuse q) = k

unfoldable pub admitted_detail : List ℕ → ℕ
admitted_detail t = detail_if (code_detail t) (code_bytes t)
