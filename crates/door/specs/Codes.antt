-- A code as bytes: the one unit or composite that a text means.
use Rattle.std.specs.Prelude.{ℕ, List, ◌++◌}
use Rattle.iscc.specs.Answer.{Answer, accept, refuse}
use Rattle.iscc.specs.Alphabet.{encode}
use Rattle.iscc.specs.Base32.{base32}
use Rattle.iscc.specs.Doors.{scheme, payload}
use Rattle.composite.specs.Canonical.{detail_of}
use Rattle.payload.specs.Payloads.{payload_detail}

-- the text of a code's bytes
abbrev pub text_of_code : List ℕ → List ℕ
text_of_code bs = scheme ++ encode base32 bs

-- what a refusal tells: of the bytes that the text holds, or of the items that they are read as
abbrev pub detail_behind : ℕ → Answer (List ℕ) → ℕ
detail_behind k (accept bs) = detail_of bs
detail_behind k (refuse q) = k

unfoldable pub code_detail : List ℕ → ℕ
code_detail t = detail_behind (payload_detail t) (payload t)
