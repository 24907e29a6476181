-- The writer: it holds a lent log and "a position, the count of bytes that are written already". What it appends is not its concern.
use Rattle.std.specs.Prelude.{ℕ, ◌+◌, ◌≤◌, ◌≡◌, List, ◌++◌, length, take, drop, leb}
use Rattle.iscc.specs.Answer.{Answer, accept, refuse, ◌>>◌, ◌otherwise◌}
use Rattle.iscc.specs.Refusals.{area_too_short}
use Rattle.loans.specs.Moves.{pasted}

pub record Written : Type 0 where
  pub log : List ℕ
  pub position : ℕ

-- 15 "if the area has no room for the record behind the position, or the position is past its end"; then the bytes at the position
unfoldable pub appended : List ℕ → List ℕ → ℕ → Answer Written
appended bytes log position = do
  leb (position + length bytes) (length log) otherwise area_too_short
  accept (record { log = pasted position bytes log; position = position + length bytes })

-- "A refusal changes no byte, and the position stays."
abbrev pub written_after : List ℕ → ℕ → Answer Written → Written
written_after log position (accept w) = w
written_after log position (refuse q) = record { log = log; position = position }

-- what an append leaves: the log so far and then the bytes, and the rest of the area as it was
pub record Appended (bytes log : List ℕ) (position : ℕ) (w : Written) : Type 0 where
  pub room : position + length bytes ≤ length log
  pub moved : w.position ≡ position + length bytes
  pub size : length w.log ≡ length log
  pub front : take w.position w.log ≡ take position log ++ bytes
  pub rest : drop w.position w.log ≡ drop w.position log
