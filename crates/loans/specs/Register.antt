-- A register in a lent area, over any contents: what these are, and which areas hold them, is the register's own.
use Rattle.std.specs.Prelude.{ℕ, Bool, List}
use Rattle.iscc.specs.Answer.{Answer, accept, ◌>>=◌, ◌>>◌, ◌otherwise◌}
use Rattle.iscc.specs.Refusals.{not_register}
use Rattle.loans.specs.Map.{Change}
use Rattle.loans.specs.Calls.{Call, CallResult, call}

-- Which areas are a register (23 for any other), what an area holds and the bytes of contents; what a change makes of contents, and
-- who has a code.
pub record Register (S : Type 0) : Type 0 where
  pub valid : List ℕ → Bool
  pub contents : List ℕ → S
  pub bytes : S → List ℕ
  pub changes : Change → S → Answer S
  pub asks : List ℕ → S → Answer ℕ

module _ {S : Type 0} (r : Register S) where
  -- 23, then the register's own numbers; the area afterwards
  unfoldable pub changed_area : Change → List ℕ → Answer (List ℕ)
  changed_area ch area = do
    r.valid area otherwise not_register
    s ← r.changes ch (r.contents area)
    accept (r.bytes s)

  -- 23, then 22; the borrower
  unfoldable pub asked_area : List ℕ → List ℕ → Answer ℕ
  asked_area c area = do
    r.valid area otherwise not_register
    r.asks c (r.contents area)

  abbrev pub call_area : Call → List ℕ → CallResult (List ℕ)
  call_area k area = call changed_area asked_area k area
