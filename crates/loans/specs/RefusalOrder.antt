-- The tests of the three calls, in their order: "intake's numbers, then 23, then 26 for an issue and a return, then 20 and 21 for an
-- issue, 22 for a return and a question". `Exactly`, of iscc, says what is made of them.
use Rattle.std.specs.Prelude.{ℕ, not, List, [], ◌∷◌, ◌++◌, length, ltb}
use Rattle.iscc.specs.Refusals.{already_out, all_out, not_out, not_register, numbers_spent}
use Rattle.iscc.specs.Exactly.{Rule, once, where_accepted}
use Rattle.iscc.specs.RefusalOrder.{door_stages}
use Rattle.iscc.specs.Doors.{code_bytes}
use Rattle.loans.specs.Loan.{Loan, is_out}
use Rattle.loans.specs.Map.{Change, issue_code, return_code}
use Rattle.loans.specs.Numbered.{Contents}
use Rattle.loans.specs.Register.{Register}

-- ---- a change: 20 "the code is out already", 21 "256 others are out"; 22 "the code is not out"

unfoldable pub change_stages : Change → List Loan → List (List Rule)
change_stages (issue_code c b) ls = once already_out (not (is_out c ls)) ∷ once all_out (ltb (length ls) 256) ∷ []
change_stages (return_code c) ls = once not_out (is_out c ls) ∷ []

-- 26 before them: "the last number is 4,294,967,295"
unfoldable pub live_stages : Change → Contents → List (List Rule)
live_stages ch s = once numbers_spent (ltb s.last 4294967295) ∷ change_stages ch s.loans

-- ---- the calls

module _ {S : Type 0} (r : Register S) where
  unfoldable pub change_call_stages : (Change → S → List (List Rule)) → (List ℕ → Change) → List ℕ → List ℕ → List (List Rule)
  change_call_stages own of t area =
      door_stages t ++ where_accepted (code_bytes t) (λ c. once not_register (r.valid area) ∷ own (of c) (r.contents area))

  unfoldable pub ask_stages : (S → List Loan) → List ℕ → List ℕ → List (List Rule)
  ask_stages loans t area =
      door_stages t
      ++ where_accepted (code_bytes t) (λ c. once not_register (r.valid area) ∷ once not_out (is_out c (loans (r.contents area))) ∷ [])
