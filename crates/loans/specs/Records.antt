-- What a record means: the change of a register, for the tag k of an issue and k + 1 of a return.
use Rattle.std.specs.Prelude.{ℕ, suc, Bool, cond, ◌&&◌, List, ◌++◌, take, drop, eqb}
use Rattle.iscc.specs.Digits.{digits, value}
use Rattle.loans.specs.Loan.{one_code}
use Rattle.loans.specs.Map.{Change, issue_code, return_code}
use Rattle.loans.specs.Fields.{Field}

abbrev pub code_of : Change → List ℕ
code_of (issue_code c b) = c
code_of (return_code c) = c

-- an issue and a return have two tags that follow each other
abbrev pub tag_of : ℕ → Change → ℕ
tag_of k (issue_code c b) = k
tag_of k (return_code c) = suc k

-- "the borrower in 4 bytes, high byte first, then the code's bytes", "the code's bytes"
abbrev pub body_of : Change → List ℕ
body_of (issue_code c b) = digits 8 4 b ++ c
body_of (return_code c) = c

abbrev pub field_of : ℕ → Change → Field
field_of k ch = record { tag = tag_of k ch; body = body_of ch }

-- 24 for "another tag, or with a body that is no such record"; an issue shorter than its borrower leaves no code
unfoldable pub is_record : ℕ → Field → Bool
is_record k f = cond (eqb f.tag k) (one_code (drop 4 f.body)) (eqb f.tag (suc k) && one_code f.body)

unfoldable pub change_of : ℕ → Field → Change
change_of k f = cond (eqb f.tag k) (issue_code (drop 4 f.body) (value 8 (take 4 f.body))) (return_code f.body)
