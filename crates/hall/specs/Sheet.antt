-- The sheet: how many codes are out, in all and by main type, then a line for each of them.
use Rattle.std.specs.Prelude.{ℕ, cond, List, [], ◌∷◌, map}
use Rattle.iscc.specs.Doors.{write_text}
use Rattle.loans.specs.Loan.{Loan}
use Rattle.loans.specs.Counts.{counts}
use Rattle.loans.specs.Contents.{is_register, contents_of}
use Rattle.answers.specs.Answers.{value_of, out_line, counts_line}

-- the one text of a code's bytes
abbrev pub text_of_bytes : List ℕ → List ℕ
text_of_bytes c = value_of (write_text c 73)

-- a code that is out has the line with which a question about it is answered
abbrev pub loan_line : Loan → List ℕ
loan_line l = out_line (text_of_bytes l.code) l.borrower

-- an area that is no register has none
unfoldable pub sheet_lines : List ℕ → List (List ℕ)
sheet_lines area = cond (is_register area) (counts_line (counts (contents_of area).loans) ∷ map loan_line (contents_of area).loans) []
