-- A command line: words with blanks between them. Which command it is, or why it is none.
use Rattle.std.specs.Prelude.{ℕ, ◌+◌, ◌-◌, ◌*◌, Bool, true, false, cond, not, Option, None, Some, ◌&&◌, List, [], ◌∷◌, length, take, drop, leb, ltb}
use Rattle.iscc.specs.Ascii.{ascii}
use Rattle.iscc.specs.Lists.{every, first_not, same_bytes}
use Rattle.iscc.specs.Doors.{is_blank}
use Rattle.loans.specs.Calls.{Call, issue, take_back, ask}

-- ---- words

abbrev pub not_blank : ℕ → Bool
not_blank c = not (is_blank c)

-- the next word from an offset on: where it starts, where it ends, and its bytes; it has none where no word is left
unfoldable pub word_start : List ℕ → ℕ → ℕ
word_start line offset = offset + first_not is_blank (drop offset line)

unfoldable pub word_end : List ℕ → ℕ → ℕ
word_end line offset = word_start line offset + first_not not_blank (drop (word_start line offset) line)

unfoldable pub word : List ℕ → ℕ → List ℕ
word line offset = take (word_end line offset - word_start line offset) (drop (word_start line offset) line)

unfoldable pub is_empty : List ℕ → Bool
is_empty [] = true
is_empty (c ∷ cs) = false

-- ---- a borrower: "one to ten decimal digits" that stand for a number of 32 bits

unfoldable pub is_digit : ℕ → Bool
is_digit c = leb 48 c && leb c 57

-- digits behind the number n
unfoldable pub decimal_from : ℕ → List ℕ → ℕ
decimal_from n [] = n
decimal_from n (c ∷ cs) = decimal_from (n * 10 + (c - 48)) cs

abbrev pub decimal_value : List ℕ → ℕ
decimal_value cs = decimal_from 0 cs

unfoldable pub is_borrower : List ℕ → Bool
is_borrower cs = not (is_empty cs) && leb (length cs) 10 && every is_digit cs && ltb (decimal_value cs) 4294967296

abbrev pub borrower_of : List ℕ → Option ℕ
borrower_of cs = cond (is_borrower cs) (Some (decimal_value cs)) None

-- ---- the command

-- why a line is no command
pub data Fault : Type 0 where
  long_line : Fault
  no_command : Fault
  unknown_command : Fault
  issue_words : Fault
  return_words : Fault
  ask_words : Fault
  sheet_words : Fault
  bad_borrower : Fault

pub data Command : Type 0 where
  calls : Call → Command
  sheet : Command
  faulty : Fault → Command

-- an issue of the text, to the borrower that the next word names
abbrev pub issue_of : List ℕ → List ℕ → Command
issue_of text borrower = cond (is_borrower borrower) (calls (issue text (decimal_value borrower))) (faulty bad_borrower)

-- "A line of more than 2,048 bytes" is none; else its first word says which it is, and the words behind that one are counted
unfoldable pub command_of : List ℕ → Command
command_of line =
    let first : ℕ = word_end line 0 in
    let second : ℕ = word_end line first in
    let third : ℕ = word_end line second in
    let one : Bool = not (is_empty (word line first)) && is_empty (word line second) in
    let two : Bool = not (is_empty (word line second)) && is_empty (word line third) in
    cond (not (leb (length line) 2048)) (faulty long_line)
    (cond (is_empty (word line 0)) (faulty no_command)
    (cond (same_bytes (word line 0) (ascii "issue")) (cond two (issue_of (word line first) (word line second)) (faulty issue_words))
    (cond (same_bytes (word line 0) (ascii "return")) (cond one (calls (take_back (word line first))) (faulty return_words))
    (cond (same_bytes (word line 0) (ascii "ask")) (cond one (calls (ask (word line first))) (faulty ask_words))
    (cond (same_bytes (word line 0) (ascii "sheet")) (cond (is_empty (word line first)) sheet (faulty sheet_words))
    (faulty unknown_command))))))
