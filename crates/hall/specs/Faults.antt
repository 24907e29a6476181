-- The answer to a line that is no command.
use Rattle.std.specs.Prelude.{ℕ, List, ◌++◌}
use Rattle.iscc.specs.Ascii.{ascii}
use Rattle.commands.specs.Commands.{Fault, long_line, no_command, unknown_command, issue_words, return_words, ask_words, sheet_words, bad_borrower}

unfoldable pub fault_sentence : Fault → List ℕ
fault_sentence long_line = ascii "The line is longer than 2,048 bytes."
fault_sentence no_command = ascii "There is no command."
fault_sentence unknown_command = ascii "There is no such command: issue, return, ask and sheet are."
fault_sentence issue_words = ascii "An issue takes a code and a borrower."
fault_sentence return_words = ascii "A return takes a code."
fault_sentence ask_words = ascii "A question takes a code."
fault_sentence sheet_words = ascii "The sheet takes no more words."
fault_sentence bad_borrower = ascii "The borrower is no number from 0 to 4294967295."

unfoldable pub fault_line : Fault → List ℕ
fault_line f = ascii "refused: " ++ fault_sentence f
