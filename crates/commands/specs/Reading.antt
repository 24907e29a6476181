-- A command as the code reads it: a word, then what stands behind that word.
use Rattle.std.specs.Prelude.{ℕ, Bool, cond, not, ◌&&◌, Option, None, Some, List, drop}
use Rattle.commands.specs.Commands.{Command, sheet, faulty, issue_words, sheet_words, word, word_end, is_empty, issue_of}

abbrev pub next_word : List ℕ → List ℕ
next_word text = word text 0

unfoldable pub behind_word : List ℕ → List ℕ
behind_word text = drop (word_end text 0) text

-- one word and no more
abbrev pub is_only : List ℕ → Bool
is_only text = not (is_empty (next_word text)) && is_empty (next_word (behind_word text))

abbrev pub only_word : List ℕ → Option (List ℕ)
only_word text = cond (is_only text) (Some (next_word text)) None

-- the command of an issue by the words behind the first, and of the sheet
abbrev pub issue_behind : List ℕ → Command
issue_behind words = cond (is_only (behind_word words)) (issue_of (next_word words) (next_word (behind_word words))) (faulty issue_words)

abbrev pub sheet_behind : List ℕ → Command
sheet_behind words = cond (is_empty (next_word words)) sheet (faulty sheet_words)
