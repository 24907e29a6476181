-- Small command lines, by computation (proofs/Examples.antt).
use Rattle.std.specs.Prelude.{◌≡◌, [], ◌∷◌, ◌++◌}
use Rattle.iscc.specs.Ascii.{ascii}
use Rattle.loans.specs.Calls.{issue, take_back, ask}
use Rattle.commands.specs.Commands.{command_of, calls, sheet, faulty, no_command, unknown_command, issue_words, return_words, sheet_words, bad_borrower}

pub record Examples : Type 0 where
  pub issued : command_of (ascii "issue ISCC:EAA 7") ≡ calls (issue (ascii "ISCC:EAA") 7)
  -- blanks at both ends and more than one between words, tab and CR too
  pub blanks : command_of (9 ∷ ascii " issue  EAA" ++ (9 ∷ ascii "007 " ++ (13 ∷ []))) ≡ calls (issue (ascii "EAA") 7)
  pub returned : command_of (ascii "return EAA") ≡ calls (take_back (ascii "EAA"))
  pub asked : command_of (ascii "ask EAA") ≡ calls (ask (ascii "EAA"))
  pub sheets : command_of (ascii "sheet") ≡ sheet
  pub none : command_of (ascii "  ") ≡ faulty no_command
  pub capitals : command_of (ascii "Issue EAA 7") ≡ faulty unknown_command
  pub no_borrower : command_of (ascii "issue EAA") ≡ faulty issue_words
  pub words_behind : command_of (ascii "issue EAA 7 8") ≡ faulty issue_words
  pub no_text : command_of (ascii "return") ≡ faulty return_words
  pub two_texts : command_of (ascii "return EAA 7") ≡ faulty return_words
  pub more_than_sheet : command_of (ascii "sheet 7") ≡ faulty sheet_words
  -- a borrower is a number of 32 bits, in digits alone
  pub largest : command_of (ascii "issue EAA 4294967295") ≡ calls (issue (ascii "EAA") 4294967295)
  pub too_large : command_of (ascii "issue EAA 4294967296") ≡ faulty bad_borrower
  pub eleven_digits : command_of (ascii "issue EAA 00000000007") ≡ faulty bad_borrower
  pub signed : command_of (ascii "issue EAA -7") ≡ faulty bad_borrower
