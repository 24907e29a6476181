-- The definitions' commands in the code.
use Rattle.std.specs.Prelude.{ℕ, Option, List, Result, Ok, Err, option_map}
use Rattle.std.specs.Borrow.{Bor}
use Rattle.loans.specs.Calls.{issue, take_back, ask}
use Rattle.commands.specs.Commands as commands
use Rattle.commands.specs.declared.command.Command.{Command}
use Rattle.commands.specs.declared.command.Command.TheVariants as kinds
use Rattle.commands.specs.declared.command.Fault.{Fault}
use Rattle.commands.specs.declared.command.Fault.TheVariants as faults

abbrev pub fault_in : Fault → commands.Fault
fault_in faults.LongLine = commands.long_line
fault_in faults.NoCommand = commands.no_command
fault_in faults.UnknownCommand = commands.unknown_command
fault_in faults.IssueWords = commands.issue_words
fault_in faults.ReturnWords = commands.return_words
fault_in faults.AskWords = commands.ask_words
fault_in faults.SheetWords = commands.sheet_words
fault_in faults.BadBorrower = commands.bad_borrower

abbrev pub command_with : Command → commands.Command
command_with (kinds.Issue text borrower) = commands.calls (issue text.now borrower)
command_with (kinds.Return text) = commands.calls (take_back text.now)
command_with (kinds.Ask text) = commands.calls (ask text.now)
command_with kinds.Sheet = commands.sheet

-- what was read: a command, or why it is none
abbrev pub command_in : Result Command Fault → commands.Command
command_in (Ok c) = command_with c
command_in (Err f) = commands.faulty (fault_in f)

-- a word that was lent
abbrev pub word_in : Option (Bor (List ℕ)) → Option (List ℕ)
word_in w = option_map (λ (b : Bor (List ℕ)). b.now) w
