-- The small command lines, computed.
use mathlib.Core.Path.{refl}
use Rattle.iscc.specs.Lists.{every, first_not, same_bytes}
use Rattle.iscc.specs.Doors.{is_blank}
use Rattle.commands.specs.Commands.{word_start, word_end, word, is_empty, is_digit, decimal_from, is_borrower, command_of}
use Rattle.commands.specs.Examples.{Examples}

pub examples : Examples
unfolding every first_not same_bytes is_blank word_start word_end word is_empty is_digit decimal_from is_borrower command_of
examples =
    record {
      issued = refl;
      blanks = refl;
      returned = refl;
      asked = refl;
      sheets = refl;
      none = refl;
      capitals = refl;
      no_borrower = refl;
      words_behind = refl;
      no_text = refl;
      two_texts = refl;
      more_than_sheet = refl;
      largest = refl;
      too_large = refl;
      eleven_digits = refl;
      signed = refl;
    }
