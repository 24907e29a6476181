-- Base32 of RFC 4648, section 6: capitals are written, either case is read, and there is no padding.
use Rattle.std.specs.Prelude.{ℕ, true, List}
use Rattle.iscc.specs.Ascii.{ascii}
use Rattle.iscc.specs.Answer.{Answer, accept, into}
use Rattle.iscc.specs.Alphabet.{Alphabet, encode, decode}

-- A to Z and 2 to 7
unfoldable pub base32 : Alphabet
base32 =
    record {
      bits = 5;
      chars = ascii "ABCDEFGHIJKLMNOPQRSTUVWXYZ234567";
      either_case = true;
    }

-- the reader by itself: 4, 5, 6, then 15; the writer by itself: 15
abbrev pub read_base32 : List ℕ → ℕ → Answer (List ℕ)
read_base32 t area = into area (decode base32 t)

abbrev pub write_base32 : List ℕ → ℕ → Answer (List ℕ)
write_base32 bs area = into area (accept (encode base32 bs))
