-- The sentence of each refusal, as the C header has it.
use Rattle.std.specs.Prelude.{ℕ, ◌-◌, cond, List, [], ◌∷◌, get_or, ltb}
use Rattle.iscc.specs.Ascii.{ascii}

-- of the numbers 1 to 14, which a text gives; 0 is no refusal
unfoldable pub text_sentences : List (List ℕ)
text_sentences =
    []
    ∷ ascii "There is no code in the text."
    ∷ ascii "The text is longer than 1,024 bytes."
    ∷ ascii "The code has more than 80 characters."
    ∷ ascii "A character is neither a letter A to Z nor a digit 2 to 7."
    ∷ ascii "No code has this many characters: some are missing or too many."
    ∷ ascii "The last character is wrong, or the end of the code is missing."
    ∷ ascii "The beginning of a code or unit cannot be read."
    ∷ ascii "A code or unit is of a kind or a length that is not permitted here."
    ∷ ascii "A code or unit is cut off: it is shorter than its beginning says."
    ∷ ascii "A composite or an ID cannot be joined."
    ∷ ascii "A unit to be joined has a length other than 64 bits."
    ∷ ascii "Two units are of the same kind."
    ∷ ascii "The DATA or the INSTANCE unit is missing."
    ∷ ascii "The SEMANTIC and the CONTENT unit do not match in subtype."
    ∷ []

-- of 20 to 27, which a register and its log give
unfoldable pub register_sentences : List (List ℕ)
register_sentences =
    ascii "This code is out already."
    ∷ ascii "No more can go out: 256 other codes are out."
    ∷ ascii "This code is not out."
    ∷ ascii "The register is damaged, or this is no register."
    ∷ ascii "This is no record of the log."
    ∷ ascii "A record is missing before this one."
    ∷ ascii "No record number is left: this register takes no more changes."
    ∷ ascii "The same codes are out, but the last record numbers differ."
    ∷ []

-- of 36 and 37, which a promotion gives
unfoldable pub promotion_sentences : List (List ℕ)
promotion_sentences =
    ascii "The log is torn: its last record is not whole."
    ∷ ascii "A code is out in one register only, or to another borrower."
    ∷ []

-- of a number; the halls' calls give no other ones
unfoldable pub sentence : ℕ → List ℕ
sentence n =
    cond (ltb n 20) (get_or text_sentences n [])
    (cond (ltb n 36) (get_or register_sentences (n - 20) []) (get_or promotion_sentences (n - 36) []))
