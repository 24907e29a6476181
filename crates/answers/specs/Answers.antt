-- The lines that the programs answer, without the LF behind them.
use Rattle.iscc.specs.Refusals.{refusal_number}
use Rattle.std.specs.Prelude.{ℕ, zero, suc, ◌+◌, ◌/◌, ◌%◌, cond, List, [], ◌∷◌, ◌++◌, get_or, ltb}
use Rattle.iscc.specs.Answer.{Answer, accept, refuse}
use Rattle.iscc.specs.Refusals.{Refusal}
use Rattle.iscc.specs.Ascii.{ascii}
use Rattle.answers.specs.Sentences.{sentence}

-- a number in decimal, with no more digits than it needs: twenty are enough for 64 bits
unfoldable pub decimal_up_to : ℕ → ℕ → List ℕ
decimal_up_to zero n = (48 + n % 10) ∷ []
decimal_up_to (suc k) n = cond (ltb n 10) ((48 + n) ∷ []) (decimal_up_to k (n / 10) ++ ((48 + n % 10) ∷ []))

unfoldable pub in_decimal : ℕ → List ℕ
in_decimal n = decimal_up_to 19 n

-- the bytes that an answer has, and none where it is a refusal
abbrev pub value_of : Answer (List ℕ) → List ℕ
value_of (accept x) = x
value_of (refuse q) = []

-- ---- a change and a question

unfoldable pub issued_line : List ℕ → ℕ → ℕ → List ℕ
issued_line text borrower number =
    ascii "issued " ++ (text ++ (ascii " to " ++ (in_decimal borrower ++ (ascii " as record " ++ in_decimal number))))

unfoldable pub returned_line : List ℕ → ℕ → List ℕ
returned_line text number = ascii "returned " ++ (text ++ (ascii " as record " ++ in_decimal number))

unfoldable pub out_line : List ℕ → ℕ → List ℕ
out_line text borrower = ascii "out " ++ (text ++ (ascii " to " ++ in_decimal borrower))

-- the eight numbers, as `counts` has them
unfoldable pub counts_line : List ℕ → List ℕ
counts_line ns =
    in_decimal (get_or ns 0 0) ++ (ascii " out: "
    ++ (in_decimal (get_or ns 1 0) ++ (ascii " META, "
    ++ (in_decimal (get_or ns 2 0) ++ (ascii " SEMANTIC, "
    ++ (in_decimal (get_or ns 3 0) ++ (ascii " CONTENT, "
    ++ (in_decimal (get_or ns 4 0) ++ (ascii " DATA, "
    ++ (in_decimal (get_or ns 5 0) ++ (ascii " INSTANCE, "
    ++ (in_decimal (get_or ns 6 0) ++ (ascii " ISCC, "
    ++ (in_decimal (get_or ns 7 0) ++ ascii " ID"))))))))))))))

-- ---- refusals: "the number and the words"

unfoldable pub refused_line : Refusal → List ℕ
refused_line q = ascii "refused " ++ (in_decimal (refusal_number q) ++ (ascii ": " ++ sentence (refusal_number q)))
