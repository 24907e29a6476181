-- What is promised of the answer lines, a field for each sentence; the file of this name in proofs/ proves it.
use Rattle.std.specs.Prelude.{ℕ, ◌≤◌, ◌<◌, ◌≡◌, List, [], ◌∷◌, length}
use Rattle.iscc.specs.Refusals.{Refusal}
use Rattle.iscc.specs.Digits.{Below}
use Rattle.answers.specs.Answers.{issued_line, returned_line, out_line, counts_line, refused_line}

-- a text in which no blank stands, as no code's text has one
abbrev pub NoBlank : List ℕ → Type 0
NoBlank [] = Unit {0}
NoBlank (c ∷ cs) = (c ≡ 32 → ⊥) × NoBlank cs

pub record AnswerLines : Type 0 where
  -- no line is longer than 200 bytes, and so none is cut: a code's text has at most 73, and the eight numbers have 32 bits
  pub issued_whole : (text : List ℕ) → length text ≤ 73 → (borrower number : ℕ) → length (issued_line text borrower number) ≤ 200
  pub returned_whole : (text : List ℕ) → length text ≤ 73 → (number : ℕ) → length (returned_line text number) ≤ 200
  pub out_whole : (text : List ℕ) → length text ≤ 73 → (borrower : ℕ) → length (out_line text borrower) ≤ 200
  pub counts_whole : (ns : List ℕ) → Below 4294967296 ns → length (counts_line ns) ≤ 200
  pub refused_whole : (q : Refusal) → length (refused_line q) ≤ 200
  -- a line tells its code, its borrower and its record number: lines of different ones differ
  pub issued_tells : (t u : List ℕ) (a b m n : ℕ) → NoBlank t → NoBlank u → a < 4294967296 → b < 4294967296 → m < 4294967296 → n < 4294967296
      → issued_line t a m ≡ issued_line u b n → (t ≡ u) × (a ≡ b) × (m ≡ n)
  pub returned_tells : (t u : List ℕ) (m n : ℕ) → NoBlank t → NoBlank u → m < 4294967296 → n < 4294967296
      → returned_line t m ≡ returned_line u n → (t ≡ u) × (m ≡ n)
  pub out_tells : (t u : List ℕ) (a b : ℕ) → NoBlank t → NoBlank u → a < 4294967296 → b < 4294967296
      → out_line t a ≡ out_line u b → (t ≡ u) × (a ≡ b)
