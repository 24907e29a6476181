-- The code of a text and the text of a code: what the two calls owe to each other and to the doors.
use Rattle.std.specs.Prelude.{ℕ, ◌/◌, ◌≤◌, ◌≡◌, ◌↔◌, List, length, get_or}
use Rattle.iscc.specs.Answer.{accept, Accepted, ◌>>=◌}
use Rattle.iscc.specs.Digits.{Below}
use Rattle.iscc.specs.Permitted.{number}
use Rattle.iscc.specs.Meaning.{Meaning}
use Rattle.iscc.specs.Item.{Item, read_one}
use Rattle.iscc.specs.Doors.{meaning_of_text, intake, strict, read_code, write_text}

pub record CodesAndTexts : Type 0 where
  -- intake is the text of the code of the text
  pub through_code : (t : List ℕ) (n k : ℕ) → 42 ≤ k → 73 ≤ n → intake t n ≡ (read_code t k >>= λ bs. write_text bs n)
  -- on strict texts the writer undoes the reader,
  pub text_back : (t : List ℕ) (n k : ℕ) → 42 ≤ k → 73 ≤ n → Accepted (strict t) → (read_code t k >>= λ bs. write_text bs n) ≡ accept t
  -- and the reader undoes the writer, which writes strict texts alone
  pub code_of_text : (bs t : List ℕ) (n k : ℕ) → 42 ≤ k → Below 256 bs → write_text bs n ≡ accept t → Accepted (strict t) × (read_code t k ≡ accept bs)
  -- two texts have the same code exactly when they mean the same
  pub same_code : (t u bs cs : List ℕ) (m k : Meaning) → meaning_of_text t ≡ accept m → meaning_of_text u ≡ accept k
      → read_code t 42 ≡ accept bs → read_code u 42 ≡ accept cs → (bs ≡ cs) ↔ (m ≡ k)
  -- the code's main type is its first nibble
  pub first_nibble : (bs : List ℕ) (i : Item) → Below 256 bs → read_one bs ≡ accept i → get_or bs 0 0 / 16 ≡ number i.main_type
  -- a code has 2 to 42 bytes
  pub size : (t bs : List ℕ) (k : ℕ) → read_code t k ≡ accept bs → (2 ≤ length bs) × (length bs ≤ 42) × Below 256 bs
