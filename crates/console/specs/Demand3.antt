-- Demand 3 once more, over what `iscc_intake` and `iscc_strict` answer and leave in the area, as their contracts have it.
-- proofs/Demand3.antt proves it.
use Rattle.std.specs.Prelude.{ℕ, ◌≤◌, ◌≡◌, ◌↔◌, List, ◌++◌, length, take}
use Rattle.iscc.specs.Answer.{accept, Accepted, number_of, area_after}
use Rattle.iscc.specs.Alphabet.{encode}
use Rattle.iscc.specs.Base32.{base32}
use Rattle.iscc.specs.Meaning.{Meaning, Permitted}
use Rattle.iscc.specs.Item.{Item, item_bytes, item_of}
use Rattle.iscc.specs.Lists.{Reordered}
use Rattle.iscc.specs.Doors.{scheme, items_of_text, meaning_of_text, text_of, intake, strict}
use Rattle.iscc.specs.Representation.{written_as, outcome_as}
use Rattle.iscc.specs.declared.outcome.Outcome.{Outcome}

-- what `iscc_intake` answers for the text t and the area a, and the area after it
abbrev pub answer_of : List ℕ → List ℕ → Outcome
answer_of t a = outcome_as (written_as (intake t (length a)))

abbrev pub area_of : List ℕ → List ℕ → List ℕ
area_of t a = area_after (intake t (length a)) a

-- the written text: the first bytes of the area, as many as are answered
abbrev pub text_in : List ℕ → List ℕ → List ℕ
text_in t a = take (answer_of t a).length (area_of t a)

-- what `iscc_strict` answers
abbrev pub strict_number : List ℕ → ℕ
strict_number t = number_of (strict t)

pub record ConsoleDemand3 : Type 0 where
  -- Of any two texts that intake accepts, with any output areas of at least 73 bytes, the written texts are equal exactly when
  -- the codes mean the same.
  pub accepts : (t a : List ℕ) → 73 ≤ length a → ((answer_of t a).number ≡ 0) ↔ Accepted (meaning_of_text t)
  pub equal : (t u a b : List ℕ) → (answer_of t a).number ≡ 0 → (answer_of u b).number ≡ 0 → (text_in t a ≡ text_in u b) ↔ (meaning_of_text t ≡ meaning_of_text u)
  -- The strict door accepts a text exactly when intake accepts it and writes back that very text.
  pub strictly : (t a : List ℕ) → 73 ≤ length a → (strict_number t ≡ 0) ↔ (((answer_of t a).number ≡ 0) × (text_in t a ≡ t))
  -- For every permitted meaning there is one strict text
  pub one : (m : Meaning) → Permitted m → (strict_number (text_of m) ≡ 0) × (meaning_of_text (text_of m) ≡ accept m)
  -- and no second,
  pub no_second : (t u : List ℕ) → strict_number t ≡ 0 → strict_number u ≡ 0 → meaning_of_text t ≡ meaning_of_text u → t ≡ u
  -- and intake writes it,
  pub written : (t a : List ℕ) → (answer_of t a).number ≡ 0 → (strict_number (text_in t a) ≡ 0) × (meaning_of_text (text_in t a) ≡ meaning_of_text t)
  -- in the specification's spelling,
  pub spelling : (m : Meaning) (t a : List ℕ) → (answer_of t a).number ≡ 0 → meaning_of_text t ≡ accept m → text_in t a ≡ scheme ++ encode base32 (item_bytes (item_of m))
  -- in at most 73 characters; what a text means is permitted.
  pub short : (m : Meaning) (t a : List ℕ) → (answer_of t a).number ≡ 0 → meaning_of_text t ≡ accept m → Permitted m × ((answer_of t a).length ≤ 73)
  -- Any order of the same units in a list gives the same answer, refusal number included.
  pub any_order : (t u a : List ℕ) (is js : List Item) → items_of_text t ≡ accept is → items_of_text u ≡ accept js → Reordered is js → (answer_of t a ≡ answer_of u a) × (area_of t a ≡ area_of u a)
