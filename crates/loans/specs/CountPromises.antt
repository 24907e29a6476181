-- What is promised of the counts, a field for each sentence; the file of this name in proofs/ proves it.
use Rattle.std.specs.Prelude.{ℕ, ◌+◌, ◌/◌, ◌≤◌, ◌<◌, ◌≡◌, true, false, List, [], ◌∷◌, get_or}
use Rattle.iscc.specs.Refusals.{not_register}
use Rattle.iscc.specs.Answer.{accept}
use Rattle.iscc.specs.Digits.{Below}
use Rattle.iscc.specs.Exactly.{Exactly, once}
use Rattle.loans.specs.Counts.{code_type, counts}
use Rattle.loans.specs.Numbered.{loans_of}
use Rattle.loans.specs.Contents.{is_register, contents_of, register, empty_register, counts_asked}
use Rattle.loans.specs.Good.{IsCode}
use Rattle.loans.specs.Moves.{number_at}
use Rattle.loans.specs.PendingLog.{apply_record}
use Rattle.loans.specs.Operations.{Operation, GoodOperation, GoodOperations}
use Rattle.loans.specs.CodesOut.{perform_on, all_done, FirstNumber, takes_record}

-- the eight numbers in front of the places
abbrev pub numbers_in : List ℕ → List ℕ
numbers_in area =
    number_at 0 area ∷ number_at 1 area ∷ number_at 2 area ∷ number_at 3 area ∷ number_at 4 area ∷ number_at 5 area ∷ number_at 6 area ∷ number_at 7 area ∷ []

pub record HowManyOut : Type 0 where
  -- "codes out, then codes out for main types 0 to 6": so they stand in every register
  pub are_true : (area : List ℕ) → is_register area ≡ true → numbers_in area ≡ counts (loans_of (contents_of area))
  -- "a disagreement is 23", of any of the eight
  pub disagreement : (area : List ℕ) (i : ℕ) → i < 8 → (number_at i area ≡ get_or (counts (loans_of (contents_of area))) i 0 → ⊥) → is_register area ≡ false
  -- each code has one of the seven main types, the number in its first four bits; and so the seven sum to the first
  pub main_type : (c : List ℕ) → IsCode c → (code_type c ≤ 6) × (code_type c ≡ get_or c 0 0 / 16)
  pub sum : (area : List ℕ) → Below 256 area → is_register area ≡ true
      → number_at 0 area ≡ number_at 1 area + number_at 2 area + number_at 3 area + number_at 4 area + number_at 5 area + number_at 6 area + number_at 7 area
  -- "every issue, return and replay keeps them true", on any register; and from an empty one all of them do
  pub kept : (w : Operation) (area : List ℕ) → GoodOperation w → Below 256 area → is_register area ≡ true
      → is_register (perform_on register apply_record w area).state ≡ true
  pub kept_by_all : (ws : List Operation) → GoodOperations ws → is_register (all_done register apply_record ws empty_register) ≡ true
  -- "the first number is accepted issues minus accepted returns"
  pub first_number : FirstNumber register apply_record takes_record empty_register
  -- who asks for the numbers gets 23 exactly where the area is not a register, and else those that stand there
  pub tests : (area : List ℕ) → Exactly (once not_register (is_register area) ∷ []) (counts_asked area)
  pub told : (area ns : List ℕ) → counts_asked area ≡ accept ns → ns ≡ numbers_in area
