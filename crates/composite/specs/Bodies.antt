-- A composite by value, and the meaning that it has.
use Rattle.std.specs.Prelude.{ℕ, zero, suc, ◌≡◌, ◌≤◌, ◌<◌, true, cond, List, [], ◌∷◌, ◌++◌, get_or, replicate, Option, unwrap_or}
use Rattle.iscc.specs.Answer.{accept}
use Rattle.iscc.specs.Permitted.{Set, composite_subtype, set_length_number, unit_count}
use Rattle.iscc.specs.declared.main_type.Name.TheVariants.{Meta, Semantic, Content}
use Rattle.iscc.specs.Meaning.{Meaning, unit, composite, wide, Permitted}
use Rattle.iscc.specs.Item.{Item}
use Rattle.iscc.specs.Items.{composite_from}
use Rattle.iscc.specs.declared.main_type.MainType.{MainType}
use Rattle.units.specs.declared.summary.Summary.{Summary}
use Rattle.units.specs.Summary.{Summarizes, offset_in, has_offset}
use Rattle.std.proofs.Math.ListN as lists

-- what a composite by value holds: its length number, its subtype, and its bodies
pub record Parts : Type 0 where
  pub length_number : ℕ
  pub subtype : ℕ
  pub bodies : List (List ℕ)

-- one of the eight sets, a subtype that the rules allow for it, and bodies of eight bytes
pub record Sound (c : Parts) : Type 0 where
  pub number : c.length_number ≤ 7
  pub subtype : composite_subtype c.length_number c.subtype ≡ true
  pub bodies : (i : ℕ) → i < 5 → lists.length (get_or c.bodies i []) ≡ 8

abbrev pub parts : ℕ → ℕ → List (List ℕ) → Parts
parts l s bodies = record { length_number = l; subtype = s; bodies = bodies }

-- k bodies: n of them by their index, filled up with zeros
unfoldable pub filled_bodies : (ℕ → List ℕ) → ℕ → ℕ → List (List ℕ)
filled_bodies f n zero = []
filled_bodies f zero (suc k) = replicate 8 0 ∷ filled_bodies f zero k
filled_bodies f (suc n) (suc k) = f 0 ∷ filled_bodies (λ i. f (suc i)) n k

-- n parts end to end, by their index
unfoldable pub laid : (ℕ → List ℕ) → ℕ → List ℕ
laid f zero = []
laid f (suc n) = laid f n ++ f n

-- a composite's meaning by value; a unit has none, and a wide composite's bodies are too long for it
unfoldable pub composite_as : Meaning → Parts
composite_as (composite s v units bodies) = parts (set_length_number units) s (filled_bodies (λ i. get_or bodies i []) (unit_count units) 5)
composite_as (unit m s v body) = parts 0 0 []
composite_as (wide s v da ins) = parts 0 0 []

-- ---- from a list's summary

-- m is the permitted composite that the items of a summary make
pub record Makes (bs : List ℕ) (l : Summary) (m : Meaning) : Type 0 where
  pub items : List Item
  pub summary : Summarizes bs items l
  pub composes : composite_from items ≡ accept m
  pub permitted : Permitted m

-- the i-th main type of a set's units; META past their end
abbrev pub type_at : List MainType → ℕ → MainType
type_at units i = get_or units i Meta

-- the offset of the i-th unit's body; 0 if it has none
abbrev pub body_offset : List (Option ℕ) → List MainType → ℕ → ℕ
body_offset offsets units i = unwrap_or (offset_in offsets (type_at units i)) 0

-- the set of units that have a body
abbrev pub set_of_offsets : List (Option ℕ) → Set
set_of_offsets offsets = record { meta = has_offset offsets Meta; semantic = has_offset offsets Semantic; content = has_offset offsets Content }

-- the subtype that SEMANTIC and CONTENT share; 6 with META alone, and 5 with none of the three
unfoldable pub summary_subtype : Summary → ℕ
summary_subtype l = unwrap_or l.subtype (cond (has_offset l.offsets Meta) 6 5)
