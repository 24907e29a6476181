-- The specification, "Permitted headers and body lengths".
use Rattle.std.specs.Prelude.{ℕ, ◌+◌, ◌*◌, Bool, true, false, cond, ◌&&◌, ◌||◌, List, [], ◌∷◌, ◌++◌, get_or, eqb, leb, ltb}
use Rattle.iscc.specs.Answer.{Answer, accept, ◌>>◌, ◌otherwise◌}
use Rattle.iscc.specs.Refusals.{not_permitted}
use Rattle.iscc.specs.declared.main_type.Name as declared
use Rattle.iscc.specs.declared.main_type.Name.TheVariants.{Meta, Semantic, Content, Data, Instance, Iscc, Id}

-- a main type is the code's own name of one (src/main_type.rt), and a number in a header
abbrev pub MainType : Type 0
MainType = declared.Name

abbrev pub number : MainType → ℕ
number Meta = 0
number Semantic = 1
number Content = 2
number Data = 3
number Instance = 4
number Iscc = 5
number Id = 6

-- every main type but a composite's is a unit's
abbrev pub is_unit : MainType → Bool
is_unit Meta = true
is_unit Semantic = true
is_unit Content = true
is_unit Data = true
is_unit Instance = true
is_unit Iscc = false
is_unit Id = true

abbrev pub main_types : List MainType
main_types = Meta ∷ Semantic ∷ Content ∷ Data ∷ Instance ∷ Iscc ∷ Id ∷ []

-- the main type of a number below 7
unfoldable pub type_of : ℕ → MainType
type_of n = get_or main_types n Id

-- main type 7 and above are refused (8)
unfoldable pub main_type_of : ℕ → Answer MainType
main_type_of n = do
  ltb n 7 otherwise not_permitted
  accept (type_of n)

-- Which of META, SEMANTIC and CONTENT are in a composite; DATA and INSTANCE always are. The eight sets, by length number.
pub record Set : Type 0 where
  pub meta : Bool
  pub semantic : Bool
  pub content : Bool

abbrev in? : Bool → Bool → Bool → Set
in? a b c = record { meta = a; semantic = b; content = c }

unfoldable pub sets : List Set
sets =
    in? false false false
    ∷ in? false false true
    ∷ in? false true false
    ∷ in? false true true
    ∷ in? true false false
    ∷ in? true false true
    ∷ in? true true false
    ∷ in? true true true
    ∷ []

unfoldable pub set_of : ℕ → Set
set_of l = get_or sets l (in? false false false)

abbrev pub weight : ℕ → Bool → ℕ
weight n true = n
weight n false = 0

-- 4 if META is in, plus 2 if SEMANTIC is in, plus 1 if CONTENT is in
abbrev pub set_length_number : Set → ℕ
set_length_number s = weight 4 s.meta + weight 2 s.semantic + weight 1 s.content

-- how many units are in
abbrev pub unit_count : Set → ℕ
unit_count s = weight 1 s.meta + weight 1 s.semantic + weight 1 s.content + 2

-- the units in, in the order META, SEMANTIC, CONTENT, DATA, INSTANCE
abbrev pub only : Bool → MainType → List MainType
only true m = m ∷ []
only false m = []

unfoldable pub unit_types : Set → List MainType
unit_types s = only s.meta Meta ++ only s.semantic Semantic ++ only s.content Content ++ (Data ∷ Instance ∷ [])

-- a composite's subtype: 5 for length 0, 6 for length 4, and otherwise 0 to 4
unfoldable pub composite_subtype : ℕ → ℕ → Bool
composite_subtype l s = cond (eqb l 0) (eqb s 5) (cond (eqb l 4) (eqb s 6) (leb s 4))

-- a wide composite has subtype 7 and length 0: DATA and INSTANCE alone, with 128 bits each
unfoldable pub is_wide : ℕ → ℕ → Bool
is_wide s l = eqb s 7 && eqb l 0

-- the table's rows: main type, subtype, length number
unfoldable pub row : MainType → ℕ → ℕ → Bool
row Meta s l = eqb s 0 && leb l 7
row Semantic s l = leb s 4 && leb l 7
row Content s l = leb s 4 && leb l 7
row Data s l = eqb s 0 && leb l 7
row Instance s l = eqb s 0 && leb l 7
row Iscc s l = is_wide s l || (composite_subtype l s && leb l 7)
row Id s l = leb s 5 && leb l 4

-- version is always 0
abbrev pub permits : MainType → ℕ → ℕ → ℕ → Bool
permits m s v l = eqb v 0 && row m s l

-- the body in bytes, by the same columns: (length + 1) x 32 bits; 64 bits a unit, or 128 if it is wide; 64 + length x 8 bits
unfoldable pub body_bytes : MainType → ℕ → ℕ → ℕ
body_bytes Meta s l = (l + 1) * 4
body_bytes Semantic s l = (l + 1) * 4
body_bytes Content s l = (l + 1) * 4
body_bytes Data s l = (l + 1) * 4
body_bytes Instance s l = (l + 1) * 4
body_bytes Iscc s l = cond (is_wide s l) 32 (unit_count (set_of l) * 8)
body_bytes Id s l = 8 + l
