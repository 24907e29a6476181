-- A composite by value, written: as its own bytes, or as its units end to end.
use Rattle.std.specs.Prelude.{ℕ, ◌<◌, cond, List, [], ◌++◌, get_or}
use Rattle.iscc.specs.Header.{Header, header_bytes}
use Rattle.iscc.specs.Permitted.{MainType, number, set_of, unit_count}
use Rattle.iscc.specs.declared.main_type.Name.TheVariants.{Iscc}
use Rattle.iscc.specs.Item.{Item, item_bytes}
use Rattle.iscc.specs.Items.{unit64, takes_subtype}
use Rattle.tables.specs.Representation.{unit_set_as}
use Rattle.composite.specs.Bodies.{Parts, laid, type_at}

abbrev pub composite_header : Parts → Header
composite_header c = record { main_type = number Iscc; subtype = c.subtype; version = 0; length_number = c.length_number }

unfoldable pub composite_bytes : Parts → List ℕ
composite_bytes c = header_bytes (composite_header c) ++ laid (λ i. get_or c.bodies i []) (unit_count (set_of c.length_number))

-- the main types whose units a composite has: those before ISCC
abbrev pub InComposite : MainType → Type 0
InComposite m = number m < number Iscc

-- a unit of 64 bits: SEMANTIC and CONTENT take the composite's subtype, and the others 0
abbrev pub unit_of : MainType → ℕ → List ℕ → Item
unit_of m s body = unit64 m (cond (takes_subtype m) s 0) body

-- the i-th unit of a composite
unfoldable pub unit_at : Parts → ℕ → Item
unit_at c i = unit_of (type_at (unit_set_as (set_of c.length_number)).units i) c.subtype (get_or c.bodies i [])

unfoldable pub split_into : Parts → List ℕ
split_into c = laid (λ i. item_bytes (unit_at c i)) (unit_count (set_of c.length_number))
