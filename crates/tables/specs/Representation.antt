-- A row of the table of sets: the main types of the units in, in their order, then ID as filling; and how many they are.
use Rattle.std.specs.Prelude.{◌++◌, take, replicate}
use Rattle.iscc.specs.Permitted.{Set, unit_types, unit_count}
use Rattle.iscc.specs.declared.main_type.Name.TheVariants.{Id}
use Rattle.tables.specs.declared.UnitSet.{UnitSet}

unfoldable pub unit_set_as : Set → UnitSet
unit_set_as s = record { units = take 5 (unit_types s ++ replicate 5 Id); count = unit_count s }
