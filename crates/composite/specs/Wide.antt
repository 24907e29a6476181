-- A wide composite's own bytes as its two units.
use Rattle.std.specs.Prelude.{ℕ, List, ◌++◌, take, drop}
use Rattle.iscc.specs.declared.main_type.Name.TheVariants.{Data, Instance}
use Rattle.iscc.specs.Item.{item_bytes}
use Rattle.iscc.specs.Items.{unit128}

-- DATA and then INSTANCE, the sixteen bytes behind the header of two and the sixteen behind these
unfoldable pub wide_units : List ℕ → List ℕ
wide_units bs = item_bytes (unit128 Data (take 16 (drop 2 bs))) ++ item_bytes (unit128 Instance (take 16 (drop 18 bs)))
