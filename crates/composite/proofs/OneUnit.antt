-- One unit, of any length, written to the front of an area.
use Prim.Native.Nat.{ℕ, ◌+◌, ◌≤◌}
use mathlib.Core.Path.{◌≡◌, ◌∙◌}
use mathlib.Core.Bool.{true}
use mathlib.Core.List.{List}
use native.Mathlib.Nat.{le_refl}
use native.Mathlib.Omega.{arith}
use lib.ListN.{length, length-append}
use lib.Seq.{take_all}
use borrow.Author.Tests.{le-leb}
use Rattle.iscc.specs.Answer.{accept, area_after}
use Rattle.iscc.specs.Header.{header_bytes}
use Rattle.iscc.specs.Permitted.{is_unit, permits, body_bytes}
use Rattle.iscc.specs.Item.{Item, header_of, item_bytes, unit_bytes, write_unit}
use Rattle.iscc.proofs.Header.{length-short}
use Rattle.iscc.proofs.Permitted.{main_type_of-number, number_small, small}

module _ (i : Item) (single : is_unit i.main_type ≡ true) (p : permits i.main_type i.subtype i.version i.length_number ≡ true)
    (z : length i.body ≡ body_bytes i.main_type i.subtype i.length_number) where
  pub unit_size : length (item_bytes i) ≡ 2 + length i.body
  unfolding item_bytes
  unit_size =
      let k = small i.main_type i.subtype i.version i.length_number p in
      let h : length (header_bytes (header_of i)) ≡ 2 =
      length-short (header_of i) (omega (arith, number_small i.main_type)) (omega (arith, k.subtype)) (omega (arith, k.version)) (omega (arith, k.length_number)) in
      length-append (header_bytes (header_of i)) i.body ∙ omega (arith, h)

  unit-bytes : unit_bytes (header_of i) i.body ≡ accept (item_bytes i)
  unfolding unit_bytes item_bytes
  unit-bytes =
      rw (main_type_of-number i.main_type, single, p, ← z, le-leb (length i.body) (length i.body) (le_refl (length i.body)), take_all (length i.body) i.body (le_refl (length i.body)))

  -- what the unit writer leaves of an area that holds the unit
  pub unit-over : (d : List ℕ) → 2 + length i.body ≤ length d → area_after (write_unit (header_of i) i.body (length d)) d ≡ area_after (accept (item_bytes i)) d
  unit-over d g = rw (unit-bytes, le-leb (length (item_bytes i)) (length d) (omega (arith, unit_size)))
