-- A wide composite's two units, written end to end.
use Prim.Native.Nat.{ℕ, ◌-◌, ◌≤◌}
use mathlib.Core.Path.{◌≡◌, refl, sym, ◌∙◌, ap}
use mathlib.Core.Bool.{true}
use mathlib.Core.List.{List, ◌++◌}
use native.Mathlib.Omega.{arith}
use lib.ListN.{length, take, drop, length-append, length-drop}
use lib.Seq.{length-take-le}
use Rattle.iscc.specs.Answer.{accept, area_after}
use Rattle.iscc.specs.Permitted.{MainType, is_unit, row, body_bytes}
use Rattle.iscc.specs.declared.main_type.Name.TheVariants.{Data, Instance}
use Rattle.iscc.specs.Item.{item_bytes, write_unit}
use Rattle.iscc.specs.Items.{unit128}
use Rattle.iscc.proofs.Parts.{over-twice}
use Rattle.unit.specs.Representation.{header_with}
use Rattle.composite.specs.Wide.{wide_units}
use Rattle.composite.proofs.OneUnit.{unit_size, unit-over}
use Rattle.composite.proofs.Bytes.{part_room}

-- a unit of 128 bits, of a main type whose row has it
module _ (m : MainType) (single : is_unit m ≡ true) (there : row m 0 3 ≡ true) (sixteen : body_bytes m 0 3 ≡ 16) (body : List ℕ) (l : length body ≡ 16) where
  size-18 : length (item_bytes (unit128 m body)) ≡ 18
  size-18 = unit_size (unit128 m body) single there (l ∙ sym sixteen) ∙ omega (arith, l)

  over-18 : (d : List ℕ) → 18 ≤ length d → area_after (write_unit (header_with m 0 0 3) body (length d)) d ≡ area_after (accept (item_bytes (unit128 m body))) d
  over-18 d h = unit-over (unit128 m body) single there (l ∙ sym sixteen) d (omega (arith, l))

module _ (bs : List ℕ) (z : length bs ≡ 34) where
  abbrev data_body : List ℕ
  data_body = take 16 (drop 2 bs)

  abbrev instance_body : List ℕ
  instance_body = take 16 (drop 18 bs)

  data-16 : length data_body ≡ 16
  data-16 = length-take-le 16 (drop 2 bs) (omega (arith, length-drop 2 bs))

  instance-16 : length instance_body ≡ 16
  instance-16 = length-take-le 16 (drop 18 bs) (omega (arith, length-drop 18 bs))

  data-18 : length (item_bytes (unit128 Data data_body)) ≡ 18
  unfolding row body_bytes
  data-18 = size-18 Data refl refl refl data_body data-16

  pub units-36 : length (wide_units bs) ≡ 36
  unfolding wide_units row body_bytes
  units-36 =
      length-append (item_bytes (unit128 Data data_body)) (item_bytes (unit128 Instance instance_body))
      ∙ omega (arith, data-18, size-18 Instance refl refl refl instance_body instance-16)

  -- DATA was written to an area, and then INSTANCE to what lies behind
  pub units-over : (out a e : List ℕ) → 36 ≤ length out → a ≡ area_after (write_unit (header_with Data 0 0 3) data_body (length out)) out
      → e ≡ area_after (write_unit (header_with Instance 0 0 3) instance_body (length (take (length a - 18) (drop 18 a)))) (take (length a - 18) (drop 18 a))
      → take 18 a ++ (e ++ drop (length a - 18) (drop 18 a)) ≡ area_after (accept (wide_units bs)) out
  unfolding wide_units row body_bytes
  units-over out a e h p q =
      let x : List ℕ = item_bytes (unit128 Data data_body) in
      let a' : a ≡ x ++ drop (length x) out = p ∙ over-18 Data refl refl refl data_body data-16 out (omega arith) in
      let n : length a ≡ length out = ap length a' ∙ length-append x (drop (length x) out) ∙ omega (arith, length-drop (length x) out, data-18) in
      over-twice x (item_bytes (unit128 Instance instance_body)) out a e 18 (sym data-18) a'
      (q ∙ over-18 Instance refl refl refl instance_body instance-16 (take (length a - 18) (drop 18 a)) (part_room a 18 18 (omega (arith, n))))
