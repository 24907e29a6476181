-- The calls' answers as C has them, by each case.
use Rattle.std.specs.Prelude.{Result, Ok, Err}
use Rattle.iscc.specs.Refusals.{refusal_number}
use Prim.Native.Nat.{ℕ}
use mathlib.Core.Path.{◌≡◌, refl, sym, ◌∙◌, ap}
use mathlib.Core.List.{List}
use lib.ListN.{length}
use native.Mathlib.Omega.{arith}
use Rattle.iscc.specs.Answer.{area_after}
use Rattle.iscc.specs.Refusals.{Refusal}
use Rattle.iscc.specs.Header.{header_with_numbers}
use Rattle.iscc.specs.Permitted.{MainType, number, main_type_of}
use Rattle.iscc.specs.Item.{unit_bytes, write_unit}
use Rattle.iscc.specs.Representation.{result_of, written_as}
use Rattle.iscc.proofs.Permitted.{main_type_of-back}
use Rattle.iscc.proofs.Answer.{result-accepted, result-refused}
use Rattle.header.specs.Representation.{HeaderRead}
use Rattle.header.specs.declared.reader.RawHeader.{RawHeader}
use Rattle.unit.specs.Representation.{UnitRead}
use Rattle.unit.specs.declared.reader.Unit.{Unit}
use Rattle.header.specs.Representation.{no_fields, header_fields}
use Rattle.unit.specs.Representation.{unit_fields}
use Rattle.probe.specs.declared.headers.Fields.{Fields}
use Rattle.probe.specs.Representation.{fields_as}

pub header-there : (r s : HeaderRead) (h : RawHeader) → r ≡ s → r ≡ Ok h → fields_as (header_fields (Ok h)) ≡ fields_as (header_fields s)
header-there r s h e f = ap (λ (x : HeaderRead). fields_as (header_fields x)) (sym f ∙ e)

pub header_refused : (r s : HeaderRead) (q : Refusal) (k : Fields) → r ≡ s → r ≡ Err q → k ≡ fields_as (no_fields (refusal_number q)) → k ≡ fields_as (header_fields s)
header_refused r s q k e f g = g ∙ ap (λ (x : HeaderRead). fields_as (header_fields x)) (sym f ∙ e)

pub unit-there : (r s : UnitRead) (u : Unit) (m : ℕ) → r ≡ s → r ≡ Ok u → m ≡ number u.main_type
    → ◌≡◌ {A = Fields} (record { number = 0; main_type = m; subtype = u.subtype; version = u.version; length_number = u.length_number; used = u.used }) (fields_as (unit_fields s))
unit-there r s u m e f g = rw g (ap (λ (x : UnitRead). fields_as (unit_fields x)) (sym f ∙ e))

pub unit-refused : (r s : UnitRead) (q : Refusal) (k : Fields) → r ≡ s → r ≡ Err q → k ≡ fields_as (no_fields (refusal_number q)) → k ≡ fields_as (unit_fields s)
unit-refused r s q k e f g = g ∙ ap (λ (x : UnitRead). fields_as (unit_fields x)) (sym f ∙ e)

-- ---- the unit writer by a number

module _ (n s v l : ℕ) (body d : List ℕ) {r : Result MainType Refusal} (e : r ≡ result_of (main_type_of n)) where
  pub no-type : (q : Refusal) → r ≡ Err q → Err q ≡ written_as (write_unit (header_with_numbers n s v l) body (length d))
  unfolding unit_bytes
  no-type q f = rw (result-refused (main_type_of n) q (sym e ∙ f))

  pub no_write : (q : Refusal) → r ≡ Err q → d ≡ area_after (write_unit (header_with_numbers n s v l) body (length d)) d
  unfolding unit_bytes
  no_write q f = rw (result-refused (main_type_of n) q (sym e ∙ f))

  pub numbered : (m : MainType) → r ≡ Ok m → number m ≡ n
  numbered m f = main_type_of-back n m (result-accepted (main_type_of n) m (sym e ∙ f))
