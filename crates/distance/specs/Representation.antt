-- The code's answer of a distance as a representation of the definitions' value.
use Rattle.std.specs.Prelude.{ℕ, ◌≡◌, Bool, true, ◌&&◌, ◌⊎◌, List, eqb, pos, Result, Ok, Err}
use Rattle.std.specs.Float.{binary32}
use Rattle.std.specs.Float.Ieee.{of_int, mul, eq}
use Rattle.iscc.specs.Refusals.{Refusal}
use Rattle.iscc.specs.Answer.{Answer, accept, refuse, number_of}
use Rattle.iscc.specs.Distance.{ratio_of, differing_bits, compared_bits, has_distance, distance_answer}
use Rattle.iscc.specs.Distance as definition
use Rattle.iscc.specs.Permitted.{number}
use Rattle.iscc.specs.Item.{read_one}
use Rattle.unit.specs.Representation.{one_read_as}
use Rattle.unit.specs.declared.reader.Unit.{Unit}
use Rattle.distance.specs.declared.answer.Distance.{Distance}
use Rattle.distance.specs.declared.answer.Measured.{Measured}

abbrev pub distance_as : definition.Distance → Distance
distance_as r = record { d = r.d; n = r.n; ratio = r.ratio }

-- d differing bits of n
abbrev pub measure : ℕ → ℕ → definition.Distance
measure d n = record { d = d; n = n; ratio = ratio_of d n }

-- the distance of two bodies
abbrev pub body_distance : List ℕ → List ℕ → definition.Distance
body_distance x y = measure (differing_bits x y) (compared_bits x y)

-- the answer: its number, and the three things, which a refusal has too
unfoldable pub measured_as : Answer definition.Distance → Measured
measured_as x = record { number = number_of x; distance = distance_as (distance_answer x) }

abbrev pub refused_as : Refusal → Measured
refused_as q = measured_as (refuse q)

-- inside: the three things, or the refusal
unfoldable pub result_as : Answer definition.Distance → Result Distance Refusal
result_as (accept r) = Ok (distance_as r)
result_as (refuse q) = Err q

-- and the answer from it
abbrev pub measured_from : Result Distance Refusal → Measured
measured_from (Ok r) = record { number = 0; distance = r }
measured_from (Err q) = refused_as q

-- the bytes hold exactly this unit
abbrev pub Holds : List ℕ → Unit → Type 0
Holds bs u = one_read_as bs (read_one bs) ≡ Ok u

-- whether main type (META to DATA) and subtype agree
abbrev pub comparable_as : Unit → Unit → Bool
comparable_as u v =
    eqb (number u.main_type) (number v.main_type) && has_distance u.main_type && eqb u.subtype v.subtype

-- "Where n is a power of two (32, 64, 128, 256) the ratio is exact": the float product of the ratio and n equals d as a float
abbrev pub Exact : Distance → Type 0
Exact r = (r.n ≡ 32) ⊎ (r.n ≡ 64) ⊎ (r.n ≡ 128) ⊎ (r.n ≡ 256)
    → eq (mul binary32 r.ratio (of_int binary32 (pos r.n))) (of_int binary32 (pos r.d)) ≡ true
