-- The tests of a list, and the detail of the first that fails.
use Rattle.iscc.specs.Detailed.{with_detail}
use Rattle.std.specs.Prelude.{Ok, Err}
use Rattle.std.specs.Prelude.{ℕ, cond, List, [], Option, Some, None}
use Rattle.iscc.specs.Refusals.{Refusal, not_joinable, not_64_bits, main_type_twice, lacks_data_or_instance, subtypes_differ}
use Rattle.iscc.specs.Answer.{Answer, accept, refuse}
use Rattle.iscc.specs.Permitted.{MainType, number}
use Rattle.iscc.specs.declared.main_type.Name.TheVariants.{Data, Instance}
use Rattle.iscc.specs.Meaning.{Meaning}
use Rattle.iscc.specs.Item.{Item}
use Rattle.iscc.specs.Lists.{every, pairwise, first_not, first_clash}
use Rattle.iscc.specs.Items.{joinable, is_64_bits, other_type, shared_subtype, has, composite_from}
use Rattle.units.specs.declared.summary.Summary.{Summary}
use Rattle.iscc.specs.declared.refusal.DetailedRefusal.{DetailedRefusal}
use Rattle.std.specs.Prelude.{Result}
use Rattle.units.specs.Summary.{has_offset}

-- an item's index, or for 13 the number of the main type that is missing
unfoldable pub verdict_detail : List Item → ℕ
verdict_detail is =
    cond (every joinable is)
    (cond (every is_64_bits is)
    (cond (pairwise other_type is)
    (cond (has Data is) (cond (has Instance is) (first_clash shared_subtype [] is) (number Instance)) (number Data))
    (first_clash other_type [] is))
    (first_not is_64_bits is))
    (first_not joinable is)

abbrev pub Verdict : Type 0
Verdict = Result (Unit {0}) DetailedRefusal

abbrev pub verdict_as : ℕ → Answer Meaning → Verdict
verdict_as k (accept m) = Ok tt
verdict_as k (refuse q) = Err (with_detail k q)

unfoldable pub verdict_of : List Item → Verdict
verdict_of is = verdict_as (verdict_detail is) (composite_from is)

-- ---- the same tests over the numbers of a summary, whatever they are

-- refused at the index of the first item that breaks a rule, if one does
abbrev pub refused_at : Option ℕ → Refusal → Verdict → Verdict
refused_at (Some k) q v = Err (with_detail k q)
refused_at None q v = v

abbrev pub lacks : MainType → Verdict
lacks m = Err (with_detail (number m) lacks_data_or_instance)

-- refused where there is no body of a main type
abbrev pub refused_without : Summary → MainType → Verdict → Verdict
refused_without l m v = cond (has_offset l.offsets m) v (lacks m)

unfoldable pub decided : Summary → Verdict
decided l =
    refused_at l.not_joinable not_joinable
    (refused_at l.not_64_bits not_64_bits
    (refused_at l.repeated main_type_twice
    (refused_without l Data
    (refused_without l Instance
    (refused_at l.clash subtypes_differ (Ok tt))))))
