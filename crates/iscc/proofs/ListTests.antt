-- A list of items answers as its tests 10 to 14 say.
use Prim.Native.Nat.{ℕ, ◌<◌}
use mathlib.Core.Path.{◌≡◌, refl, sym}
use mathlib.Core.Logic.{inl}
use mathlib.Core.Bool.{Bool, true, false, cond, ◌&&◌}
use mathlib.Core.Option.{none, some}
use mathlib.Core.List.{List, [], ◌∷◌}
use native.Mathlib.Nat.{not-suc-le-zero}
use native.Mathlib.Decide.{ℕ_discrete}
use native.Mathlib.Omega.{arith}
use lib.ListN.{length}
use lib.Dec.{eqb}
use borrow.Author.Tests.{eq-eqb, ne_eqb}
use Rattle.iscc.specs.Refusals.{not_joinable, not_64_bits, main_type_twice, lacks_data_or_instance, subtypes_differ}
use Rattle.iscc.specs.Answer.{Answer, refuse, ◌>>◌, ◌otherwise◌}
use Rattle.iscc.specs.Lists.{every}
use Rattle.iscc.specs.Permitted.{MainType, number}
use Rattle.iscc.specs.declared.main_type.Name.TheVariants.{Meta, Semantic, Content, Data, Instance, Iscc, Id}
use Rattle.iscc.specs.Item.{Item, meaning_of}
use Rattle.iscc.specs.Items.{same_type, joinable, is_64_bits, other_type, shared_subtype, body_in, is_in, has, composite_from, meaning_of_items, joined_meaning}
use Rattle.iscc.specs.Exactly.{Rule, rule}
use Rattle.iscc.specs.RefusalOrder.{present, item_at, list_stages, meaning_stages, join_stages}
use Rattle.iscc.proofs.Booleans.{true-false}
use Rattle.iscc.proofs.Steps.{By, done, refusing, holding}
use Rattle.iscc.proofs.FirstBroken.{every_holds, step-at, step-every, step-pairs}

-- ---- 13: DATA, and then INSTANCE

present-before : (a b : Bool) (j : ℕ) → j < number Data → present a b j ≡ true
present-before a b j l = rw (ne_eqb j (number Data) (λ e. omega arith), ne_eqb j (number Instance) (λ e. omega arith))

present-data : (b : Bool) (j : ℕ) → j < number Instance → present true b j ≡ true
present-data b j l =
    elim (ℕ_discrete j (number Data)) [
      | yes e ↦ rw (eq-eqb j (number Data) e)
      | no e ↦ rw (ne_eqb j (number Data) e, ne_eqb j (number Instance) (λ z. omega arith))
    ]

present-both : (j : ℕ) → present true true j ≡ true
present-both j = go (eqb j (number Data)) (eqb j (number Instance))
  where
    go : (a b : Bool) → cond a true (cond b true true) ≡ true
    go true b = refl
    go false true = refl
    go false false = refl

lacks-data : {A : Type 0} (b : Bool) (ss : List (List Rule))
    → By {A = A} (rule lacks_data_or_instance (present false b) ∷ ss) (refuse lacks_data_or_instance)
lacks-data b ss = refusing lacks_data_or_instance (number Data) _ ss ((λ j l. (present-before false b j l, tt)), inl (refl, refl))

lacks-instance : {A : Type 0} (ss : List (List Rule))
    → By {A = A} (rule lacks_data_or_instance (present true false) ∷ ss) (refuse lacks_data_or_instance)
lacks-instance ss = refusing lacks_data_or_instance (number Instance) _ ss ((λ j l. (present-data false j l, tt)), inl (refl, refl))

step-lacks : {B : Type 0} (a b : Bool) (x : Answer B) (ss : List (List Rule)) → By ss x
    → By (rule lacks_data_or_instance (present a b) ∷ ss) ((a && b) otherwise lacks_data_or_instance >> x)
step-lacks false b x ss y = lacks-data b ss
step-lacks true false x ss y = lacks-instance ss
step-lacks true true x ss y = holding _ ss x (λ j. (present-both j, tt)) y

-- ---- two or more

composite-by : (is : List Item) → By (list_stages is) (composite_from is)
unfolding composite_from list_stages
composite-by is =
    step-every not_joinable _ _
    (step-every not_64_bits _ _
    (step-pairs main_type_twice _ _
    (step-lacks (has Data is) (has Instance is) _ _ (step-pairs subtypes_differ _ [] (done _) shared_subtype is))
    other_type is)
    is_64_bits is)
    joinable is

pub meaning-by : (is : List Item) → 0 < length is → By (meaning_stages is) (meaning_of_items is)
unfolding meaning_stages meaning_of_items
meaning-by [] h = absurd (not-suc-le-zero h)
meaning-by (i ∷ []) h = done (meaning_of i)
meaning-by (i ∷ j ∷ is) h = composite-by (i ∷ j ∷ is)

-- ---- join: of one item 10, or 13 for the main type that is missing

other-missing : (m : MainType) → same_type Data m ≡ true → same_type Instance m ≡ false
other-missing Meta e = refl
other-missing Semantic e = refl
other-missing Content e = refl
other-missing Data e = refl
other-missing Instance e = sym e
other-missing Iscc e = refl
other-missing Id e = refl

missing-by : {A : Type 0} (i : Item)
    → By {A = A} (rule lacks_data_or_instance (present (has Data (i ∷ [])) (has Instance (i ∷ []))) ∷ []) (refuse lacks_data_or_instance)
unfolding body_in
missing-by i = go (same_type Data i.main_type) (same_type Instance i.main_type) (other-missing i.main_type)
  where
    go : {A : Type 0} (a b : Bool) → (a ≡ true → b ≡ false)
        → By {A = A} (rule lacks_data_or_instance (present (is_in (cond a (some i.body) none)) (is_in (cond b (some i.body) none))) ∷ [])
        (refuse lacks_data_or_instance)
    go true true f = absurd (true-false refl (f refl))
    go true false f = lacks-instance []
    go false b f = lacks-data _ []

pub joined_by : (is : List Item) → 0 < length is → By (join_stages is) (joined_meaning is)
unfolding join_stages joined_meaning every
joined_by [] h = absurd (not-suc-le-zero h)
joined_by (i ∷ []) h =
    step-at not_joinable _ _ (missing-by i) (joinable i) (item_at joinable (i ∷ [])) 0 (λ e. every_holds joinable (i ∷ []) (rw e))
    (λ e. ((λ j l. absurd (not-suc-le-zero l)), e))
joined_by (i ∷ j ∷ is) h = composite-by (i ∷ j ∷ is)
