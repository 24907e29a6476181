-- The tests of a list by the numbers of its summary.
use Prim.Native.Nat.{ℕ}
use mathlib.Core.Path.{◌≡◌, refl}
use mathlib.Core.Bool.{Bool, true, false}
use mathlib.Core.Option.{Option, none, some}
use mathlib.Core.List.{List}
use Rattle.iscc.specs.declared.main_type.Name.TheVariants.{Data, Instance}
use Rattle.iscc.specs.Item.{Item}
use Rattle.iscc.specs.Lists.{every, pairwise}
use Rattle.iscc.specs.Items.{joinable, is_64_bits, other_type, shared_subtype, body_in, composite_from}
use Rattle.units.specs.declared.summary.Summary.{Summary}
use Rattle.units.specs.Summary.{Summarizes}
use Rattle.units.specs.Verdict.{verdict_detail, verdict_of, decided}
use Rattle.units.proofs.Added.{seen}

-- ---- the numbers of a list decide as its items do

module _ (bs : List ℕ) (is : List Item) (l : Summary) (s : Summarizes bs is l) where
  abbrev Same : Type 0
  Same = decided l ≡ verdict_of is

  by-10 : every joinable is ≡ false → Same
  unfolding decided verdict_of verdict_detail composite_from
  by-10 n = rw (s.not_joinable, n)

  module _ (j : every joinable is ≡ true) where
    by-11 : every is_64_bits is ≡ false → Same
    unfolding decided verdict_of verdict_detail composite_from
    by-11 n = rw (s.not_joinable, j, s.not_64_bits, n)

    module _ (e : every is_64_bits is ≡ true) where
      by-12 : pairwise other_type is ≡ false → Same
      unfolding decided verdict_of verdict_detail composite_from
      by-12 n = rw (s.not_joinable, j, s.not_64_bits, e, s.repeated, n)

      module _ (o : pairwise other_type is ≡ true) where
        by-data : body_in Data is ≡ none → Same
        unfolding decided verdict_of verdict_detail composite_from
        by-data n = rw (s.not_joinable, j, s.not_64_bits, e, s.repeated, o, seen bs is l s Data, n)

        module _ (a : List ℕ) (da : body_in Data is ≡ some a) where
          by-instance : body_in Instance is ≡ none → Same
          unfolding decided verdict_of verdict_detail composite_from
          by-instance n = rw (s.not_joinable, j, s.not_64_bits, e, s.repeated, o, seen bs is l s Data, da, seen bs is l s Instance, n)

          module _ (b : List ℕ) (ins : body_in Instance is ≡ some b) where
            by-14 : pairwise shared_subtype is ≡ false → Same
            unfolding decided verdict_of verdict_detail composite_from
            by-14 n = rw (s.not_joinable, j, s.not_64_bits, e, s.repeated, o, seen bs is l s Data, da, seen bs is l s Instance, ins, s.clash, n)

            by-none : pairwise shared_subtype is ≡ true → Same
            unfolding decided verdict_of verdict_detail composite_from
            by-none k = rw (s.not_joinable, j, s.not_64_bits, e, s.repeated, o, seen bs is l s Data, da, seen bs is l s Instance, ins, s.clash, k)

  pub decided-is : Same
  decided-is =
      tested (every joinable is) by-10 λ j.
      tested (every is_64_bits is) (by-11 j) λ e.
      tested (pairwise other_type is) (by-12 j e) λ o.
      looked (body_in Data is) (by-data j e o) λ a da.
      looked (body_in Instance is) (by-instance j e o a da) λ b ins.
      tested (pairwise shared_subtype is) (by-14 j e o a da b ins) (by-none j e o a da b ins)
    where
      tested : (b : Bool) → (b ≡ false → Same) → (b ≡ true → Same) → Same
      tested true f g = g refl
      tested false f g = f refl

      looked : (o : Option (List ℕ)) → (o ≡ none → Same) → ((x : List ℕ) → o ≡ some x → Same) → Same
      looked none f g = f refl
      looked (some x) f g = g x refl
