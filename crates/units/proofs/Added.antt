-- The numbers of a list with one item more are those that `added` makes.
use Prim.Native.Nat.{ℕ, suc, ◌<◌}
use mathlib.Core.Path.{◌≡◌, refl, sym, ◌∙◌, ap}
use mathlib.Core.Bool.{Bool, true, false, cond, not, ◌&&◌}
use mathlib.Core.Option as parts
use mathlib.Core.Option.{none, some}
use mathlib.Core.List.{List, [], ◌∷◌, ◌++◌}
use native.Mathlib.Omega.{arith}
use lib.ListN.{length, set, length-append, length-set}
use lib.Seq.{get_or-set_same, get_or-set_other}
use borrow.Author.Tests.{eqb-true, eqb-false}
use Rattle.std.specs.Prelude.{Option, Some, None, is_some}
use Rattle.iscc.specs.Permitted.{MainType, number}
use Rattle.iscc.specs.declared.main_type.Name.TheVariants.{Meta, Semantic, Content, Data, Instance, Iscc, Id}
use Rattle.iscc.specs.Item.{Item}
use Rattle.iscc.specs.Lists.{every, pairwise, first_not, first_clash}
use Rattle.iscc.specs.Items.{same_type, joinable, is_64_bits, other_type, shared_subtype, body_in, is_in, has}
use Rattle.iscc.proofs.Permitted.{number_small}
use Rattle.iscc.proofs.Items.{same_type-eq}
use Rattle.iscc.proofs.Lists.{every_append, first_not-end, first_not-snoc, first_clash-end, first_clash-snoc}
use Rattle.units.specs.declared.summary.Summary.{Summary}
use Rattle.units.specs.Summary.{first_subtype, breaker, clasher, StandsAt, BodyAt, Summarizes, advanced, offset_in, has_offset, with_offset, empty_summary, added}
use Rattle.units.proofs.Snoc.{pairwise-snoc, body_in-snoc, others, first_subtype-snoc, shares-is}

-- ---- a rule's first breaker

-- one item later: whether all before keep a rule, whether the next does, the index of the first that does not, and that of the next
advance-by : (all next : Bool) (k n : ℕ) → (all ≡ true → k ≡ n) → cond (all && next) None (Some (cond (all && next) (suc n) k)) ≡ advanced (cond all None (Some k)) n next
unfolding advanced
advance-by true true k n e = refl
advance-by true false k n e = ap Some (e refl)
advance-by false next k n e = refl

pub advance-not : (p : Item → Bool) (is : List Item) (i : Item) → breaker p (is ++ (i ∷ [])) ≡ advanced (breaker p is) (length is) (p i)
advance-not p is i =
    rw (every_append p is i, first_not-snoc p is i)
    (advance-by (every p is) (p i) (first_not p is) (length is) (λ e. eqb-true _ _ (sym (first_not-end p is) ∙ e)))

pub advance-clash : (r : Item → Item → Bool) (is : List Item) (i : Item) (b : Bool) → (pairwise r is ≡ true → every (λ e. r e i) is ≡ b)
    → clasher r (is ++ (i ∷ [])) ≡ advanced (clasher r is) (length is) b
advance-clash r is i b f =
    rw (pairwise-snoc r is i, first_clash-snoc r is i, both (pairwise r is) refl)
    (advance-by (pairwise r is) b (first_clash r [] is) (length is) (λ e. eqb-true _ _ (sym (first_clash-end r is) ∙ e)))
  where
    both : (c : Bool) → pairwise r is ≡ c → c && every (λ e. r e i) is ≡ c && b
    both true e = f e
    both false e = refl

-- ---- offsets

pub offset-tells : (bs : List ℕ) (o : parts.Option (List ℕ)) (at : Option ℕ) → BodyAt bs o at → is_some at ≡ is_in o
offset-tells bs none at p = rw p
offset-tells bs (some body) at p = rw p.1

module _ (bs : List ℕ) (is : List Item) (l : Summary) (s : Summarizes bs is l) where
  pub seen : (m : MainType) → has_offset l.offsets m ≡ has m is
  seen m = offset-tells bs (body_in m is) (offset_in l.offsets m) (s.offsets m)

  -- an item behind, whose body stands at an offset
  module _ (i : Item) (at : ℕ) (h : StandsAt bs i.body at) where
    abbrev m : MainType
    m = i.main_type

    size-after : length (with_offset l.offsets m at) ≡ 7
    unfolding with_offset
    size-after = go (has_offset l.offsets m)
      where
        go : (b : Bool) → length (cond b l.offsets (set l.offsets (number m) (Some at))) ≡ 7
        go true = s.size
        go false = length-set l.offsets (number m) (Some at) ∙ s.size

    here : (t : MainType) → t ≡ m → BodyAt bs (cond (has t is) (body_in t is) (some i.body)) (offset_in (with_offset l.offsets m at) t)
    unfolding with_offset
    here t e = rw (e, seen m) (go (body_in m is) (s.offsets m))
      where
        room : number m < length l.offsets
        room = omega (arith, s.size, number_small m)

        go : (o : parts.Option (List ℕ)) → BodyAt bs o (offset_in l.offsets m)
            → BodyAt bs (cond (is_in o) o (some i.body)) (offset_in (cond (is_in o) l.offsets (set l.offsets (number m) (Some at))) m)
        go none p = (at, get_or-set_same l.offsets (number m) (Some at) None room, h)
        go (some body) p = p

    elsewhere : (t : MainType) → same_type t m ≡ false → BodyAt bs (cond (has t is) (body_in t is) none) (offset_in (with_offset l.offsets m at) t)
    unfolding with_offset
    elsewhere t e = go (body_in t is) (s.offsets t)
      where
        kept : (b : Bool) → offset_in (cond b l.offsets (set l.offsets (number m) (Some at))) t ≡ offset_in l.offsets t
        kept true = refl
        kept false = get_or-set_other l.offsets (number m) (number t) (Some at) None (eqb-false (number t) (number m) e)

        go : (o : parts.Option (List ℕ)) → BodyAt bs o (offset_in l.offsets t)
            → BodyAt bs (cond (is_in o) o none) (offset_in (cond (has_offset l.offsets m) l.offsets (set l.offsets (number m) (Some at))) t)
        go none p = kept (has_offset l.offsets m) ∙ p
        go (some body) p = rw (kept (has_offset l.offsets m)) p

    offset-after : (t : MainType) → BodyAt bs (body_in t (is ++ (i ∷ []))) (offset_in (with_offset l.offsets m at) t)
    offset-after t = rw (body_in-snoc t is i) (go (same_type t m) refl)
      where
        go : (b : Bool) → same_type t m ≡ b
            → BodyAt bs (cond (has t is) (body_in t is) (cond b (some i.body) none)) (offset_in (with_offset l.offsets m at) t)
        go true e = here t (same_type-eq t m e)
        go false e = elsewhere t e

    pub added_is : Summarizes bs (is ++ (i ∷ [])) (added l m i.subtype (length i.body) at)
    unfolding added
    added_is =
        record {
          count = rw s.count (sym (length-append is (i ∷ [])));
          not_joinable = rw (s.not_joinable, s.count) (sym (advance-not joinable is i));
          not_64_bits = rw (s.not_64_bits, s.count) (sym (advance-not is_64_bits is i));
          repeated = rw (s.repeated, s.count) (sym (advance-clash other_type is i _ (λ _. others is i ∙ ap not (sym (seen m)))));
          clash = rw (s.clash, s.count, s.subtype) (sym (advance-clash shared_subtype is i _ (shares-is is i)));
          subtype = rw s.subtype (sym (first_subtype-snoc is i));
          size = size-after;
          offsets = offset-after;
        }

no-offset : (m : MainType) → offset_in empty_summary.offsets m ≡ None
no-offset Meta = refl
no-offset Semantic = refl
no-offset Content = refl
no-offset Data = refl
no-offset Instance = refl
no-offset Iscc = refl
no-offset Id = refl

pub empty-is : (bs : List ℕ) → Summarizes bs [] empty_summary
unfolding every pairwise first_subtype body_in
empty-is bs =
    record {
      count = refl;
      not_joinable = refl;
      not_64_bits = refl;
      repeated = refl;
      clash = refl;
      subtype = refl;
      size = refl;
      offsets = no-offset;
    }
