-- What the pass over a list keeps of the items read so far: as numbers, and what they mean.
use Rattle.std.specs.Prelude.{ℕ, ◌+◌, ◌≤◌, ◌<◌, ◌≡◌, Bool, true, cond, not, ◌||◌, List, [], ◌∷◌, length, take, drop, get_or, set, eqb, Option, Some, None, is_some}
use Rattle.std.proofs.Math.Option as parts
use Rattle.std.proofs.Math.Option.{none, some}
use Rattle.iscc.specs.Permitted.{MainType, number}
use Rattle.iscc.specs.declared.main_type.Name.TheVariants.{Semantic, Content, Iscc, Id}
use Rattle.iscc.specs.Item.{Item}
use Rattle.iscc.specs.Lists.{every, pairwise, first_not, first_clash}
use Rattle.iscc.specs.Items.{same_type, takes_subtype, joinable, is_64_bits, other_type, has_subtype, shared_subtype, body_in}
use Rattle.units.specs.declared.summary.Summary.{Summary}

-- the subtype of the first SEMANTIC or CONTENT unit
unfoldable pub first_subtype : List Item → Option ℕ
first_subtype [] = None
first_subtype (i ∷ is) = cond (has_subtype i) (Some i.subtype) (first_subtype is)

-- the index of the first item that breaks a rule for each
abbrev pub breaker : (Item → Bool) → List Item → Option ℕ
breaker p is = cond (every p is) None (Some (first_not p is))

-- the index of the first item that breaks a rule with one before it
abbrev pub clasher : (Item → Item → Bool) → List Item → Option ℕ
clasher r is = cond (pairwise r is) None (Some (first_clash r [] is))

-- a body stands at an offset of the input; the offset is not 0, since a header stands before each
abbrev pub StandsAt : List ℕ → List ℕ → ℕ → Type 0
StandsAt bs body at = (0 < at) × (at + length body ≤ length bs) × (take (length body) (drop at bs) ≡ body)

-- where a body stands, if there is one
abbrev pub BodyAt : List ℕ → parts.Option (List ℕ) → Option ℕ → Type 0
BodyAt bs none at = at ≡ None
BodyAt bs (some body) at = (k : ℕ) × (at ≡ Some k) × StandsAt bs body k

-- the numbers of a list's items
pub record Summarizes (bs : List ℕ) (is : List Item) (l : Summary) : Type 0 where
  pub count : l.count ≡ length is
  pub not_joinable : l.not_joinable ≡ breaker joinable is
  pub not_64_bits : l.not_64_bits ≡ breaker is_64_bits is
  pub repeated : l.repeated ≡ clasher other_type is
  pub clash : l.clash ≡ clasher shared_subtype is
  pub subtype : l.subtype ≡ first_subtype is
  pub size : length l.offsets ≡ 7
  pub offsets : (m : MainType) → BodyAt bs (body_in m is) (get_or l.offsets (number m) None)

-- ---- one item more

-- the index of the first that breaks a rule, if the next item keeps it or not
unfoldable pub advanced : Option ℕ → ℕ → Bool → Option ℕ
advanced (Some k) count holds = Some k
advanced None count holds = cond holds None (Some count)

abbrev pub is_joinable : MainType → Bool
is_joinable m = not (same_type m Iscc || same_type m Id)

abbrev pub offset_in : List (Option ℕ) → MainType → Option ℕ
offset_in offsets m = get_or offsets (number m) None

-- whether there is a body of a main type
abbrev pub has_offset : List (Option ℕ) → MainType → Bool
has_offset offsets m = is_some (offset_in offsets m)

abbrev pub any_subtyped : List (Option ℕ) → Bool
any_subtyped offsets = has_offset offsets Semantic || has_offset offsets Content

-- whether a SEMANTIC or CONTENT unit has the subtype of the first, if there is one before it
unfoldable pub shares : Option ℕ → MainType → ℕ → Bool
shares None m s = true
shares (Some t) m s = cond (takes_subtype m) (eqb t s) true

-- the subtype of the first SEMANTIC or CONTENT unit, one item later
unfoldable pub subtype_after : Option ℕ → MainType → ℕ → Option ℕ
subtype_after (Some t) m s = Some t
subtype_after None m s = cond (takes_subtype m) (Some s) None

unfoldable pub with_offset : List (Option ℕ) → MainType → ℕ → List (Option ℕ)
with_offset offsets m at = cond (has_offset offsets m) offsets (set offsets (number m) (Some at))

abbrev pub empty_summary : Summary
empty_summary =
    record {
      count = 0;
      not_joinable = None;
      not_64_bits = None;
      repeated = None;
      clash = None;
      subtype = None;
      offsets = None ∷ None ∷ None ∷ None ∷ None ∷ None ∷ None ∷ [];
    }

unfoldable pub added : Summary → MainType → ℕ → ℕ → ℕ → Summary
added l m s n at =
    record {
      count = l.count + 1;
      not_joinable = advanced l.not_joinable l.count (is_joinable m);
      not_64_bits = advanced l.not_64_bits l.count (eqb n 8);
      repeated = advanced l.repeated l.count (not (has_offset l.offsets m));
      clash = advanced l.clash l.count (shares l.subtype m s);
      subtype = subtype_after l.subtype m s;
      offsets = with_offset l.offsets m at;
    }
