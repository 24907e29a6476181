-- An item and its meaning: each comes back from the other.
use Prim.Native.Nat.{ℕ, ◌*◌}
use mathlib.Core.Path.{◌≡◌, refl, ◌∙◌, ap, ap₂}
use mathlib.Core.Bool.{Bool, true, false, cond}
use mathlib.Core.List.{List, ◌++◌}
use native.Mathlib.Omega.{arith}
use lib.ListN.{length, length-append, length-drop, take-append-drop}
use lib.Seq.{take_at, drop_at, length-take-le}
use Rattle.iscc.specs.Permitted.{MainType, is_unit, set_of, set_length_number, unit_count, is_wide, row, permits, body_bytes}
use Rattle.iscc.specs.declared.main_type.Name.TheVariants.{Meta, Semantic, Content, Data, Instance, Iscc, Id}
use Rattle.iscc.specs.Meaning.{Meaning, unit, composite, wide, Sized, Permitted}
use Rattle.iscc.specs.Item.{Item, composite_of, wide_of, meaning_as, meaning_of, unit_length_number, item_of}
use Rattle.iscc.proofs.Permitted.{Small, small, unit-or-composite, unit_length_number-back, set_back, set_length_number-back, wide-numbers, not_wide, composite-permits, permits-composite}
use Rattle.iscc.proofs.Digits.{below-append, below-take, below-drop}
use Rattle.iscc.proofs.Cut.{cut-flatten, flatten-sized, length_cut, sized-cut, flatten-cut}
use Rattle.iscc.proofs.Item.{PermittedItem}

-- ---- from a meaning to its item and back

pub unit-means : (m : MainType) (s v l : ℕ) (body : List ℕ) → is_unit m ≡ true → meaning_as m s v l body ≡ unit m s v body
unfolding meaning_as
unit-means Meta s v l body u = refl
unit-means Semantic s v l body u = refl
unit-means Content s v l body u = refl
unit-means Data s v l body u = refl
unit-means Instance s v l body u = refl
unit-means Iscc s v l body u = cc
unit-means Id s v l body u = refl

wide-of : (s v : ℕ) (da ins : List ℕ) → length da ≡ 16 → wide_of s v (da ++ ins) ≡ wide s v da ins
unfolding wide_of
wide-of s v da ins l = ap₂ (wide s v) (take_at da ins 16 l) (drop_at da ins 16 l)

pub meaning-back : (m : Meaning) → Permitted m → meaning_of (item_of m) ≡ m
unfolding item_of meaning_as is_wide composite_of
meaning-back (unit m s v body) p = unit-means m s v _ body p.single
meaning-back (composite s v units bodies) p = rw (not_wide s (set_length_number units) p.subtype, set_back units, ← p.count, cut-flatten 8 bodies p.sized)
meaning-back (wide s v da ins) p = rw p.subtype (wide-of 7 v da ins p.data_sized.0)

pub item-permitted : (m : Meaning) → Permitted m → PermittedItem (item_of m)
unfolding item_of row body_bytes is_wide
item-permitted (unit m s v body) p =
    let e : unit_length_number m (length body) ≡ p.length_number = ap (unit_length_number m) p.sized.0 ∙ unit_length_number-back m s p.length_number p.single in
    record { header = rw e p.header; body = (rw e p.sized.0, p.sized.1) }
item-permitted (composite s v units bodies) p =
    record { header = composite-permits s v units p.version p.subtype; body = rw (not_wide s (set_length_number units) p.subtype, set_back units, ← p.count) (flatten-sized 8 bodies p.sized) }
item-permitted (wide s v da ins) p =
    record {
      header = rw (p.version, p.subtype);
      body = rw p.subtype (length-append da ins ∙ omega (arith, p.data_sized.0, p.instance_sized.0), below-append 256 da ins p.data_sized.1 p.instance_sized.1);
    }

-- ---- a composite's body and its units' bodies

module _ (s v l : ℕ) (body : List ℕ) (p : permits Iscc s v l ≡ true) where
  abbrev whole : Item
  whole = record { main_type = Iscc; subtype = s; version = v; length_number = l; body = body }

  abbrev count : ℕ
  count = unit_count (set_of l)

  abbrev numbers : Small s v l
  numbers = small Iscc s v l p

  composite-permitted : is_wide s l ≡ false → Sized (count * 8) body → Permitted (composite_of s v (set_of l) body)
  unfolding composite_of
  composite-permitted w z =
      record {
        subtype = rw (set_length_number-back l numbers.length_number) (permits-composite s v l p w);
        version = numbers.version;
        count = length_cut 8 count body;
        sized = sized-cut 8 count body z;
      }

  composite-back : Sized (count * 8) body → item_of (composite_of s v (set_of l) body) ≡ whole
  unfolding item_of composite_of
  composite-back z = rw (set_length_number-back l numbers.length_number, flatten-cut 8 count body z)

  wide-permitted : is_wide s l ≡ true → Sized 32 body → Permitted (wide_of s v body)
  unfolding wide_of
  wide-permitted w z =
      record {
        subtype = (wide-numbers s l w).0;
        version = numbers.version;
        data_sized = (length-take-le 16 body (omega (arith, z.0)), below-take 256 16 body z.1);
        instance_sized = (length-drop 16 body ∙ omega (arith, z.0), below-drop 256 16 body z.1);
      }

  wide_back : is_wide s l ≡ true → item_of (wide_of s v body) ≡ whole
  unfolding item_of wide_of
  wide_back w = rw ((wide-numbers s l w).1, take-append-drop 16 body)

  -- what holds of both kinds holds of the meaning
  of-kind : (P : Meaning → Type 0) → (is_wide s l ≡ true → Sized 32 body → P (wide_of s v body)) → (is_wide s l ≡ false → Sized (count * 8) body → P (composite_of s v (set_of l) body))
      → Sized (body_bytes Iscc s l) body → P (meaning_as Iscc s v l body)
  unfolding meaning_as body_bytes
  of-kind P f g z = go (is_wide s l) refl z
    where
      go : (b : Bool) → is_wide s l ≡ b → Sized (cond b 32 (count * 8)) body → P (cond b (wide_of s v body) (composite_of s v (set_of l) body))
      go true w z = f w z
      go false w z = g w z

  either-permitted : Sized (body_bytes Iscc s l) body → Permitted (meaning_as Iscc s v l body)
  either-permitted = of-kind Permitted wide-permitted composite-permitted

  either-back : Sized (body_bytes Iscc s l) body → item_of (meaning_as Iscc s v l body) ≡ whole
  either-back = of-kind (λ m. item_of m ≡ whole) (λ w z. wide_back w) (λ w z. composite-back z)

-- ---- what a permitted item means is permitted, and the item comes back from it

module _ (s v l : ℕ) (body : List ℕ) where
  abbrev Meant : MainType → Type 0
  Meant m = permits m s v l ≡ true → Sized (body_bytes m s l) body → Permitted (meaning_as m s v l body)

  abbrev Back : MainType → Type 0
  Back m = permits m s v l ≡ true → Sized (body_bytes m s l) body → item_of (meaning_as m s v l body) ≡ record { main_type = m; subtype = s; version = v; length_number = l; body = body }

  meant-by : (m : MainType) → Meant m
  unfolding meaning_as
  meant-by =
      unit-or-composite Meant (λ m u h z. rw (unit-means m s v l body u) (record { length_number = l; single = u; header = h; sized = z })) (either-permitted s v l body)

  back_by : (m : MainType) → Back m
  unfolding meaning_as item_of
  back_by =
      unit-or-composite Back (λ m u h z. rw (unit-means m s v l body u, z.0, unit_length_number-back m s l u)) (either-back s v l body)

pub meant-item : (i : Item) → PermittedItem i → Permitted (meaning_of i)
meant-item i p = meant-by i.subtype i.version i.length_number i.body i.main_type p.header p.body

pub item_back : (i : Item) → PermittedItem i → item_of (meaning_of i) ≡ i
item_back i p = back_by i.subtype i.version i.length_number i.body i.main_type p.header p.body
