-- What a list's verdict says of the bytes that are written.
use Rattle.iscc.specs.Detailed.{with_detail}
use Rattle.iscc.specs.declared.refusal.DetailedRefusal.{DetailedRefusal}
use Rattle.std.specs.Prelude.{Ok, Err, Some, None, is_some}
use Prim.Native.Nat.{ℕ, ◌≤◌, ◌<◌}
use mathlib.Core.Path.{◌≡◌, refl, sym, ◌∙◌, ap, subst, subst⁻¹}
use mathlib.Core.Bool.{Bool, true, false, cond, ◌&&◌}
use mathlib.Core.List.{List, [], ◌∷◌}
use native.Mathlib.Nat.{not-suc-le-zero}
use native.Mathlib.Omega.{arith}
use lib.ListN.{length}
use Rattle.iscc.specs.Refusals.{Refusal, not_joinable, lacks_data_or_instance}
use Rattle.iscc.specs.Answer.{Answer, accept, refuse, ◌>>=◌, ◌>>◌, ◌otherwise◌}
use Rattle.iscc.specs.Digits.{Below}
use Rattle.iscc.specs.Meaning.{Meaning}
use Rattle.iscc.specs.Item.{Item, item_bytes, item_of}
use Rattle.iscc.specs.Lists.{every, first_not}
use Rattle.iscc.specs.Permitted.{unit_types}
use Rattle.iscc.specs.Items.{set_in, bodies_in, subtype_of, read_items, joinable, composite_from, joined_meaning, joined_bytes}
use Rattle.iscc.proofs.ItemTests.{some-items}
use Rattle.iscc.proofs.Items.{items-read, CompositeParts, composite_from-parts, composite_from-permitted}
use Rattle.iscc.proofs.Split.{joined-two}
use Rattle.units.specs.declared.summary.Summary.{Summary}
use Rattle.units.specs.Reading.{Reading}
use Rattle.units.specs.Verdict.{Verdict}
use Rattle.units.specs.Summary.{Summarizes, breaker}
use Rattle.units.specs.Reading.{leading_items, refused_index, reading_as}
use Rattle.units.specs.Verdict.{verdict_detail, verdict_as, verdict_of, decided}
use Rattle.units.proofs.Decided.{decided-is}
use Rattle.units.proofs.Leading.{leading-all}
use Rattle.composite.specs.Bodies.{Parts, Sound, Makes, composite_as}
use Rattle.composite.specs.Code.{composite_bytes}
use Rattle.composite.specs.Joined.{Listed, composed_bytes, single_refusal}
use Rattle.composite.proofs.FromSummary.{permitted-parts}
use Rattle.composite.proofs.Bytes.{sound-of, code_of}

-- ---- the composite that is written

module _ (bs : List ℕ) (l : Summary) (m : Meaning) (k : Makes bs l m) (c : Parts) (e : c ≡ composite_as m) where
  abbrev is : List Item
  is = k.items

  abbrev of : CompositeParts is m
  of = composite_from-parts is m k.composes

  pub makes-sound : Sound c
  makes-sound =
      subst⁻¹ Sound (e ∙ ap composite_as (sym of.meaning))
      (sound-of (subtype_of is) 0 (set_in is) (bodies_in (unit_types (set_in is)) is) (permitted-parts bs l m k))

  pub makes-bytes : composite_bytes c ≡ item_bytes (item_of m)
  makes-bytes =
      ap composite_bytes (e ∙ ap composite_as (sym of.meaning))
      ∙ code_of (subtype_of is) 0 (set_in is) (bodies_in (unit_types (set_in is)) is) (permitted-parts bs l m k)
      ∙ ap (λ (x : Meaning). item_bytes (item_of x)) of.meaning

-- ---- the verdict

by-refused : (k : ℕ) (a : Answer Meaning) (q : Refusal) (j : ℕ) → Err (with_detail j q) ≡ verdict_as k a → (a ≡ refuse q) × (k ≡ j)
by-refused k (accept m) q j e = let z : ◌≡◌ {A = ℕ} 0 1 = cc in absurd (omega arith)
by-refused k (refuse p) q j e = let s : with_detail j q ≡ with_detail k p = cc in (ap (λ (d : DetailedRefusal). refuse d.refusal) (sym s), ap (λ (d : DetailedRefusal). d.detail) (sym s))

by-composite : (k : ℕ) (a : Answer Meaning) → Ok tt ≡ verdict_as k a → (m : Meaning) × (a ≡ accept m)
by-composite k (accept m) e = (m, refl)
by-composite k (refuse p) e = let z : ◌≡◌ {A = ℕ} 0 1 = cc in absurd (omega arith)

composed_bytes-is : (bs : List ℕ) (is : List Item) (m : Meaning) → read_items bs ≡ accept is → composite_from is ≡ accept m → composed_bytes bs ≡ accept (item_bytes (item_of m))
unfolding composed_bytes
composed_bytes-is bs is m e f = rw (e, f)

module _ (bs : List ℕ) (l : Summary) (i : Listed bs l) {v : Verdict} (ev : v ≡ decided l) where
  verdict-is : v ≡ verdict_of i.items
  verdict-is = ev ∙ decided-is bs i.items l i.summary

  pub verdict-refuses : (q : Refusal) (j : ℕ) → v ≡ Err (with_detail j q) → (composed_bytes bs ≡ refuse q) × (verdict_detail i.items ≡ j)
  unfolding composed_bytes verdict_of
  verdict-refuses q j e =
      let r = by-refused (verdict_detail i.items) (composite_from i.items) q j (sym e ∙ verdict-is) in
      (rw (i.read, r.0), r.1)

  pub verdict-makes : Below 256 bs → v ≡ Ok tt → (m : Meaning) × Makes bs l m × (composed_bytes bs ≡ accept (item_bytes (item_of m)))
  unfolding composed_bytes verdict_of
  verdict-makes b e =
      let r = by-composite (verdict_detail i.items) (composite_from i.items) (sym e ∙ verdict-is) in (
        r.0,
        record { items = i.items; summary = i.summary; composes = r.1; permitted = composite_from-permitted i.items r.0 (items-read bs i.items b i.read).permitted r.1 },
        composed_bytes-is bs i.items r.0 i.read r.1,
      )

-- ---- what the list reader tells

items-told : (k : ℕ) (x : Answer (List Item)) {a : Reading} → a ≡ reading_as k x → a ≡ Ok tt → (is : List Item) × (x ≡ accept is)
items-told k (accept is) e f = (is, refl)
items-told k (refuse q) e f = let z : ◌≡◌ {A = ℕ} 0 1 = cc in absurd (omega arith)

refusal-told : (k : ℕ) (x : Answer (List Item)) {a : Reading} (q : Refusal) (j : ℕ) → a ≡ reading_as k x → a ≡ Err (with_detail j q) → (x ≡ refuse q) × (k ≡ j)
refusal-told k (accept is) q j e f = let z : ◌≡◌ {A = ℕ} 0 1 = cc in absurd (omega arith)
refusal-told k (refuse p) q j e f = let s : with_detail k p ≡ with_detail j q = cc in (ap (λ (d : DetailedRefusal). refuse d.refusal) s, ap (λ (d : DetailedRefusal). d.detail) s)

module _ (bs : List ℕ) {a : Reading} (ea : a ≡ reading_as (refused_index bs) (read_items bs)) where
  pub listed_of : (l : Summary) → Summarizes bs (leading_items bs) l → a ≡ Ok tt → Listed bs l
  listed_of l f e =
      let r = items-told (refused_index bs) (read_items bs) ea e in
      record { items = r.0; read = r.1; summary = subst (λ (is : List Item). Summarizes bs is l) (leading-all bs r.0 r.1) f }

  pub read-refused : (q : Refusal) (j : ℕ) → a ≡ Err (with_detail j q) → (read_items bs ≡ refuse q) × (refused_index bs ≡ j)
  read-refused q j e = refusal-told (refused_index bs) (read_items bs) q j ea e

-- ---- join

pub join-refused : (bs : List ℕ) (q : Refusal) → read_items bs ≡ refuse q → joined_bytes bs ≡ refuse q
unfolding joined_bytes
join-refused bs q e = rw e

-- a list has one item, or more
pub one-or-more : (bs : List ℕ) (is : List Item) (P : List Item → Type 0) → read_items bs ≡ accept is → ((i : Item) → is ≡ i ∷ [] → P (i ∷ [])) → ((i j : Item) (js : List Item) → is ≡ i ∷ j ∷ js → P (i ∷ j ∷ js)) → P is
one-or-more bs [] P e f g = absurd (not-suc-le-zero (some-items bs [] e))
one-or-more bs (i ∷ []) P e f g = f i refl
one-or-more bs (i ∷ j ∷ js) P e f g = g i j js refl

single-by : (l : Summary) (i : Item) → l.not_joinable ≡ breaker joinable (i ∷ []) → ◌≡◌ {A = Answer Meaning} (joinable i otherwise not_joinable >> refuse lacks_data_or_instance) (refuse (single_refusal l))
unfolding single_refusal every
single-by l i e = rw e (go (joinable i))
  where
    go : (b : Bool) → ◌≡◌ {A = Answer Meaning} (b otherwise not_joinable >> refuse lacks_data_or_instance) (refuse (cond (is_some (cond (b && true) None (Some (first_not joinable (i ∷ []))))) not_joinable lacks_data_or_instance))
    go true = refl
    go false = refl

module _ (bs : List ℕ) (l : Summary) (i : Listed bs l) where
  pub joins-one : l.count < 2 → joined_bytes bs ≡ refuse (single_refusal l)
  unfolding joined_bytes joined_meaning
  joins-one h =
      rw i.read
      (one-or-more bs i.items (λ is. length is < 2 → l.not_joinable ≡ breaker joinable is → (joined_meaning is >>= λ m. accept (item_bytes (item_of m))) ≡ refuse (single_refusal l)) i.read
      (λ x q c n. rw (single-by l x n))
      (λ x y ys q c n. absurd (omega arith))
      (omega (arith, i.summary.count)) i.summary.not_joinable)

  pub joins-more : 2 ≤ l.count → joined_bytes bs ≡ composed_bytes bs
  unfolding joined_bytes composed_bytes
  joins-more h = rw (i.read, joined-two i.items (omega (arith, i.summary.count)))
