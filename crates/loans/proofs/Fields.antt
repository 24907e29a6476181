-- A log as whole fields: one written and read back, and the records field by field.
use Prim.Native.Nat.{ℕ, zero, suc, ◌+◌, ◌-◌, ◌≤◌, ◌<◌}
use mathlib.Core.Path.{◌≡◌, refl, sym, ◌∙◌, ap}
use mathlib.Core.Bool.{Bool, true, false, cond}
use mathlib.Core.List.{List, [], ◌∷◌, ◌++◌, append_assoc}
use native.Mathlib.Nat.{mod-eq_of_lt, not-suc-le-zero, le_refl}
use native.Mathlib.Omega.{arith}
use lib.ListN.{length, get_or, take, drop, length-append, length-drop}
use lib.Seq.{take-append_seam, take_at, drop_at, take-take, length-take-le, get_or-take}
use lib.Dec.{leb}
use borrow.Author.Tests.{le-leb, leb-true, lt-leb, leb-false}
use Rattle.iscc.specs.Digits.{digits, value, Below}
use Rattle.iscc.proofs.Digits.{length_digits, value-digits, below-take, below-drop}
use Rattle.loans.specs.Fields.{Field, field_bytes, first_size, first_is_whole, first_field}
use Rattle.loans.specs.Log.{Record, Records, with_record, tear_at, records_up_to, records_from}
use Rattle.iscc.proofs.Parts.{drop-take}

-- ---- one field, written and read back

pub length-field : (f : Field) → length (field_bytes f) ≡ 3 + length f.body
unfolding field_bytes
length-field f = let d = length_digits 8 2 (length f.body) in simp length-append (omega arith)

module _ (f : Field) (rest : List ℕ) (h : length f.body < 65536) where
  head-back : value 8 (take 2 (digits 8 2 (length f.body) ++ f.body ++ rest)) ≡ length f.body
  head-back =
      ap (λ (ds : List ℕ). value 8 (take 2 ds)) (append_assoc (digits 8 2 (length f.body)) f.body rest)
      ∙ ap (value 8) (take_at (digits 8 2 (length f.body)) (f.body ++ rest) 2 (length_digits 8 2 (length f.body)))
      ∙ value-digits 8 2 (length f.body) ∙ mod-eq_of_lt h

  body_back : take (length f.body) (drop 2 (digits 8 2 (length f.body) ++ f.body ++ rest)) ≡ f.body
  body_back =
      ap (λ (ds : List ℕ). take (length f.body) (drop 2 ds)) (append_assoc (digits 8 2 (length f.body)) f.body rest)
      ∙ ap (take (length f.body)) (drop_at (digits 8 2 (length f.body)) (f.body ++ rest) 2 (length_digits 8 2 (length f.body)))
      ∙ take-append_seam f.body rest

  pub size_of : first_size (field_bytes f ++ rest) ≡ length (field_bytes f)
  unfolding first_size field_bytes
  size_of = rw head-back (sym (length-field f))

  pub whole_of : first_is_whole (field_bytes f ++ rest) ≡ true
  unfolding first_is_whole
  whole_of =
      let s = size_of in
      let l = length-append (field_bytes f) rest in
      le-leb (first_size (field_bytes f ++ rest)) (length (field_bytes f ++ rest)) (omega arith)

  pub field_of : first_field (field_bytes f ++ rest) ≡ f
  unfolding first_field field_bytes
  field_of = rw (head-back, body_back)

pub size-least : (bs : List ℕ) → 3 ≤ first_size bs
unfolding first_size
size-least bs = omega arith

pub whole-size : (bs : List ℕ) → first_is_whole bs ≡ true → first_size bs ≤ length bs
unfolding first_is_whole
whole-size bs e = leb-true (first_size bs) (length bs) e

-- the size is that of the field read
pub size-body : (bs : List ℕ) → first_is_whole bs ≡ true → first_size bs ≡ 3 + length (first_field bs).body
unfolding first_size first_field first_is_whole
size-body bs e =
    let l : first_size bs ≤ length bs = whole-size bs e in
    let d : length (drop 3 bs) ≡ length bs - 3 = length-drop 3 bs in
    let t = length-take-le (value 8 (take 2 (drop 1 bs))) (drop 3 bs) (omega arith) in
    omega arith

-- ---- a log that is cut

module _ (bs : List ℕ) (k : ℕ) (l : k ≤ length bs) where
  module _ (h : 3 ≤ k) where
    head-cut : take 2 (drop 1 (take k bs)) ≡ take 2 (drop 1 bs)
    head-cut =
        ap (take 2) (drop-take 1 k bs) ∙ take-take 2 (k - 1) (drop 1 bs) (omega arith)

    pub size-cut : first_size (take k bs) ≡ first_size bs
    unfolding first_size
    size-cut = ap (λ (ds : List ℕ). 3 + value 8 ds) head-cut

  pub whole-cut : first_is_whole (take k bs) ≡ leb (first_size bs) k
  unfolding first_is_whole
  whole-cut =
      let n : length (take k bs) ≡ k = length-take-le k bs l in
      rw n (go (leb 3 k) refl)
    where
      go : (b : Bool) → leb 3 k ≡ b → leb (first_size (take k bs)) k ≡ leb (first_size bs) k
      go true e = rw (size-cut (leb-true 3 k e))
      go false e =
          let w : k < 3 = leb-false 3 k e in
          lt-leb (first_size (take k bs)) k (omega (arith, size-least (take k bs))) ∙ sym (lt-leb (first_size bs) k (omega (arith, size-least bs)))

  module _ (h : first_size bs ≤ k) where
    pub field_cut : first_field (take k bs) ≡ first_field bs
    unfolding first_field first_size
    field_cut =
        let hc = head-cut (omega arith) in
        let b : take (value 8 (take 2 (drop 1 bs))) (drop 3 (take k bs)) ≡ take (value 8 (take 2 (drop 1 bs))) (drop 3 bs) =
        ap (take (value 8 (take 2 (drop 1 bs)))) (drop-take 3 k bs)
        ∙ take-take (value 8 (take 2 (drop 1 bs))) (k - 3) (drop 3 bs) (omega arith) in
        let t : get_or (take k bs) 0 0 ≡ get_or bs 0 0 = get_or-take k bs 0 0 (omega arith) in
        rw (t, hc, b)

    pub rest-cut : drop (first_size (take k bs)) (take k bs) ≡ take (k - first_size bs) (drop (first_size bs) bs)
    rest-cut =
        let s = size-cut (omega (arith, size-least bs)) in
        rw s (drop-take (first_size bs) k bs)

-- ---- the records, field by field

pub nil-torn : first_is_whole [] ≡ false
unfolding first_is_whole first_size value
nil-torn = refl

pub none_left : (bs : List ℕ) → length bs ≤ 0 → bs ≡ []
none_left [] h = refl
none_left (b ∷ bs) h = absurd (not-suc-le-zero h)

torn-at : (n offset : ℕ) (bs : List ℕ) → first_is_whole bs ≡ false → records_up_to n offset bs ≡ record { whole = []; tear = tear_at offset bs }
unfolding records_up_to
torn-at zero offset bs e = refl
torn-at (suc n) offset bs e = rw e

one : (n offset : ℕ) (bs : List ℕ) → first_is_whole bs ≡ true
    → records_up_to (suc n) offset bs ≡ with_record (record { offset = offset; field = first_field bs }) (records_up_to n (offset + first_size bs) (drop (first_size bs) bs))
unfolding records_up_to
one n offset bs e = rw e

-- the bound does not matter, once it is the length or more
fuel : (n m offset : ℕ) (bs : List ℕ) → length bs ≤ n → length bs ≤ m → records_up_to n offset bs ≡ records_up_to m offset bs
unfolding records_up_to
fuel zero m offset bs h g =
    let w : first_is_whole bs ≡ false = ap first_is_whole (none_left bs h) ∙ nil-torn in
    sym (torn-at m offset bs w)
fuel (suc n) zero offset bs h g =
    let w : first_is_whole bs ≡ false = ap first_is_whole (none_left bs g) ∙ nil-torn in
    torn-at (suc n) offset bs w
fuel (suc n) (suc m) offset bs h g = go (first_is_whole bs) refl (fuel n m (offset + first_size bs) (drop (first_size bs) bs))
  where
    e : Record
    e = record { offset = offset; field = first_field bs }

    x : Records
    x = records_up_to n (offset + first_size bs) (drop (first_size bs) bs)

    y : Records
    y = records_up_to m (offset + first_size bs) (drop (first_size bs) bs)

    go : (b : Bool) → first_is_whole bs ≡ b → (length (drop (first_size bs) bs) ≤ n → length (drop (first_size bs) bs) ≤ m → x ≡ y)
        → cond b (with_record e x) (record { whole = []; tear = tear_at offset bs }) ≡ cond b (with_record e y) (record { whole = []; tear = tear_at offset bs })
    go true w ih =
        let s = whole-size bs w in
        let z = size-least bs in
        ap (with_record e) (ih (simp length-drop (omega arith)) (simp length-drop (omega arith)))
    go false w ih = refl

pub records-torn : (offset : ℕ) (bs : List ℕ) → first_is_whole bs ≡ false → records_from offset bs ≡ record { whole = []; tear = tear_at offset bs }
unfolding records_from
records-torn offset bs e = torn-at (length bs) offset bs e

pub records-whole : (offset : ℕ) (bs : List ℕ) → first_is_whole bs ≡ true
    → records_from offset bs ≡ with_record (record { offset = offset; field = first_field bs }) (records_from (offset + first_size bs) (drop (first_size bs) bs))
unfolding records_from
records-whole offset bs w = fuel (length bs) (suc (length bs)) offset bs (le_refl (length bs)) (omega arith) ∙ step
  where
    s : first_size bs ≤ length bs
    s = whole-size bs w

    step : records_up_to (suc (length bs)) offset bs ≡ with_record (record { offset = offset; field = first_field bs }) (records_up_to (length (drop (first_size bs) bs)) (offset + first_size bs) (drop (first_size bs) bs))
    step = one (length bs) offset bs w ∙ ap (with_record (record { offset = offset; field = first_field bs }))
        (fuel (length bs) (length (drop (first_size bs) bs)) (offset + first_size bs) (drop (first_size bs) bs) (simp length-drop (omega arith)) (le_refl (length (drop (first_size bs) bs))))

-- ---- fields of a log of bytes are bytes

abbrev pub BytesIn : List Record → Type 0
BytesIn [] = Unit {0}
BytesIn (e ∷ es) = Below 256 e.field.body × BytesIn es

pub body_bytes : (bs : List ℕ) → Below 256 bs → Below 256 (first_field bs).body
unfolding first_field
body_bytes bs k = below-take 256 (value 8 (take 2 (drop 1 bs))) (drop 3 bs) (below-drop 256 3 bs k)

bytes-up-to : (n offset : ℕ) (bs : List ℕ) → Below 256 bs → BytesIn (records_up_to n offset bs).whole
unfolding records_up_to
bytes-up-to zero offset bs k = tt
bytes-up-to (suc n) offset bs k = go (first_is_whole bs) (bytes-up-to n (offset + first_size bs) (drop (first_size bs) bs) (below-drop 256 (first_size bs) bs k))
  where
    go : (b : Bool) → BytesIn (records_up_to n (offset + first_size bs) (drop (first_size bs) bs)).whole
        → BytesIn (cond b (with_record (record { offset = offset; field = first_field bs }) (records_up_to n (offset + first_size bs) (drop (first_size bs) bs))) (record { whole = []; tear = tear_at offset bs })).whole
    go true ih = (body_bytes bs k, ih)
    go false ih = tt

pub bytes-in : (offset : ℕ) (bs : List ℕ) → Below 256 bs → BytesIn (records_from offset bs).whole
unfolding records_from
bytes-in offset bs k = bytes-up-to (length bs) offset bs k
