-- A log that is cut anywhere, and a log with another behind it.
use Prim.Native.Nat.{ℕ, zero, suc, ◌+◌, ◌-◌, ◌≤◌, ◌<◌}
use mathlib.Core.Path.{◌≡◌, refl, sym, ◌∙◌, ap, ap₂}
use mathlib.Core.Bool.{Bool, true, false}
use mathlib.Core.Option.{none}
use mathlib.Core.List.{List, [], ◌∷◌, ◌++◌, append-nil}
use native.Mathlib.Nat.{not-suc-le-zero, le_refl}
use native.Mathlib.Omega.{arith}
use lib.ListN.{length, take, drop, length-append, length-drop}
use lib.Seq.{take-append_seam, drop-append_seam, drop-append-le}
use lib.Dec.{leb}
use borrow.Author.Tests.{le-leb, leb-true, lt-leb, leb-false, eq-eqb, ne_eqb}
use Rattle.iscc.proofs.Parts.{drop-take}
use Rattle.loans.specs.Fields.{Field, field_bytes, first_size, first_is_whole, first_field}
use Rattle.loans.specs.Log.{Record, Records, with_record, tear_at, records_from}
use Rattle.loans.specs.Tears.{end_of_record, ending_by, end_of_all, tear_behind}
use Rattle.loans.proofs.Fields.{size_of, whole_of, field_of, size-least, whole-size, size-body, whole-cut, size-cut, field_cut, rest-cut, nil-torn, none_left, records-torn, records-whole}

-- ---- a cut log: the whole fields that end by the cut, and a tear where the next one starts, unless the cut is there

abbrev pub cut_records : ℕ → ℕ → List Record → Records
cut_records offset cut es = record { whole = ending_by cut es; tear = tear_behind (end_of_all offset (ending_by cut es)) cut }

cut-cons : (offset k : ℕ) (e : Record) (es : List Record) → leb (end_of_record e) k ≡ true → cut_records offset k (e ∷ es) ≡ with_record e (cut_records (end_of_record e) k es)
unfolding ending_by end_of_all
cut-cons offset k e es q = rw q

module _ (offset : ℕ) (bs : List ℕ) (k : ℕ) (l : k ≤ length bs) where
  tear-cut : tear_at offset (take k bs) ≡ tear_behind offset (offset + k)
  tear-cut = go bs k l
    where
      go : (bs : List ℕ) (k : ℕ) → k ≤ length bs → tear_at offset (take k bs) ≡ tear_behind offset (offset + k)
      go bs zero h = rw (eq-eqb (offset + 0) offset (omega arith))
      go [] (suc k) h = absurd (not-suc-le-zero h)
      go (b ∷ bs) (suc k) h = rw (ne_eqb (offset + suc k) offset (λ e. omega arith))

  -- nothing whole before the cut
  cut-none : (es : List Record) → first_is_whole (take k bs) ≡ false → ending_by (offset + k) es ≡ [] → records_from offset (take k bs) ≡ cut_records offset (offset + k) es
  unfolding end_of_all
  cut-none es w e = records-torn offset (take k bs) w ∙ rw (e, tear-cut)

  cut-torn : first_is_whole bs ≡ false → records_from offset (take k bs) ≡ cut_records offset (offset + k) (records_from offset bs).whole
  unfolding first_is_whole ending_by
  cut-torn w =
      let h : length bs < first_size bs = leb-false (first_size bs) (length bs) w in
      let e : (records_from offset bs).whole ≡ [] = ap (λ (x : Records). x.whole) (records-torn offset bs w) in
      let c : first_is_whole (take k bs) ≡ false = whole-cut bs k l ∙ lt-leb (first_size bs) k (omega arith) in
      cut-none (records_from offset bs).whole c (ap (ending_by (offset + k)) e)

  module _ (w : first_is_whole bs ≡ true) where
    first : Record
    first = record { offset = offset; field = first_field bs }

    others : Records
    others = records_from (offset + first_size bs) (drop (first_size bs) bs)

    first-end : end_of_record first ≡ offset + first_size bs
    unfolding first
    first-end = ap (λ (j : ℕ). offset + j) (sym (size-body bs w))

    all_whole : (records_from offset bs).whole ≡ first ∷ others.whole
    unfolding first others
    all_whole = ap (λ (x : Records). x.whole) (records-whole offset bs w)

    cut_short : k < first_size bs → records_from offset (take k bs) ≡ cut_records offset (offset + k) (records_from offset bs).whole
    unfolding ending_by
    cut_short h =
        let c : first_is_whole (take k bs) ≡ false = whole-cut bs k l ∙ lt-leb (first_size bs) k h in
        let q : leb (end_of_record first) (offset + k) ≡ false = lt-leb (end_of_record first) (offset + k) (omega (arith, first-end)) in
        cut-none (records_from offset bs).whole c (ap (ending_by (offset + k)) all_whole ∙ rw q)

    cut-more : first_size bs ≤ k
        → records_from (offset + first_size bs) (take (k - first_size bs) (drop (first_size bs) bs)) ≡ cut_records (offset + first_size bs) (offset + first_size bs + (k - first_size bs)) others.whole
        → records_from offset (take k bs) ≡ cut_records offset (offset + k) (records_from offset bs).whole
    unfolding first
    cut-more h ih =
        let c : first_is_whole (take k bs) ≡ true = whole-cut bs k l ∙ le-leb (first_size bs) k h in
        let s : first_size (take k bs) ≡ first_size bs = size-cut bs k l (omega (arith, size-least bs)) in
        let p : offset + first_size bs + (k - first_size bs) ≡ offset + k = omega arith in
        let q : leb (end_of_record first) (offset + k) ≡ true = le-leb (end_of_record first) (offset + k) (omega (arith, first-end)) in
        let ih' : records_from (offset + first_size bs) (take (k - first_size bs) (drop (first_size bs) bs)) ≡ cut_records (end_of_record first) (offset + k) others.whole =
        ih ∙ ap₂ (λ (i j : ℕ). cut_records i j others.whole) (sym first-end) p in
        records-whole offset (take k bs) c
        ∙ rw (field_cut bs k l h, rest-cut bs k l h, s) (ap (with_record first) ih')
        ∙ sym (cut-cons offset (offset + k) first others.whole q) ∙ ap (cut_records offset (offset + k)) (sym all_whole)

cut-up-to : (n offset : ℕ) (bs : List ℕ) (k : ℕ) → length bs ≤ n → k ≤ length bs → records_from offset (take k bs) ≡ cut_records offset (offset + k) (records_from offset bs).whole
unfolding others
cut-up-to zero offset bs k g l = cut-torn offset bs k l (ap first_is_whole (none_left bs g) ∙ nil-torn)
cut-up-to (suc n) offset bs k g l = go (first_is_whole bs) refl (leb (first_size bs) k) refl (cut-up-to n (offset + first_size bs) (drop (first_size bs) bs) (k - first_size bs))
  where
    go : (b : Bool) → first_is_whole bs ≡ b → (d : Bool) → leb (first_size bs) k ≡ d
        → (length (drop (first_size bs) bs) ≤ n → k - first_size bs ≤ length (drop (first_size bs) bs)
        → records_from (offset + first_size bs) (take (k - first_size bs) (drop (first_size bs) bs)) ≡ cut_records (offset + first_size bs) (offset + first_size bs + (k - first_size bs)) (records_from (offset + first_size bs) (drop (first_size bs) bs)).whole)
        → records_from offset (take k bs) ≡ cut_records offset (offset + k) (records_from offset bs).whole
    go false w d v ih = cut-torn offset bs k l w
    go true w false v ih = cut_short offset bs k l w (leb-false (first_size bs) k v)
    go true w true v ih =
        let z = size-least bs in
        cut-more offset bs k l w (leb-true (first_size bs) k v) (ih (simp length-drop (omega arith)) (simp length-drop (omega arith)))

-- for ANY log and ANY cut of it
pub cut-anywhere : (offset : ℕ) (bs : List ℕ) (k : ℕ) → k ≤ length bs → records_from offset (take k bs) ≡ cut_records offset (offset + k) (records_from offset bs).whole
cut-anywhere offset bs k l = cut-up-to (length bs) offset bs k (le_refl (length bs)) l

-- ---- a log and then another

abbrev pub joined_records : List Record → Records → Records
joined_records es fs = record { whole = es ++ fs.whole; tear = fs.tear }

no-tear : (offset : ℕ) (bs : List ℕ) → tear_at offset bs ≡ none → bs ≡ []
no-tear offset [] e = refl
no-tear offset (b ∷ bs) e = let z : ◌≡◌ {A = ℕ} 0 1 = cc in absurd (omega arith)

module _ (offset : ℕ) (bs xs : List ℕ) (w : first_is_whole bs ≡ true) where
  bound : length bs ≤ length (bs ++ xs)
  bound = simp length-append (omega arith)

  least : 3 ≤ length bs
  least = omega (arith, size-least bs, whole-size bs w)

  same_size : first_size (bs ++ xs) ≡ first_size bs
  same_size = sym (size-cut (bs ++ xs) (length bs) bound least) ∙ ap first_size (take-append_seam bs xs)

  same-field : first_field (bs ++ xs) ≡ first_field bs
  same-field = sym (field_cut (bs ++ xs) (length bs) bound (omega (arith, same_size, whole-size bs w))) ∙ ap first_field (take-append_seam bs xs)

  still-whole : first_is_whole (bs ++ xs) ≡ true
  unfolding first_is_whole
  still-whole = le-leb (first_size (bs ++ xs)) (length (bs ++ xs)) (omega (arith, same_size, whole-size bs w, bound))

  more-whole : records_from offset (bs ++ xs) ≡ with_record (record { offset = offset; field = first_field bs }) (records_from (offset + first_size bs) (drop (first_size bs) bs ++ xs))
  more-whole = records-whole offset (bs ++ xs) still-whole ∙ rw (same_size, same-field, drop-append-le (first_size bs) bs xs (whole-size bs w))

append-nothing : (offset : ℕ) (bs xs : List ℕ) → first_is_whole bs ≡ false → (records_from offset bs).tear ≡ none
    → records_from offset (bs ++ xs) ≡ joined_records (records_from offset bs).whole (records_from (offset + length bs) xs)
append-nothing offset bs xs w t =
    let e = records-torn offset bs w in
    let b : bs ≡ [] = no-tear offset bs (sym (ap (λ (x : Records). x.tear) e) ∙ t) in
    let a : offset + 0 ≡ offset = omega arith in
    rw (e, b, a)

append-up-to : (n offset : ℕ) (bs xs : List ℕ) → length bs ≤ n → (records_from offset bs).tear ≡ none
    → records_from offset (bs ++ xs) ≡ joined_records (records_from offset bs).whole (records_from (offset + length bs) xs)
append-up-to zero offset bs xs g t = append-nothing offset bs xs (ap first_is_whole (none_left bs g) ∙ nil-torn) t
append-up-to (suc n) offset bs xs g t = go (first_is_whole bs) refl (append-up-to n (offset + first_size bs) (drop (first_size bs) bs) xs)
  where
    go : (b : Bool) → first_is_whole bs ≡ b
        → (length (drop (first_size bs) bs) ≤ n → (records_from (offset + first_size bs) (drop (first_size bs) bs)).tear ≡ none
        → records_from (offset + first_size bs) (drop (first_size bs) bs ++ xs)
        ≡ joined_records (records_from (offset + first_size bs) (drop (first_size bs) bs)).whole (records_from (offset + first_size bs + length (drop (first_size bs) bs)) xs))
        → records_from offset (bs ++ xs) ≡ joined_records (records_from offset bs).whole (records_from (offset + length bs) xs)
    go false w ih = append-nothing offset bs xs w t
    go true w ih =
        let e = records-whole offset bs w in
        let s = whole-size bs w in
        let z = size-least bs in
        let d : length (drop (first_size bs) bs) ≡ length bs - first_size bs = length-drop (first_size bs) bs in
        let p : offset + first_size bs + length (drop (first_size bs) bs) ≡ offset + length bs = omega arith in
        more-whole offset bs xs w ∙ rw (ih (omega arith) (sym (ap (λ (x : Records). x.tear) e) ∙ t), e, p)

pub records-append : (offset : ℕ) (bs xs : List ℕ) → (records_from offset bs).tear ≡ none
    → records_from offset (bs ++ xs) ≡ joined_records (records_from offset bs).whole (records_from (offset + length bs) xs)
records-append offset bs xs t = append-up-to (length bs) offset bs xs (le_refl (length bs)) t

pub records-one : (offset : ℕ) (f : Field) → length f.body < 65536
    → records_from offset (field_bytes f) ≡ record { whole = record { offset = offset; field = f } ∷ []; tear = none }
records-one offset f h = ap (records_from offset) (sym (append-nil (field_bytes f))) ∙ records-whole offset (field_bytes f ++ []) (whole_of f [] h)
    ∙ rw (field_of f [] h, size_of f [] h, drop-append_seam (field_bytes f) [], records-torn (offset + length (field_bytes f)) [] nil-torn)

-- the first record's bytes, and then any others
pub first_then : (offset : ℕ) (bs xs : List ℕ) → first_is_whole bs ≡ true
    → records_from offset (take (first_size bs) bs ++ xs) ≡ with_record (record { offset = offset; field = first_field bs }) (records_from (offset + first_size bs) xs)
first_then offset bs xs w =
    let l : first_size bs ≤ length bs = whole-size bs w in
    let z : first_size bs - first_size bs ≡ 0 = omega arith in
    let s : first_size (take (first_size bs) bs) ≡ first_size bs = size-cut bs (first_size bs) l (size-least bs) in
    let d : drop (first_size bs) (take (first_size bs) bs) ≡ [] = drop-take (first_size bs) (first_size bs) bs ∙ rw z in
    more-whole offset (take (first_size bs) bs) xs (whole-cut bs (first_size bs) l ∙ le-leb (first_size bs) (first_size bs) (le_refl (first_size bs)))
    ∙ rw (s, field_cut bs (first_size bs) l (le_refl (first_size bs)), d)
