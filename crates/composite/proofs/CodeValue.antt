-- A code that was written to an area, and the same code by value.
use Rattle.iscc.specs.Detailed.{with_detail, plain}
use Rattle.iscc.specs.declared.refusal.DetailedRefusal.{DetailedRefusal}
use Rattle.std.specs.Prelude.{Ok, Err}
use Prim.Native.Nat.{ℕ, ◌≤◌, ◌<◌}
use mathlib.Core.Path.{◌≡◌, refl, ap}
use mathlib.Core.Bool.{true, false}
use mathlib.Core.List.{List, ◌++◌}
use native.Mathlib.Omega.{arith}
use lib.Dec.{leb}
use lib.ListN.{length, drop, replicate}
use borrow.Author.Tests.{le-leb, lt-leb}
use Rattle.iscc.specs.Refusals.{Refusal, area_too_short}
use Rattle.iscc.specs.Answer.{Answer, accept, refuse, into, area_after}
use Rattle.iscc.specs.Items.{read_items}
use Rattle.iscc.specs.Representation.{written_as, code_read_as}
use Rattle.iscc.specs.Representation.{CodeRead}
use Rattle.iscc.specs.Representation.{Written}
use Rattle.iscc.proofs.Codes.{code-value}
use Rattle.units.specs.declared.summary.Summary.{Summary}
use Rattle.units.specs.Reading.{refused_index}
use Rattle.units.specs.Verdict.{verdict_detail}
use Rattle.composite.specs.Joined.{Listed, composed_bytes}
use Rattle.composite.specs.Canonical.{canonical_bytes, detail_of, coded_as, coded_into}
use Rattle.composite.specs.Canonical.{Coded}

-- ---- written to an area: x is what was to be written, k the detail of its refusal, d the area before

module _ (k : ℕ) (x : Answer (List ℕ)) (d : List ℕ) where
  abbrev pub Answers : Coded → List ℕ → Type 0
  Answers r a = (r ≡ coded_into (length d) k x) × (a ≡ area_after (into (length d) x) d)

  pub none-coded : (q : Refusal) (j : ℕ) → x ≡ refuse q → k ≡ j → Answers (Err (with_detail j q)) d
  none-coded q j e f = rw (e, f) (refl, refl)

  module _ (out : List ℕ) (e : x ≡ accept out) where
    pub short-coded : length d < length out → Answers (Err (with_detail 0 area_too_short)) d
    short-coded h = let s : leb (length out) (length d) ≡ false = lt-leb (length out) (length d) h in rw (e, s) (refl, refl)

    pub all_coded : (a : List ℕ) → length out ≤ length d → a ≡ out ++ drop (length out) d → Answers (Ok (length out)) a
    all_coded a h f = let s : leb (length out) (length d) ≡ true = le-leb (length out) (length d) h in rw (e, s) (refl, f)

    -- told by a writer, w, whose refusal tells nothing more
    pub written-coded : (w : Written) (n : ℕ) → w ≡ written_as (into (length d) (accept out)) → w ≡ Ok n → ◌≡◌ {A = Coded} (Ok n) (coded_into (length d) k x)
    written-coded w n f g = rw e (told (into (length d) (accept out)) f)
      where
        told : (y : Answer (List ℕ)) → w ≡ written_as y → Ok n ≡ coded_as 0 y
        told (accept o) f = let l : n ≡ length o = cc in ap Ok l
        told (refuse p) f = cc

    pub refused-coded : (w : Written) (q : Refusal) → w ≡ written_as (into (length d) (accept out)) → w ≡ Err q → Err (with_detail 0 q) ≡ coded_into (length d) k x
    refused-coded w q f g = rw e (told (into (length d) (accept out)) f)
      where
        told : (y : Answer (List ℕ)) → w ≡ written_as y → Err (with_detail 0 q) ≡ coded_as 0 y
        told (accept o) f = cc
        told (refuse p) f = let o : q ≡ p = cc in ap (λ (z : Refusal). Err (with_detail 0 z)) o

    pub written-area : (a : List ℕ) → a ≡ area_after (into (length d) (accept out)) d → a ≡ area_after (into (length d) x) d
    written-area a f = rw e f

  -- the same as a writer's answer
  pub coded-length : (r : Coded) (n : ℕ) → r ≡ coded_into (length d) k x → r ≡ Ok n → Ok n ≡ written_as (into (length d) x)
  coded-length r n e f = go x e
    where
      by : (y : Answer (List ℕ)) → r ≡ coded_as 0 y → Ok n ≡ written_as y
      by (accept o) g = let l : n ≡ length o = cc in ap Ok l
      by (refuse p) g = let o : ◌≡◌ {A = ℕ} 0 1 = cc in absurd (omega arith)

      go : (y : Answer (List ℕ)) → r ≡ coded_into (length d) k y → Ok n ≡ written_as (into (length d) y)
      go (accept out) g = by (into (length d) (accept out)) g
      go (refuse p) g = let o : ◌≡◌ {A = ℕ} 0 1 = cc in absurd (omega arith)

  pub coded-refused : (r : Coded) (f : DetailedRefusal) → r ≡ coded_into (length d) k x → r ≡ Err f → Err (plain f) ≡ written_as (into (length d) x)
  coded-refused r f e g = go x e
    where
      same : (y : DetailedRefusal) → r ≡ Err y → plain f ≡ plain y
      same y h = let s : f ≡ y = cc in ap plain s

      by : (y : Answer (List ℕ)) → r ≡ coded_as 0 y → Err (plain f) ≡ written_as y
      by (accept o) h = cc
      by (refuse p) h = ap Err (same (with_detail 0 p) h)

      go : (y : Answer (List ℕ)) → r ≡ coded_into (length d) k y → Err (plain f) ≡ written_as (into (length d) y)
      go (accept out) h = by (into (length d) (accept out)) h
      go (refuse p) h = ap Err (same (with_detail k p) h)

-- what is refused of a list, and of bytes that hold none
pub broken-coded : (bs d : List ℕ) (l : Summary) (i : Listed bs l) (q : Refusal) (j : ℕ) → (composed_bytes bs ≡ refuse q) × (verdict_detail i.items ≡ j)
    → Answers (detail_of bs) (composed_bytes bs) d (Err (with_detail j q)) d
unfolding detail_of
broken-coded bs d l i q j e = rw i.read (none-coded (verdict_detail i.items) (composed_bytes bs) d q j e.0 e.1)

pub unread-coded : (bs d : List ℕ) (q : Refusal) (j : ℕ) → (read_items bs ≡ refuse q) × (refused_index bs ≡ j)
    → Answers (detail_of bs) (canonical_bytes bs) d (Err (with_detail j q)) d
unfolding detail_of canonical_bytes
unread-coded bs d q j e = rw (e.0, e.1) (refl, refl)

-- ---- by value: 42 bytes are room for each code

module _ (k : ℕ) (w : Coded) where
  pub area-value : (x : Answer (List ℕ)) → ((out : List ℕ) → x ≡ accept out → length out ≤ 42) → (n : ℕ) (a : List ℕ) → w ≡ coded_into 42 k x
      → a ≡ area_after (into 42 x) (replicate 42 0) → w ≡ Ok n → ◌≡◌ {A = CodeRead} (Ok (record { bytes = a; length = n })) (code_read_as k x)
  area-value (accept out) m n a e f g =
      let s : leb (length out) 42 ≡ true = le-leb (length out) 42 (m out refl) in
      let e' : w ≡ Ok (length out) = rw s at e in
      let f' : a ≡ area_after (accept out) (replicate 42 0) = rw s at f in
      let l : n ≡ length out = cc in
      ap Ok (code-value out a n f' l)
  area-value (refuse q) m n a e f g = cc

  pub none-value : (x : Answer (List ℕ)) → ((out : List ℕ) → x ≡ accept out → length out ≤ 42) → (f : DetailedRefusal) → w ≡ coded_into 42 k x → w ≡ Err f
      → ◌≡◌ {A = CodeRead} (Err f) (code_read_as k x)
  none-value (accept out) m f e g =
      let s : leb (length out) 42 ≡ true = le-leb (length out) 42 (m out refl) in
      let e' : w ≡ Ok (length out) = rw s at e in
      cc
  none-value (refuse p) m f e g = let s : f ≡ with_detail k p = cc in ap Err s
