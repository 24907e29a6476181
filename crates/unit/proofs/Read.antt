-- What the reader's tests say of `read_item`.
use Rattle.std.specs.Prelude.{Result, Ok, Err}
use Prim.Native.Nat.{ℕ, ◌+◌, ◌-◌, ◌≤◌, ◌<◌}
use mathlib.Core.Path.{◌≡◌, sym, ◌∙◌, ap}
use mathlib.Core.Bool.{Bool, true, false}
use mathlib.Core.List.{List}
use native.Mathlib.Omega.{arith}
use borrow.Author.Tests.{le-leb, lt-leb}
use lib.ListN.{length, take, drop, length-drop}
use lib.Seq.{length-take-le}
use Rattle.iscc.specs.Answer.{Answer, accept, refuse}
use Rattle.iscc.specs.Refusals.{Refusal, not_permitted, short_body}
use Rattle.iscc.specs.Varnibble.{Parsed}
use Rattle.iscc.specs.Header.{read_header}
use Rattle.iscc.specs.Permitted.{MainType, main_type_of, permits, body_bytes}
use Rattle.iscc.specs.Item.{Item, read_item}
use Rattle.iscc.specs.Representation.{result_of}
use Rattle.iscc.proofs.Answer.{result-accepted, result-refused}
use Rattle.iscc.proofs.Permitted.{small}
use Rattle.header.specs.declared.reader.RawHeader.{RawHeader}
use Rattle.header.specs.Representation.{HeaderRead, header_read_as}
use Rattle.header.proofs.Bounds.{parsed_from, read_as}
use Rattle.unit.specs.Representation.{UnitRead, unit_read_as, unit_fields, item_fields_of}

-- a permitted header's length number is small
pub length-small : (m : MainType) (s v l : ℕ) {p : Bool} → p ≡ permits m s v l → p ≡ true → l ≤ 7
length-small m s v l e z = (small m s v l (sym e ∙ z)).length_number

pub known-length : (n : ℕ) {a : Result MainType Refusal} (m : MainType) (s v l : ℕ) {p : Bool} → a ≡ result_of (main_type_of n) → a ≡ Ok m
    → p ≡ permits m s v l → p ≡ true → l ≤ 7
known-length n m s v l e f g z = length-small m s v l g z

-- what the answer tells is what the definition's answer tells
pub fields_told : (r : UnitRead) (x : Answer (Parsed Item)) → r ≡ unit_read_as x → unit_fields r ≡ item_fields_of x
unfolding item_fields_of
fields_told r (accept g) e = ap unit_fields e
fields_told r (refuse q) e = ap unit_fields e

module _ (bs : List ℕ) {a : HeaderRead} (ea : a ≡ header_read_as (read_header bs)) where
  pub header-there : {h : RawHeader} → a ≡ Ok h → header_read_as (read_header bs) ≡ Ok h
  header-there e = sym ea ∙ e

  pub header-bad : {q : Refusal} → a ≡ Err q → Err q ≡ unit_read_as (read_item bs)
  unfolding read_item
  header-bad {q} e = rw (header-refused (read_header bs) q (sym ea ∙ e))
    where
      header-refused : (r : Answer _) (q : Refusal) → header_read_as r ≡ Err q → r ≡ refuse q
      header-refused (accept g) q e = cc
      header-refused (refuse p) q e = let s : p ≡ q = cc in ap refuse s

-- the reader's cases
module _ (bs : List ℕ) (h : RawHeader) (e : header_read_as (read_header bs) ≡ Ok h) {a : Result MainType Refusal} (ea : a ≡ result_of (main_type_of h.header.main_type)) where
  abbrev s : ℕ
  s = h.header.subtype

  abbrev v : ℕ
  v = h.header.version

  abbrev l : ℕ
  l = h.header.length_number

  header_is : read_header bs ≡ accept (parsed_from h)
  header_is = read_as (read_header bs) h e

  pub item-type : (q : Refusal) → a ≡ Err q → Err q ≡ unit_read_as (read_item bs)
  unfolding read_item
  item-type q f = rw (header_is, result-refused (main_type_of h.header.main_type) q (sym ea ∙ f))

  module _ (m : MainType) (em : a ≡ Ok m) {p : Bool} (ep : p ≡ permits m s v l) where
    type-is : main_type_of h.header.main_type ≡ accept m
    type-is = result-accepted (main_type_of h.header.main_type) m (sym ea ∙ em)

    -- what `body_bytes` asks
    pub item-length : p ≡ true → l ≤ 7
    item-length z = length-small m s v l ep z

    pub item-bad : p ≡ false → Err not_permitted ≡ unit_read_as (read_item bs)
    unfolding read_item
    item-bad z = rw (header_is, type-is, ← ep, z)

    module _ (z : p ≡ true) {k : ℕ} (ek : k ≡ body_bytes m s l) where
      pub item-short : length bs < h.used + k → Err short_body ≡ unit_read_as (read_item bs)
      unfolding read_item
      item-short t = rw (header_is, type-is, ← ep, z, ← ek, lt-leb (h.used + k) (length bs) t)

      pub item-good : h.used + k ≤ length bs
          → Ok (record { main_type = m; subtype = s; version = v; length_number = l; start = h.used; used = h.used + k }) ≡ unit_read_as (read_item bs)
      unfolding read_item
      item-good t =
          let n : length (take k (drop h.used bs)) ≡ k = length-take-le k (drop h.used bs) (simp length-drop (omega arith)) in
          let b : h.used + k - k ≡ h.used = omega arith in
          rw (header_is, type-is, ← ep, z, ← ek, le-leb (h.used + k) (length bs) t, n, b)
