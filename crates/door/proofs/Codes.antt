-- The code that a text holds: the bytes of its run, read as items; and the call that writes it.
use Rattle.std.specs.Prelude.{Ok, Err}
use Prim.Native.Nat.{ℕ, ◌-◌, ◌≤◌, ◌<◌}
use mathlib.Core.Path.{◌≡◌, refl, sym, ◌∙◌, ap}
use mathlib.Core.List.{List, ◌++◌}
use native.Mathlib.Omega.{arith}
use lib.ListN.{length, take, drop}
use borrow.Author.Tests.{le-leb, lt-leb}
use Rattle.iscc.specs.Refusals.{Refusal, long_text, area_too_short}
use Rattle.iscc.specs.Answer.{Answer, accept, refuse, ◌>>=◌, into, area_after}
use Rattle.iscc.specs.Item.{Item, item_bytes, item_of}
use Rattle.iscc.specs.Items.{read_items, meaning_of_items}
use Rattle.iscc.specs.Doors.{payload, items_of_text, meaning_of_text, code_bytes, read_code}
use Rattle.iscc.specs.Representation.{code_read_as}
use Rattle.iscc.specs.Representation.{CodeRead}
use Rattle.iscc.specs.declared.code.Code.{Code}
use Rattle.iscc.specs.declared.refusal.DetailedRefusal.{DetailedRefusal}
use Rattle.iscc.proofs.Codes.{code-size}
use Rattle.composite.specs.Canonical.{detail_of, canonical_bytes}
use Rattle.payload.specs.Payloads.{payload_detail, payload_answer_as}
use Rattle.payload.specs.Payloads.{PayloadAnswer}
use Rattle.payload.proofs.Payloads.{payload-fits, payload-long}
use Rattle.door.specs.Codes.{code_detail}
use Rattle.door.proofs.Answers.{Held, Told, told, payload-held, payload-not, code-held, code-not}

-- ---- the code is that of the payload

code-behind : (t : List ℕ) → code_bytes t ≡ (payload t >>= canonical_bytes)
unfolding code_bytes meaning_of_text items_of_text canonical_bytes
code-behind t = go (payload t)
  where
    items : (y : Answer (List Item)) → (y >>= meaning_of_items >>= λ m. accept (item_bytes (item_of m))) ≡ (y >>= λ is. meaning_of_items is >>= λ m. accept (item_bytes (item_of m)))
    items (accept is) = refl
    items (refuse q) = refl

    go : (x : Answer (List ℕ)) → (x >>= read_items >>= meaning_of_items >>= λ m. accept (item_bytes (item_of m))) ≡ (x >>= canonical_bytes)
    go (accept bs) = items (read_items bs)
    go (refuse q) = refl

-- a payload that is refused
not_found : (t : List ℕ) (q : Refusal) (p : ℕ) → payload t ≡ refuse q → payload_detail t ≡ p → code_read_as p (refuse q) ≡ code_read_as (code_detail t) (code_bytes t)
unfolding code_detail
not_found t q p e d =
    let c : code_bytes t ≡ refuse q = code-behind t ∙ ap (λ (x : Answer (List ℕ)). x >>= canonical_bytes) e in
    rw (c, e, d)

pub code-long : (t : List ℕ) (r : CodeRead) → 1024 < length t → r ≡ code_read_as 0 (refuse long_text) → r ≡ code_read_as (code_detail t) (code_bytes t)
code-long t r l e = let h = payload-long t l in e ∙ not_found t long_text 0 h.0 h.1

module _ (t : List ℕ) (r : PayloadAnswer) (answer : r ≡ payload_answer_as (payload_detail t) (into 50 (payload t))) where
  told-as : r ≡ payload_answer_as (payload_detail t) (payload t)
  told-as = answer ∙ ap (payload_answer_as (payload_detail t)) (payload-fits t)

  pub none_found : (f : DetailedRefusal) → r ≡ Err f → ◌≡◌ {A = CodeRead} (Err f) (code_read_as (code_detail t) (code_bytes t))
  none_found f e = let h = payload-not (payload_detail t) (payload t) f (sym e ∙ told-as) in not_found t f.refusal f.detail h.0 h.1

  module _ (n : ℕ) (a z : List ℕ) (counted : r ≡ Ok n) (after : a ≡ area_after (into 50 (payload t)) z) where
    bytes-are : Held (payload t) a n
    bytes-are = payload-held (payload_detail t) (payload t) n a z (sym counted ∙ told-as) (after ∙ ap (λ (x : Answer (List ℕ)). area_after x z) (payload-fits t))

    pub bytes_fit : n ≤ length a
    bytes_fit = bytes-are.1

    pub code-found : (s : CodeRead) → s ≡ code_read_as (detail_of (take (n - 0) a)) (canonical_bytes (take (n - 0) a)) → s ≡ code_read_as (code_detail t) (code_bytes t)
    unfolding code_detail
    code-found s f =
        let c : code_bytes t ≡ canonical_bytes (take (n - 0) a) = code-behind t ∙ ap (λ (x : Answer (List ℕ)). x >>= canonical_bytes) bytes-are.0 in
        rw (c, bytes-are.0) f

-- ---- the call that writes it: 15, then as the code says

pub code-short : (t d : List ℕ) → length d < 42 → Told (read_code t (length d)) d (Err area_too_short) d
unfolding read_code
code-short t d l = rw (lt-leb 42 (length d) l) (refl, refl)

read-code-is : (t : List ℕ) (n : ℕ) → 42 ≤ n → read_code t n ≡ code_bytes t
unfolding read_code
read-code-is t n l = rw (le-leb 42 n l)

-- a code has at most 42 bytes
code-most : (t bs : List ℕ) → code_bytes t ≡ accept bs → length bs ≤ 42
code-most t bs e = (code-size t bs 42 (read-code-is t 42 (omega arith) ∙ e)).1

module _ (t : List ℕ) (k : ℕ) {r : CodeRead} (of : r ≡ code_read_as k (code_bytes t)) where
  pub code-refused : (d : List ℕ) (f : DetailedRefusal) → 42 ≤ length d → r ≡ Err f → Told (read_code t (length d)) d (Err f.refusal) d
  code-refused d f room e = told d d _ (read-code-is t (length d) room ∙ code-not k (code_bytes t) f (sym e ∙ of)) (refl, refl)

  module _ (c : Code) (found : r ≡ Ok c) where
    module _ (bs : List ℕ) (lent : bs ≡ take c.length c.bytes) where
      pub code_is : (code_bytes t ≡ accept bs) × (length bs ≤ 42)
      code_is =
          let n : c.length - 0 ≡ c.length = omega arith in
          let h : code_bytes t ≡ accept bs = (code-held k (code_bytes t) c (sym found ∙ of)).0 ∙ ap (λ (j : ℕ). accept (take j c.bytes)) n ∙ ap accept (sym lent) in
          (h, code-most t bs h)

      pub code-room : (d : List ℕ) → 42 ≤ length d → length bs ≤ length d
      code-room d room = omega (arith, code_is.1)

      pub code-written : (d e : List ℕ) → 42 ≤ length d → e ≡ bs ++ drop (length bs) d → Told (read_code t (length d)) d (Ok (length bs)) e
      code-written d e room f = told d e _ (read-code-is t (length d) room ∙ code_is.0) (refl, f)
