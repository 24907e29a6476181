-- The doors by the bytes of the code: what intake writes, and what the strict door compares.
use Rattle.std.specs.Prelude.{Ok, Err}
use Prim.Native.Nat.{ℕ, ◌-◌, ◌≤◌, ◌<◌}
use mathlib.Core.Path.{◌≡◌, refl, sym, ◌∙◌, ap}
use mathlib.Core.Bool.{Bool, true, false, cond}
use mathlib.Core.List.{List}
use lib.ListN.{length, take}
use borrow.Author.Tests.{le-leb, lt-leb}
use Rattle.iscc.specs.Refusals.{Refusal, area_too_short, other_text}
use Rattle.iscc.specs.Answer.{Answer, accept, refuse, ◌>>=◌, ◌>>◌, ◌otherwise◌, into, number_of, area_after}
use Rattle.iscc.specs.Meaning.{Meaning}
use Rattle.iscc.specs.Item.{item_bytes, item_of}
use Rattle.iscc.specs.Lists.{same_bytes}
use Rattle.iscc.specs.Doors.{meaning_of_text, text_of, code_bytes, intake, strict}
use Rattle.iscc.specs.Representation.{written_as, code_read_as}
use Rattle.iscc.specs.Representation.{CodeRead}
use Rattle.iscc.specs.declared.code.Code.{Code}
use Rattle.iscc.specs.declared.refusal.DetailedRefusal.{DetailedRefusal}
use Rattle.iscc.specs.Representation.{Written}
use Rattle.door.specs.Codes.{text_of_code}
use Rattle.door.specs.Representation.{checked_as, checked_number}
use Rattle.door.specs.Representation.{Checked}
use Rattle.door.proofs.Answers.{Held, Told, told, written_held, written-refused, code-not}
use Rattle.door.proofs.Codes.{code_is}
use Rattle.door.proofs.Texts.{text-fits}

-- ---- intake: 15, then as the code says

pub intake-short : (t : List ℕ) (area : ℕ) → area < 73 → intake t area ≡ refuse area_too_short
unfolding intake
intake-short t area l = rw (lt-leb 73 area l)

-- the text of a code, or why there is none
abbrev pub texted : Answer (List ℕ) → Answer (List ℕ)
texted (accept bs) = accept (text_of_code bs)
texted (refuse q) = refuse q

pub intake-is : (t : List ℕ) (area : ℕ) → 73 ≤ area → intake t area ≡ texted (code_bytes t)
unfolding intake code_bytes text_of
intake-is t area l = rw (le-leb 73 area l) (go (meaning_of_text t))
  where
    go : (r : Answer Meaning) → (r >>= λ m. accept (text_of m)) ≡ texted (r >>= λ m. accept (item_bytes (item_of m)))
    go (accept m) = refl
    go (refuse q) = refl

-- ---- strict: as intake, then 16

abbrev pub checked_by : List ℕ → Answer (List ℕ) → Checked
checked_by t (accept out) = cond (same_bytes out t) (Ok tt) (Err other_text)
checked_by t (refuse q) = Err q

pub strict-is : (t : List ℕ) (area : ℕ) → 73 ≤ area → checked_as (strict t) ≡ checked_by t (intake t area)
unfolding intake strict
strict-is t area l = rw (le-leb 73 area l) (go (meaning_of_text t))
  where
    by : (m : Meaning) (b : Bool) → checked_as (b otherwise other_text >> accept m) ≡ cond b (Ok tt) (Err other_text)
    by m true = refl
    by m false = refl

    go : (r : Answer Meaning) → checked_as (r >>= λ m. same_bytes (text_of m) t otherwise other_text >> accept m) ≡ checked_by t (r >>= λ m. accept (text_of m))
    go (accept m) = by m (same_bytes (text_of m) t)
    go (refuse q) = refl

-- ---- the code by value, and the text that is written of it

pub taken-short : (t d : List ℕ) → length d < 73 → Told (intake t (length d)) d (Err area_too_short) d
taken-short t d l = told d d _ (intake-short t (length d) l) (refl, refl)

module _ (t : List ℕ) (k : ℕ) {r : CodeRead} (of : r ≡ code_read_as k (code_bytes t)) where
  pub taken_refused : (d : List ℕ) (f : DetailedRefusal) → 73 ≤ length d → r ≡ Err f → Told (intake t (length d)) d (Err f.refusal) d
  taken_refused d f room e = told d d _ (intake-is t (length d) room ∙ ap texted (code-not k (code_bytes t) f (sym e ∙ of))) (refl, refl)

  module _ (x : Code) (found : r ≡ Ok x) (bs : List ℕ) (lent : bs ≡ take x.length x.bytes) (d : List ℕ) (room : 73 ≤ length d) where
    abbrev own : Answer (List ℕ)
    own = into (length d) (accept (text_of_code bs))

    intake-own : own ≡ intake t (length d)
    intake-own =
        let c = code_is t k of x found bs lent in
        text-fits bs (length d) c.1 room ∙ sym (intake-is t (length d) room ∙ ap texted c.0)

    pub taken-answer : (w : Written) → w ≡ written_as own → w ≡ written_as (intake t (length d))
    taken-answer w h = h ∙ ap written_as intake-own

    pub taken-area : (e : List ℕ) → e ≡ area_after own d → e ≡ area_after (intake t (length d)) d
    taken-area e h = h ∙ ap (λ (y : Answer (List ℕ)). area_after y d) intake-own

-- ---- the strict door's answer and its number

abbrev pub CheckedAs : Answer Meaning → Checked → Type 0
CheckedAs x r = (r ≡ checked_as x) × (checked_number r ≡ number_of x)

numbered : (x : Answer Meaning) (r : Checked) → r ≡ checked_as x → CheckedAs x r
numbered x r e = (e, ap checked_number e ∙ go x)
  where
    go : (x : Answer Meaning) → checked_number (checked_as x) ≡ number_of x
    go (accept m) = refl
    go (refuse q) = refl

-- ---- the text that intake would write, in an area a of which z was lent

module _ (t : List ℕ) (area : ℕ) (w : Written) (room : 73 ≤ area) (answer : w ≡ written_as (intake t area)) where
  checked-by : {x : Answer (List ℕ)} → intake t area ≡ x → checked_as (strict t) ≡ checked_by t x
  checked-by e = strict-is t area room ∙ ap (checked_by t) e

  pub checked_refused : (q : Refusal) → w ≡ Err q → CheckedAs (strict t) (Err q)
  checked_refused q e = numbered (strict t) _ (sym (checked-by (written-refused (intake t area) q (sym e ∙ answer))))

  module _ (a z : List ℕ) (n : ℕ) (counted : w ≡ Ok n) (after : a ≡ area_after (intake t area) z) where
    own-text : Held (intake t area) a n
    own-text = written_held (intake t area) n a z (sym counted ∙ answer) after

    pub own-fits : n ≤ length a
    own-fits = own-text.1

    module _ (b : Bool) (same : b ≡ same_bytes (take (n - 0) a) t) where
      pub checked-same : b ≡ true → CheckedAs (strict t) (Ok tt)
      checked-same e = let f : same_bytes (take (n - 0) a) t ≡ true = sym same ∙ e in numbered (strict t) _ (sym (checked-by own-text.0 ∙ rw f))

      pub checked-other : b ≡ false → CheckedAs (strict t) (Err other_text)
      checked-other e = let f : same_bytes (take (n - 0) a) t ≡ false = sym same ∙ e in numbered (strict t) _ (sym (checked-by own-text.0 ∙ rw f))
