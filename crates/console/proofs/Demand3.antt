-- Demand 3 over what C is told and finds in the area.
use Prim.Native.Nat.{ℕ, ◌≤◌}
use mathlib.Core.Path.{◌≡◌, refl, sym, ◌∙◌, ap}
use mathlib.Core.Logic.{◌↔◌}
use mathlib.Core.List.{List, ◌++◌}
use native.Mathlib.Omega.{arith}
use lib.ListN.{length, take}
use lib.Dec.{leb}
use borrow.Author.Tests.{leb-true}
use Rattle.iscc.specs.Answer.{Answer, accept, Accepted, ◌>>=◌, area_after}
use Rattle.iscc.specs.Refusals.{area_too_short}
use Rattle.iscc.specs.Alphabet.{encode}
use Rattle.iscc.specs.Base32.{base32}
use Rattle.iscc.specs.Meaning.{Meaning, Permitted}
use Rattle.iscc.specs.Item.{Item, item_bytes, item_of}
use Rattle.iscc.specs.Lists.{Reordered}
use Rattle.iscc.specs.Doors.{scheme, items_of_text, meaning_of_text, text_of, intake, written_text, strict}
use Rattle.iscc.specs.Representation.{written_as, outcome_as}
use Rattle.iscc.proofs.Answer.{accepted, value_of, accept-inj, passed}
use Rattle.iscc.proofs.Numbers.{outcome-length, intake-numbered, strict-numbered}
use Rattle.iscc.proofs.Demand3.{intake-of, intake-means, written_of, strict_of, strict-means}
use Rattle.iscc.proofs.Doors.{meant, back, demand3}
use Rattle.console.specs.Demand3.{ConsoleDemand3, answer_of, area_of, text_in, strict_number}
use Rattle.console.proofs.Numbers.{of-table, told_of}

-- ---- the doors

intake-zero : (t a : List ℕ) → ((answer_of t a).number ≡ 0) ↔ Accepted (intake t (length a))
intake-zero t a = (told_of (intake t (length a)) (intake-numbered t (length a))).number.success

strict-zero : (t : List ℕ) → (strict_number t ≡ 0) ↔ Accepted (strict t)
strict-zero t = (of-table (strict t) (strict-numbered t)).success

text_in-is : (t a : List ℕ) → text_in t a ≡ written_text t a
unfolding written_text
text_in-is t a = ap (λ (n : ℕ). take n (area_of t a)) (outcome-length (intake t (length a)))

-- intake accepts no shorter area
room-there : (t a : List ℕ) → Accepted (intake t (length a)) → 73 ≤ length a
unfolding intake
room-there t a h =
    let v = value_of (intake t (length a)) h in
    leb-true 73 (length a) (passed (leb 73 (length a)) area_too_short (meaning_of_text t >>= λ m. accept (text_of m)) v.1).0

-- a text whose number is 0: what it means, and the text that stands in the area
record Taken (t a : List ℕ) : Type 0 where
  pub meaning : Meaning
  pub means : meaning_of_text t ≡ accept meaning
  pub answer : intake t (length a) ≡ accept (text_of meaning)
  pub stands : text_in t a ≡ text_of meaning

taken : (t a : List ℕ) → (answer_of t a).number ≡ 0 → Taken t a
taken t a e =
    let h = (intake-zero t a).0 e in
    let m = intake-means t (length a) h in
    let r = room-there t a h in
    record { meaning = m.0; means = m.1; answer = intake-of t m.0 (length a) r m.1; stands = text_in-is t a ∙ written_of t m.0 a r m.1 }

-- a strict text: what it means, whose text it is
strict-taken : (t : List ℕ) → strict_number t ≡ 0 → (m : Meaning) × (meaning_of_text t ≡ accept m) × (text_of m ≡ t)
strict-taken t e = let v = value_of (strict t) ((strict-zero t).0 e) in let w = strict-means t v.0 v.1 in (v.0, w.0, w.1)

is-strict : (t : List ℕ) (m : Meaning) → meaning_of_text t ≡ accept m → text_of m ≡ t → strict_number t ≡ 0
is-strict t m e p = (strict-zero t).1 (accepted (strict t) (strict_of t m e p))

-- ---- demand 3

accepts' : (t a : List ℕ) → 73 ≤ length a → ((answer_of t a).number ≡ 0) ↔ Accepted (meaning_of_text t)
accepts' t a r = (
  (λ e. (demand3.accepts t a r).0 ((intake-zero t a).0 e)),
  λ h. (intake-zero t a).1 ((demand3.accepts t a r).1 h),
)

equal' : (t u a b : List ℕ) → (answer_of t a).number ≡ 0 → (answer_of u b).number ≡ 0 → (text_in t a ≡ text_in u b) ↔ (meaning_of_text t ≡ meaning_of_text u)
equal' t u a b e f =
    let x : Taken t a = taken t a e in
    let y : Taken u b = taken u b f in
    let d = demand3.equal t u a b (room-there t a ((intake-zero t a).0 e)) (room-there u b ((intake-zero u b).0 f)) x.meaning y.meaning x.means y.means in (
      (λ p. x.means ∙ ap accept (d.0 (sym (text_in-is t a) ∙ p ∙ text_in-is u b)) ∙ sym y.means),
      λ p. text_in-is t a ∙ d.1 (accept-inj (sym x.means ∙ p ∙ y.means)) ∙ sym (text_in-is u b),
    )

strictly' : (t a : List ℕ) → 73 ≤ length a → (strict_number t ≡ 0) ↔ (((answer_of t a).number ≡ 0) × (text_in t a ≡ t))
strictly' t a r = (
  (λ e.
      let s = strict-taken t e in
      ((accepts' t a r).1 (accepted (meaning_of_text t) s.1), text_in-is t a ∙ written_of t s.0 a r s.1 ∙ s.2)),
  λ p. let x : Taken t a = taken t a p.0 in is-strict t x.meaning x.means (sym x.stands ∙ p.1),
)

one' : (m : Meaning) → Permitted m → (strict_number (text_of m) ≡ 0) × (meaning_of_text (text_of m) ≡ accept m)
one' m p = (is-strict (text_of m) m (back m p) refl, back m p)

no_second : (t u : List ℕ) → strict_number t ≡ 0 → strict_number u ≡ 0 → meaning_of_text t ≡ meaning_of_text u → t ≡ u
no_second t u e f p =
    let s = strict-taken t e in
    let v = strict-taken u f in
    sym s.2 ∙ ap text_of (accept-inj (sym s.1 ∙ p ∙ v.1)) ∙ v.2

written' : (t a : List ℕ) → (answer_of t a).number ≡ 0 → (strict_number (text_in t a) ≡ 0) × (meaning_of_text (text_in t a) ≡ meaning_of_text t)
written' t a e =
    let x : Taken t a = taken t a e in
    let o = one' x.meaning (meant t x.meaning x.means) in
    (ap strict_number x.stands ∙ o.0, ap meaning_of_text x.stands ∙ o.1 ∙ sym x.means)

same-meaning : (t a : List ℕ) (m : Meaning) → meaning_of_text t ≡ accept m → (x : Taken t a) → x.meaning ≡ m
same-meaning t a m f x = accept-inj (sym x.means ∙ f)

spelling' : (m : Meaning) (t a : List ℕ) → (answer_of t a).number ≡ 0 → meaning_of_text t ≡ accept m → text_in t a ≡ scheme ++ encode base32 (item_bytes (item_of m))
spelling' m t a e f = let x : Taken t a = taken t a e in x.stands ∙ ap text_of (same-meaning t a m f x) ∙ demand3.spelling m

short' : (m : Meaning) (t a : List ℕ) → (answer_of t a).number ≡ 0 → meaning_of_text t ≡ accept m → Permitted m × ((answer_of t a).length ≤ 73)
short' m t a e f =
    let x : Taken t a = taken t a e in
    let d = demand3.short t m f in
    let n : (answer_of t a).length ≡ length (text_of m) = ap (λ (y : Answer (List ℕ)). (outcome_as (written_as y)).length) x.answer ∙ ap (λ (k : Meaning). length (text_of k)) (same-meaning t a m f x) in
    (d.0, omega (arith, n, d.1))

any_order : (t u a : List ℕ) (is js : List Item) → items_of_text t ≡ accept is → items_of_text u ≡ accept js → Reordered is js → (answer_of t a ≡ answer_of u a) × (area_of t a ≡ area_of u a)
any_order t u a is js e f r =
    let i : intake t (length a) ≡ intake u (length a) = demand3.any_order t u is js (length a) e f r in
    (ap (λ (y : Answer (List ℕ)). outcome_as (written_as y)) i, ap (λ (y : Answer (List ℕ)). area_after y a) i)

pub console-demand3 : ConsoleDemand3
console-demand3 =
    record {
      accepts = accepts';
      equal = equal';
      strictly = strictly';
      one = one';
      no_second = no_second;
      written = written';
      spelling = spelling';
      short = short';
      any_order = any_order;
    }
