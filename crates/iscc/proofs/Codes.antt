-- A code by value, and the two calls: the code of a text, and the text of a code.
use Prim.Native.Nat.{ℕ, zero, suc, ◌-◌, ◌/◌, ◌≤◌}
use mathlib.Core.Path.{◌≡◌, refl, sym, ◌∙◌, ap, ap₂, subst}
use mathlib.Core.Logic.{◌↔◌}
use mathlib.Core.List.{List, [], ◌++◌}
use native.Mathlib.Numerals.{unary_clauses}
use native.Mathlib.Omega.{arith}
use lib.ListN.{length, get_or, drop, replicate}
use lib.Dec.{leb}
use borrow.Author.Tests.{le-leb}
use Rattle.iscc.specs.Answer.{Answer, accept, refuse, Accepted, ◌>>=◌, area_after}
use Rattle.iscc.specs.Lists.{zero_filled}
use Rattle.iscc.specs.Digits.{Below}
use Rattle.iscc.specs.Permitted.{number}
use Rattle.iscc.specs.Meaning.{Meaning, Permitted}
use Rattle.iscc.specs.Item.{Item, item_bytes, item_of, read_one, meaning_of}
use Rattle.iscc.specs.Doors.{meaning_of_text, text_of, code_bytes, read_code, write_text, intake, strict}
use Rattle.iscc.specs.Codes.{CodesAndTexts}
use Rattle.iscc.specs.Representation.{code_as}
use Rattle.iscc.proofs.Answer.{accepted, value_of, passed, answered, accept-inj}
use Rattle.iscc.proofs.Item.{PermittedItem, length-item, item-most, item-first, item-below}
use Rattle.iscc.proofs.Meaning.{meaning-back, item-permitted, item_back, meant-item}
use Rattle.iscc.proofs.Split.{read_one-is, one-read}
use Rattle.iscc.proofs.Demand3.{intake-of, strict_of, strict-means}
use Rattle.iscc.proofs.Doors.{meant, back}

-- ---- a code by value: bytes written to the front of zeros

drop-zeros : (k n : ℕ) → drop k (replicate {A = ℕ} n 0) ≡ replicate (n - k) 0
drop-zeros zero n = simp unary_clauses refl
drop-zeros (suc k) zero = let e : 0 - suc k ≡ 0 = omega arith in rw e
drop-zeros (suc k) (suc n) = simp unary_clauses (drop-zeros k n)

zero-filled : (n : ℕ) (bs : List ℕ) → area_after (accept bs) (replicate n 0) ≡ zero_filled n bs
unfolding zero_filled
zero-filled n bs = ap (λ (z : List ℕ). bs ++ z) (drop-zeros (length bs) n)

pub code-value : (bs area : List ℕ) (n : ℕ) → area ≡ area_after (accept bs) (replicate 42 0) → n ≡ length bs → record { bytes = area; length = n } ≡ code_as bs
unfolding code_as
code-value bs area n e l = ap₂ (λ (x : List ℕ) (k : ℕ). record { bytes = x; length = k }) (e ∙ zero-filled 42 bs) l

-- no code
pub no_code : record { bytes = replicate 42 0; length = 0 } ≡ code_as []
unfolding code_as zero_filled
no_code = refl

-- ---- the code of a text, and the text of a code

pub read-code : (t : List ℕ) (m : Meaning) (k : ℕ) → 42 ≤ k → meaning_of_text t ≡ accept m → read_code t k ≡ accept (item_bytes (item_of m))
unfolding read_code code_bytes
read-code t m k h e = rw (le-leb 42 k h, e)

-- what a text that has a code means
pub code-means : (t bs : List ℕ) (k : ℕ) → read_code t k ≡ accept bs → (m : Meaning) × (meaning_of_text t ≡ accept m) × (item_bytes (item_of m) ≡ bs)
unfolding read_code code_bytes
code-means t bs k e =
    let p = passed (leb 42 k) _ (code_bytes t) e in
    let a = answered (meaning_of_text t) (λ m. accept (item_bytes (item_of m))) p.1 in
    (a.0, a.1, accept-inj a.2)

-- the code of a permitted meaning is written as its text
pub write-text : (m : Meaning) (n : ℕ) → 73 ≤ n → Permitted m → write_text (item_bytes (item_of m)) n ≡ accept (text_of m)
unfolding write_text
write-text m n h p = rw (le-leb 73 n h, read_one-is (item_of m) (item-permitted m p), meaning-back m p)

-- the bytes that have a text are the code of what they mean
pub text-means : (bs t : List ℕ) (n : ℕ) → Below 256 bs → write_text bs n ≡ accept t
    → (m : Meaning) × Permitted m × (item_bytes (item_of m) ≡ bs) × (text_of m ≡ t)
unfolding write_text
text-means bs t n b e =
    let p = passed (leb 73 n) _ (read_one bs >>= λ i. accept (text_of (meaning_of i))) e in
    let a = answered (read_one bs) (λ i. accept (text_of (meaning_of i))) p.1 in
    let r = one-read bs a.0 b a.1 in
    (meaning_of a.0, meant-item a.0 r.0, ap item_bytes (item_back a.0 r.0) ∙ r.1, accept-inj a.2)

through_code : (t : List ℕ) (n k : ℕ) → 42 ≤ k → 73 ≤ n → intake t n ≡ (read_code t k >>= λ bs. write_text bs n)
unfolding intake read_code code_bytes
through_code t n k h l = rw (le-leb 73 n l, le-leb 42 k h) (go (meaning_of_text t) refl)
  where
    go : (x : Answer Meaning) → meaning_of_text t ≡ x → (x >>= λ m. accept (text_of m)) ≡ ((x >>= λ m. accept (item_bytes (item_of m))) >>= λ bs. write_text bs n)
    go (accept m) e = sym (write-text m n l (meant t m e))
    go (refuse q) e = refl

text-back : (t : List ℕ) (n k : ℕ) → 42 ≤ k → 73 ≤ n → Accepted (strict t) → (read_code t k >>= λ bs. write_text bs n) ≡ accept t
text-back t n k h l s =
    let v = value_of (strict t) s in
    let w = strict-means t v.0 v.1 in
    sym (through_code t n k h l) ∙ intake-of t v.0 n l w.0 ∙ ap accept w.1

code-back : (bs t : List ℕ) (n k : ℕ) → 42 ≤ k → Below 256 bs → write_text bs n ≡ accept t → Accepted (strict t) × (read_code t k ≡ accept bs)
code-back bs t n k h b e =
    let w = text-means bs t n b e in
    let u : meaning_of_text t ≡ accept w.0 = ap meaning_of_text (sym w.3) ∙ back w.0 w.1 in
    (accepted (strict t) (strict_of t w.0 u w.3), read-code t w.0 k h u ∙ ap accept w.2)

code-inj : (m k : Meaning) → Permitted m → Permitted k → item_bytes (item_of m) ≡ item_bytes (item_of k) → m ≡ k
code-inj m k p q e =
    let x : text_of m ≡ text_of k = accept-inj (sym (write-text m 73 (omega arith) p) ∙ ap (λ (bs : List ℕ). write_text bs 73) e ∙ write-text k 73 (omega arith) q) in
    accept-inj (sym (back m p) ∙ ap meaning_of_text x ∙ back k q)

same_code : (t u bs cs : List ℕ) (m k : Meaning) → meaning_of_text t ≡ accept m → meaning_of_text u ≡ accept k
    → read_code t 42 ≡ accept bs → read_code u 42 ≡ accept cs → (bs ≡ cs) ↔ (m ≡ k)
same_code t u bs cs m k e f x y =
    let p : item_bytes (item_of m) ≡ bs = accept-inj (sym (read-code t m 42 (omega arith) e) ∙ x) in
    let q : item_bytes (item_of k) ≡ cs = accept-inj (sym (read-code u k 42 (omega arith) f) ∙ y) in
    (λ z. code-inj m k (meant t m e) (meant u k f) (p ∙ z ∙ sym q), λ z. sym p ∙ ap (λ (w : Meaning). item_bytes (item_of w)) z ∙ q)

pub code-size : (t bs : List ℕ) (k : ℕ) → read_code t k ≡ accept bs → (2 ≤ length bs) × (length bs ≤ 42) × Below 256 bs
code-size t bs k e =
    let w = code-means t bs k e in
    let p : PermittedItem (item_of w.0) = item-permitted w.0 (meant t w.0 w.1) in
    subst (λ (l : List ℕ). (2 ≤ length l) × (length l ≤ 42) × Below 256 l) w.2
    (omega (arith, length-item (item_of w.0) p), item-most (item_of w.0) p, item-below (item_of w.0) p)

first-nibble : (bs : List ℕ) (i : Item) → Below 256 bs → read_one bs ≡ accept i → get_or bs 0 0 / 16 ≡ number i.main_type
first-nibble bs i b e = let r = one-read bs i b e in ap (λ (l : List ℕ). get_or l 0 0 / 16) (sym r.1) ∙ item-first i r.0

pub codes-and-texts : CodesAndTexts
codes-and-texts = record { through_code = through_code; text_back = text-back; code_of_text = code-back; same_code = same_code; first_nibble = first-nibble; size = code-size }
