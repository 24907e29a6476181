-- What the writer's steps say of `varnibble`, `header_bytes` and `write_header`.
use Rattle.std.specs.Prelude.{Ok, Err}
use Prim.Native.Nat.{ℕ, ◌+◌, ◌-◌, ◌*◌, ◌/◌, ◌%◌, ◌^◌, ◌≤◌, ◌<◌}
use mathlib.Core.Path.{◌≡◌, refl, sym, ◌∙◌, ap}
use mathlib.Core.Bool.{Bool, true, false, ◌&&◌}
use mathlib.Core.List.{List, ◌++◌}
use native.Mathlib.Omega.{arith}
use native.Mathlib.Nat.{lt_of_lt_of_le, mul-add}
use lib.Arith.{digits_lt}
use lib.Pow.{pow_mono, pow-add}
use lib.Dec.{leb}
use borrow.Rule.Slice.PartMut.{post_of}
use lib.ListN.{length, take, drop}
use borrow.Author.Tests.{leb-true, le-leb, lt-leb}
use Rattle.iscc.specs.Answer.{Answer, accept, refuse, ◌>>=◌, ◌>>◌, ◌otherwise◌, area_after}
use Rattle.iscc.specs.Refusals.{Refusal, number_too_large, area_too_short}
use Rattle.iscc.specs.Digits.{digits}
use Rattle.iscc.specs.Varnibble.{row_of, varnibble, write_varnibble}
use Rattle.iscc.specs.Header.{Writable, packed, header_bytes, raw_header, write_header}
use Rattle.iscc.specs.Representation.{written_as}
use Rattle.iscc.proofs.Booleans.{both_true}
use Rattle.iscc.proofs.Digits.{length_digits, digits_append}
use Rattle.iscc.proofs.Groups.{digits-join}
use Rattle.iscc.proofs.Header.{raw-header}
use Rattle.header.specs.declared.Header.{Header}
use Rattle.header.specs.declared.rows.Row.{Row}
use Rattle.header.specs.Representation.{row_as, RowBounds, header_from}
use Rattle.header.proofs.Digits.{packed-even, packed-odd}

-- ---- one varnibble more
module _ (a c n : ℕ) (r : Row) (e : r ≡ row_as (row_of n)) (b : RowBounds r) (l : r.first ≤ n) (h : n < r.first + r.count) where
  abbrev code : ℕ
  code = r.prefix + (n - r.first)

  code_is : digits 4 r.width code ≡ varnibble n
  unfolding varnibble
  code_is = ap (λ (x : Row). digits 4 x.width (x.prefix + (n - x.first))) e

  size_is : r.size ≡ 2 ^ (4 * r.width)
  size_is = ap (λ (x : Row). x.size) e ∙ ap (λ (x : Row). 2 ^ (4 * x.width)) (sym e)

  code_lt : code < 2 ^ (4 * r.width)
  code_lt = rw (← size_is) (omega (arith, b.room))

  pub append-is : digits 4 (c + r.width) (a * r.size + code) ≡ digits 4 c a ++ varnibble n
  append-is = rw size_is (digits-join 4 c r.width a code code_lt ∙ ap (λ (ns : List ℕ). digits 4 c a ++ ns) code_is)

  pub append-lt : a < 2 ^ (4 * c) → a * r.size + code < 2 ^ (4 * (c + r.width))
  append-lt k = rw (size_is, mul-add 4 c r.width, pow-add 2 (4 * c) (4 * r.width)) (digits_lt k code_lt)

  -- 16 nibbles fit 64 bits
  pub append-fits : c ≤ 12 → a < 2 ^ (4 * c) → a * r.size + code < 2 ^ 64
  append-fits m k = let g : 4 * (c + r.width) ≤ 64 = omega (arith, b.most) in lt_of_lt_of_le (append-lt k) (pow_mono g)

-- ---- the bytes of a header

pub joined-four : (a b c d : List ℕ) {n₁ n₂ n₃ n₄ : List ℕ} → n₁ ≡ digits 4 0 0 ++ a → n₂ ≡ n₁ ++ b → n₃ ≡ n₂ ++ c → n₄ ≡ n₃ ++ d → n₄ ≡ a ++ b ++ c ++ d
unfolding digits
joined-four a b c d e f g h = rw (h, g, f, e)

pub fits-pad : (c x : ℕ) → c ≤ 15 → x < 2 ^ (4 * c) → x < 2 ^ 60
fits-pad c x l h = let g : 4 * c ≤ 60 = omega arith in lt_of_lt_of_le h (pow_mono g)

module _ (h : Header) (n x : ℕ) (e : digits 4 n x ≡ varnibble h.main_type ++ varnibble h.subtype ++ varnibble h.version ++ varnibble h.length_number) where
  pub bytes-even : n % 2 ≡ 0 → digits 8 (n / 2) x ≡ header_bytes (header_from h)
  unfolding header_bytes
  bytes-even p = packed-even n x p ∙ ap packed e

  pub bytes-odd : (n % 2 ≡ 0 → ⊥) → digits 8 ((n + 1) / 2) (x * 16) ≡ header_bytes (header_from h)
  unfolding header_bytes
  bytes-odd p = packed-odd n x p ∙ ap packed e

-- ---- the writer's cases

refused : (p q r s : Bool) (a b c d : List ℕ) (n : Refusal) (f : List ℕ → List ℕ → List ℕ → List ℕ → Answer (List ℕ)) → (p && (q && (r && s))) ≡ false
    → ((p otherwise n >> accept a) >>= λ a. (q otherwise n >> accept b) >>= λ b. (r otherwise n >> accept c) >>= λ c. (s otherwise n >> accept d) >>= λ d. f a b c d) ≡ refuse n
refused false q r s a b c d n f e = refl
refused true false r s a b c d n f e = refl
refused true true false s a b c d n f e = refl
refused true true true false a b c d n f e = refl
refused true true true true a b c d n f e = let z : ◌≡◌ {A = ℕ} 0 1 = cc in absurd (omega arith)

module _ (h : Header) {t : Bool} (et : t ≡ (leb h.main_type 4679 && (leb h.subtype 4679 && (leb h.version 4679 && leb h.length_number 4679)))) where
  raw-refused : t ≡ false → raw_header (header_from h) ≡ refuse number_too_large
  unfolding raw_header write_varnibble
  raw-refused e = refused (leb h.main_type 4679) (leb h.subtype 4679) (leb h.version 4679) (leb h.length_number 4679) _ _ _ _ _ _ (sym et ∙ e)

  pub all-writable : t ≡ true → Writable (header_from h)
  all-writable e =
      let a = both_true (leb h.main_type 4679) _ (sym et ∙ e) in
      let b = both_true (leb h.subtype 4679) _ a.1 in
      let c = both_true (leb h.version 4679) (leb h.length_number 4679) b.1 in
      (leb-true h.main_type 4679 a.0, leb-true h.subtype 4679 b.0, leb-true h.version 4679 c.0, leb-true h.length_number 4679 c.1)

  module _ (d : List ℕ) where
    abbrev answer : Answer (List ℕ)
    answer = write_header (header_from h) (length d)

    pub write-17 : t ≡ false → (Err number_too_large ≡ written_as answer) × (d ≡ area_after answer d)
    write-17 e = rw (raw-refused e) (refl, refl)

    module _ (ok : t ≡ true) (n x : ℕ) (en : digits 8 n x ≡ header_bytes (header_from h)) where
      raw-is : raw_header (header_from h) ≡ accept (digits 8 n x)
      raw-is = raw-header (header_from h) (all-writable ok) ∙ ap accept (sym en)

      pub write-15 : length d < n → (Err area_too_short ≡ written_as answer) × (d ≡ area_after answer d)
      write-15 l = rw (raw-is, length_digits 8 n x, lt-leb n (length d) l) (refl, refl)

      pub write-ok : {e : List ℕ} → n ≤ length d → e ≡ area_after (accept (digits 8 n x)) d → (Ok n ≡ written_as answer) × (e ≡ area_after answer d)
      write-ok l p = rw (raw-is, length_digits 8 n x, le-leb n (length d) l) (ap Ok (sym (length_digits 8 n x)), p)

-- ---- the bytes at the front of an area

pub front-bytes : (v n : ℕ) (w d : List ℕ) → w ≡ digits 8 n v → w ++ post_of 0 (n - 0) d ≡ area_after (accept (digits 8 n v)) d
front-bytes v n w d e = let z : n - 0 ≡ n = omega arith in rw (e, z, length_digits 8 n v)
