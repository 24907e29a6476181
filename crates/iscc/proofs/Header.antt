-- The laws of raw headers.
use Prim.Native.Nat.{ℕ, zero, suc, ◌+◌, ◌-◌, ◌*◌, ◌/◌, ◌%◌, ◌≤◌, ◌<◌}
use mathlib.Core.Path.{◌≡◌, refl, sym, ◌∙◌, ap, subst}
use mathlib.Core.Bool.{true, ◌||◌}
use mathlib.Core.Logic.{◌⊎◌, inl, inr}
use mathlib.Core.List.{List, [], ◌∷◌, ◌++◌, append_assoc}
use native.Mathlib.Nat.{not-suc-le-zero, le_of_suc-le-suc}
use native.Mathlib.Omega.{arith}
use lib.ListN.{length, get_or, take, drop, length-append, length-drop}
use lib.Seq.{drop_at, drop-drop, get_or-append_seam, take-add}
use lib.Dec.{eqb}
use borrow.Author.Tests.{eq-eqb, le-leb, eqb-true}
use Rattle.iscc.specs.Answer.{accept}
use Rattle.iscc.specs.Digits.{Below, digits}
use Rattle.iscc.specs.Varnibble.{first_of, prefix_of, row_of, varnibble, Parsed, parsed, write_varnibble, read_varnibble}
use Rattle.iscc.specs.Header.{Header, header_with_numbers, Writable, nibbles, packed, header_bytes, raw_header, read_header}
use Rattle.iscc.proofs.Booleans.{or_left, or_right, or_cases}
use Rattle.iscc.proofs.Digits.{below-append, below-drop}
use Rattle.iscc.proofs.Answer.{passed, answered, accept-inj}
use Rattle.iscc.proofs.Varnibble.{length-varnibble, varnibble-below, row-is-1, read-varnibble, Back, varnibble-read}

-- the pad nibble of an odd number of nibbles
abbrev pad_of : List ℕ → List ℕ
pad_of [] = []
pad_of (a ∷ []) = 0 ∷ []
pad_of (a ∷ b ∷ ns) = pad_of ns

nibbles-packed : (ns rest : List ℕ) → Below 16 ns → nibbles (packed ns ++ rest) ≡ ns ++ (pad_of ns ++ nibbles rest)
unfolding nibbles packed
nibbles-packed [] rest h = refl
nibbles-packed (a ∷ []) rest h =
    let p : a * 16 / 16 ≡ a = omega arith in
    let q : a * 16 % 16 ≡ 0 = omega arith in
    rw (p, q)
nibbles-packed (a ∷ b ∷ ns) rest h =
    let l : b < 16 = h.1.0 in
    let p : (a * 16 + b) / 16 ≡ a = omega arith in
    let q : (a * 16 + b) % 16 ≡ b = omega arith in
    rw (p, q, nibbles-packed ns rest h.1.1)

pub length-packed : (ns : List ℕ) → length (packed ns) ≡ (length ns + 1) / 2
unfolding packed
length-packed [] = refl
length-packed (a ∷ []) = refl
length-packed (a ∷ b ∷ ns) = let i = length-packed ns in omega arith

pad-cases : (ns : List ℕ) → (length ns % 2 ≡ 0) ⊎ (pad_of ns ≡ 0 ∷ [])
pad-cases [] = inl refl
pad-cases (a ∷ []) = inr refl
pad-cases (a ∷ b ∷ ns) = elim (pad-cases ns) [ inl e ↦ inl (omega arith) | inr e ↦ inr e ]

pad-ok : (ns rest : List ℕ) → (eqb (length ns % 2) 0 || eqb (get_or (ns ++ (pad_of ns ++ rest)) (length ns) 0) 0) ≡ true
pad-ok ns rest =
    elim (pad-cases ns) [
      | inl e ↦ or_left _ _ (eq-eqb _ _ e)
      | inr e ↦ or_right (eqb (length ns % 2) 0) _ (eq-eqb (get_or (ns ++ (pad_of ns ++ rest)) (length ns) 0) 0 (rw e (get_or-append_seam ns 0 rest 0)))
    ]

abbrev nibbles_of : Header → List ℕ
nibbles_of h = varnibble h.main_type ++ varnibble h.subtype ++ varnibble h.version ++ varnibble h.length_number

nibbles_of-below : (h : Header) → Below 16 (nibbles_of h)
nibbles_of-below h =
    let a : List ℕ = varnibble h.main_type in
    let b : List ℕ = varnibble h.subtype in
    let c : List ℕ = varnibble h.version in
    let d : List ℕ = varnibble h.length_number in
    let ab : Below 16 (a ++ b) = below-append 16 a b (varnibble-below h.main_type) (varnibble-below h.subtype) in
    let abc : Below 16 (a ++ b ++ c) = below-append 16 (a ++ b) c ab (varnibble-below h.version) in
    below-append 16 (a ++ b ++ c) d abc (varnibble-below h.length_number)

-- what is written reads back, whatever follows
pub read-header : (h : Header) (rest : List ℕ) → Writable h → read_header (header_bytes h ++ rest) ≡ accept (parsed h (length (header_bytes h)))
unfolding read_header header_bytes
read-header h rest w =
    let a : ℕ = h.main_type in
    let b : ℕ = h.subtype in
    let c : ℕ = h.version in
    let d : ℕ = h.length_number in
    let ns : List ℕ = nibbles (packed (nibbles_of h) ++ rest) in
    let z : List ℕ = pad_of (nibbles_of h) ++ nibbles rest in
    let e : ns ≡ nibbles_of h ++ z = nibbles-packed (nibbles_of h) rest (nibbles_of-below h) in
    let e₀ : ns ≡ varnibble a ++ (varnibble b ++ (varnibble c ++ (varnibble d ++ z))) = e ∙ simp append_assoc in
    let e₁ : drop (row_of a) ns ≡ varnibble b ++ (varnibble c ++ (varnibble d ++ z)) = ap (drop (row_of a)) e₀ ∙ drop_at (varnibble a) _ (row_of a) (length-varnibble a) in
    let e₂ : drop (row_of a + row_of b) ns ≡ varnibble c ++ (varnibble d ++ z) =
    sym (drop-drop (row_of b) (row_of a) ns) ∙ ap (drop (row_of b)) e₁ ∙ drop_at (varnibble b) _ (row_of b) (length-varnibble b) in
    let e₃ : drop (row_of a + row_of b + row_of c) ns ≡ varnibble d ++ z =
    sym (drop-drop (row_of c) (row_of a + row_of b) ns) ∙ ap (drop (row_of c)) e₂ ∙ drop_at (varnibble c) _ (row_of c) (length-varnibble c) in
    let r₀ : read_varnibble ns ≡ accept (record { result = a; used = row_of a }) = ap read_varnibble e₀ ∙ read-varnibble a _ w.0 in
    let r₁ : read_varnibble (drop (row_of a) ns) ≡ accept (record { result = b; used = row_of b }) = ap read_varnibble e₁ ∙ read-varnibble b _ w.1 in
    let r₂ : read_varnibble (drop (row_of a + row_of b) ns) ≡ accept (record { result = c; used = row_of c }) = ap read_varnibble e₂ ∙ read-varnibble c _ w.2 in
    let r₃ : read_varnibble (drop (row_of a + row_of b + row_of c) ns) ≡ accept (record { result = d; used = row_of d }) = ap read_varnibble e₃ ∙ read-varnibble d _ w.3 in
    let len : length (nibbles_of h) ≡ row_of a + row_of b + row_of c + row_of d = simp (length-append, length-varnibble) in
    rw (r₀, r₁, r₂, r₃, ← len, e, pad-ok (nibbles_of h) (nibbles rest), length-packed (nibbles_of h))

-- ---- the length of a header, and its bytes

packed-below : (ns : List ℕ) → Below 16 ns → Below 256 (packed ns)
unfolding packed
packed-below [] h = tt
packed-below (a ∷ []) h = let l : a < 16 = h.0 in (omega arith, tt)
packed-below (a ∷ b ∷ ns) h =
    let l : a < 16 = h.0 in
    let k : b < 16 = h.1.0 in
    (omega arith, packed-below ns h.1.1)

pub header-below : (h : Header) → Below 256 (header_bytes h)
unfolding header_bytes
header-below h = packed-below (nibbles_of h) (nibbles_of-below h)

pub length-header : (h : Header) → length (header_bytes h) ≡ (row_of h.main_type + row_of h.subtype + row_of h.version + row_of h.length_number + 1) / 2
unfolding header_bytes
length-header h = length-packed (nibbles_of h) ∙ simp (length-append, length-varnibble)

-- four numbers below 8 are two bytes, a nibble a number
one-nibble : (n : ℕ) → n < 8 → varnibble n ≡ n ∷ []
unfolding varnibble digits prefix_of first_of
one-nibble n h = rw (row-is-1 h) (ap (λ (d : ℕ). d ∷ []) (omega arith))

pub short-bytes : (m s v l : ℕ) → m < 8 → s < 8 → v < 8 → l < 8
    → header_bytes (header_with_numbers m s v l) ≡ (m * 16 + s) ∷ (v * 16 + l) ∷ []
unfolding header_bytes packed
short-bytes m s v l a b c d = rw (one-nibble m a, one-nibble s b, one-nibble v c, one-nibble l d)

pub length-short : (h : Header) → h.main_type < 8 → h.subtype < 8 → h.version < 8 → h.length_number < 8 → length (header_bytes h) ≡ 2
length-short h a b c d = length-header h ∙ rw (row-is-1 a, row-is-1 b, row-is-1 c, row-is-1 d)

-- ---- what is read and written again is the same bytes

pub length-nibbles : (bs : List ℕ) → length (nibbles bs) ≡ 2 * length bs
unfolding nibbles
length-nibbles [] = refl
length-nibbles (b ∷ bs) = let i : length (nibbles bs) ≡ 2 * length bs = length-nibbles bs in omega arith

pub nibbles-below : (bs : List ℕ) → Below 256 bs → Below 16 (nibbles bs)
unfolding nibbles
nibbles-below [] h = tt
nibbles-below (b ∷ bs) h = let l : b < 256 = h.0 in (omega arith, (omega arith, nibbles-below bs h.1))

packed-nibbles : (bs : List ℕ) (n : ℕ) → n ≤ 2 * length bs → (n % 2 ≡ 0) ⊎ (get_or (nibbles bs) n 0 ≡ 0) → packed (take n (nibbles bs)) ≡ take ((n + 1) / 2) bs
unfolding packed nibbles
packed-nibbles [] n l e = let z : n ≡ 0 = omega arith in rw z
packed-nibbles (b ∷ bs) zero l e = refl
packed-nibbles (b ∷ bs) (suc zero) l e =
    elim e [ inl x ↦ let z : ◌≡◌ {A = ℕ} 0 1 = omega arith in absurd (omega arith) | inr x ↦ let y : b / 16 * 16 ≡ b = omega arith in ap (λ (k : ℕ). k ∷ []) y ]
packed-nibbles (b ∷ bs) (suc (suc n)) l e =
    let y : b / 16 * 16 + b % 16 ≡ b = omega arith in
    let h : (suc (suc n) + 1) / 2 ≡ suc ((n + 1) / 2) = omega arith in
    let i : packed (take n (nibbles bs)) ≡ take ((n + 1) / 2) bs =
    packed-nibbles bs n (omega arith) (elim e [ inl x ↦ inl (omega arith) | inr x ↦ inr x ]) in
    rw (y, h, i)

pub record HeaderBack (bs : List ℕ) (g : Parsed Header) : Type 0 where
  pub writable : Writable g.result
  pub within : g.used ≤ length bs
  pub again : header_bytes g.result ≡ take g.used bs

-- four varnibbles that were read, one behind the other
module _ (bs : List ℕ) (a b c d : Parsed ℕ) where
  abbrev pub four : ℕ
  four = a.used + b.used + c.used + d.used

  pub record FourRead : Type 0 where
    pub first : read_varnibble (nibbles bs) ≡ accept a
    pub second : read_varnibble (drop a.used (nibbles bs)) ≡ accept b
    pub third : read_varnibble (drop (a.used + b.used) (nibbles bs)) ≡ accept c
    pub fourth : read_varnibble (drop (a.used + b.used + c.used) (nibbles bs)) ≡ accept d
    pub pad : (eqb (four % 2) 0 || eqb (get_or (nibbles bs) four 0) 0) ≡ true

  abbrev four_of : Header
  four_of = header_with_numbers a.result b.result c.result d.result

  abbrev pub parsed_four : Parsed Header
  parsed_four = parsed four_of ((four + 1) / 2)

  four-back : Below 16 (nibbles bs) → FourRead → HeaderBack bs parsed_four
  unfolding header_bytes
  four-back k f =
      let ra : Back (nibbles bs) a = varnibble-read (nibbles bs) a k f.first in
      let rb : Back (drop a.used (nibbles bs)) b = varnibble-read (drop a.used (nibbles bs)) b (below-drop 16 a.used (nibbles bs) k) f.second in
      let rc : Back (drop (a.used + b.used) (nibbles bs)) c = varnibble-read (drop (a.used + b.used) (nibbles bs)) c (below-drop 16 (a.used + b.used) (nibbles bs) k) f.third in
      let rd : Back (drop (a.used + b.used + c.used) (nibbles bs)) d = varnibble-read (drop (a.used + b.used + c.used) (nibbles bs)) d (below-drop 16 (a.used + b.used + c.used) (nibbles bs) k) f.fourth in
      let len : length (nibbles bs) ≡ 2 * length bs = length-nibbles bs in
      let la : a.used ≤ length (nibbles bs) = ra.within in
      let lb : b.used ≤ length (nibbles bs) - a.used = rw length-drop at rb.within in
      let lc : c.used ≤ length (nibbles bs) - (a.used + b.used) = rw length-drop at rc.within in
      let ld : d.used ≤ length (nibbles bs) - (a.used + b.used + c.used) = rw length-drop at rd.within in
      let l : four ≤ 2 * length bs = omega arith in
      let pad : (four % 2 ≡ 0) ⊎ (get_or (nibbles bs) four 0 ≡ 0) =
      elim (or_cases (eqb (four % 2) 0) (eqb (get_or (nibbles bs) four 0) 0) f.pad) [ inl x ↦ inl (eqb-true (four % 2) 0 x) | inr x ↦ inr (eqb-true (get_or (nibbles bs) four 0) 0 x) ] in
      let all : nibbles_of four_of ≡ take four (nibbles bs) =
      rw (ra.again, rb.again, rc.again, rd.again, ← take-add a.used b.used (nibbles bs), ← take-add (a.used + b.used) c.used (nibbles bs), ← take-add (a.used + b.used + c.used) d.used (nibbles bs)) in
      record { writable = (ra.small, rb.small, rc.small, rd.small); within = omega arith; again = rw all (packed-nibbles bs four l pad) }

-- what holds of every four varnibbles so read holds of a header that was read
pub four-read {ℓ} : (bs : List ℕ) (P : Parsed Header → Type ℓ) → ((a b c d : Parsed ℕ) → FourRead bs a b c d → P (parsed_four bs a b c d))
    → (g : Parsed Header) → read_header bs ≡ accept g → P g
unfolding read_header
four-read bs P f g e =
    let a = answered (read_varnibble (nibbles bs)) _ e in
    let b = answered (read_varnibble (drop a.0.used (nibbles bs))) _ a.2 in
    let c = answered (read_varnibble (drop (a.0.used + b.0.used) (nibbles bs))) _ b.2 in
    let d = answered (read_varnibble (drop (a.0.used + b.0.used + c.0.used) (nibbles bs))) _ c.2 in
    let p = passed (eqb (four bs a.0 b.0 c.0 d.0 % 2) 0 || eqb (get_or (nibbles bs) (four bs a.0 b.0 c.0 d.0) 0) 0) _ _ d.2 in
    subst P (accept-inj {a = parsed_four bs a.0 b.0 c.0 d.0} p.1) (f a.0 b.0 c.0 d.0 (record { first = a.1; second = b.1; third = c.1; fourth = d.1; pad = p.0 }))

pub header_read : (bs : List ℕ) (g : Parsed Header) → Below 256 bs → read_header bs ≡ accept g → HeaderBack bs g
header_read bs g k e = four-read bs (HeaderBack bs) (λ a b c d. four-back bs a b c d (nibbles-below bs k)) g e

-- ---- nibbles by index: nibble i is in byte i / 2

pub nibble-high : (bs : List ℕ) (i : ℕ) → i < length bs → get_or (nibbles bs) (2 * i) 0 ≡ get_or bs i 0 / 16
unfolding nibbles
nibble-high [] i l = absurd (not-suc-le-zero l)
nibble-high (b ∷ bs) zero l = refl
nibble-high (b ∷ bs) (suc i) l =
    let e : 2 * suc i ≡ suc (suc (2 * i)) = omega arith in
    rw e (nibble-high bs i (le_of_suc-le-suc l))

pub nibble-low : (bs : List ℕ) (i : ℕ) → i < length bs → get_or (nibbles bs) (2 * i + 1) 0 ≡ get_or bs i 0 % 16
unfolding nibbles
nibble-low [] i l = absurd (not-suc-le-zero l)
nibble-low (b ∷ bs) zero l = refl
nibble-low (b ∷ bs) (suc i) l =
    let e : 2 * suc i + 1 ≡ suc (suc (2 * i + 1)) = omega arith in
    rw e (nibble-low bs i (le_of_suc-le-suc l))

-- ---- the raw header writer: what it writes reads back (`read-header`)

pub raw-header : (h : Header) → Writable h → raw_header h ≡ accept (header_bytes h)
unfolding raw_header write_varnibble header_bytes
raw-header h w = rw (le-leb h.main_type 4679 w.0, le-leb h.subtype 4679 w.1, le-leb h.version 4679 w.2, le-leb h.length_number 4679 w.3)
