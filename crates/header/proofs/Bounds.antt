-- What callers of the reader may count on: bounds of a header that was read, and the definitions' value behind the code's.
use Rattle.std.specs.Prelude.{Ok}
use Prim.Native.Nat.{ℕ, ◌+◌, ◌-◌, ◌*◌, ◌%◌, ◌^◌, ◌≤◌, ◌<◌}
use mathlib.Core.Path.{◌≡◌, refl, ap, subst}
use mathlib.Core.Bool.{Bool, true, false, cond}
use mathlib.Core.List.{List}
use native.Mathlib.Omega.{arith}
use borrow.Author.Tests.{leb-true}
use lib.ListN.{length, get_or, take, drop, length-drop}
use lib.Dec.{ltb, leb}
use Rattle.iscc.specs.Answer.{Answer, accept, refuse}
use Rattle.iscc.specs.Digits.{value}
use Rattle.iscc.specs.Varnibble.{Parsed, first_of, row_by, read_varnibble}
use Rattle.iscc.specs.Header.{Writable, nibbles, read_header}
use Rattle.iscc.specs.Header as iscc
use Rattle.iscc.proofs.Answer.{passed, accept-inj}
use Rattle.iscc.proofs.Header.{length-nibbles, FourRead, parsed_four, four-read}
use Rattle.header.specs.declared.reader.RawHeader.{RawHeader}
use Rattle.header.specs.Representation.{header_from, raw_header_as, header_read_as}

-- a varnibble that was read
pub record NumberBounds (ns : List ℕ) (g : Parsed ℕ) : Type 0 where
  pub some : 1 ≤ g.used
  pub most : g.used ≤ 4
  pub within : g.used ≤ length ns
  pub small : g.result ≤ 4679
  pub short : g.result < 8 → g.used ≡ 1

row-cases : (P : ℕ → Type 0) → P 1 → P 2 → P 3 → P 4 → (a b c : Bool) → P (cond a 1 (cond b 2 (cond c 3 4)))
row-cases P p q r s true b c = p
row-cases P p q r s false true c = q
row-cases P p q r s false false true = r
row-cases P p q r s false false false = s

row-bounds : (h v : ℕ) → (1 ≤ row_by h) × (row_by h ≤ 4) × (first_of (row_by h) + v % 2 ^ (3 * row_by h) ≤ 4679) × (first_of (row_by h) + v % 2 ^ (3 * row_by h) < 8 → row_by h ≡ 1)
unfolding row_by first_of
row-bounds h v =
    row-cases (λ k. (1 ≤ k) × (k ≤ 4) × (first_of k + v % 2 ^ (3 * k) ≤ 4679) × (first_of k + v % 2 ^ (3 * k) < 8 → k ≡ 1))
    (omega arith, omega arith, omega arith, λ _. refl)
    (omega arith, omega arith, omega arith, λ x. absurd (omega arith))
    (omega arith, omega arith, omega arith, λ x. absurd (omega arith))
    (omega arith, omega arith, omega arith, λ x. absurd (omega arith))
    (ltb h 8) (ltb h 12) (ltb h 14)

pub number-bounds : (ns : List ℕ) (g : Parsed ℕ) → read_varnibble ns ≡ accept g → NumberBounds ns g
unfolding read_varnibble
number-bounds ns g e =
    let h : ℕ = get_or ns 0 0 in
    let p₁ = passed (ltb 0 (length ns)) _ _ e in
    let p₂ = passed (ltb h 15) _ _ p₁.1 in
    let p₃ = passed (leb (row_by h) (length ns)) _ _ p₂.1 in
    let b = row-bounds h (value 4 (take (row_by h) ns)) in
    subst (NumberBounds ns) (accept-inj p₃.1)
    (record { some = b.0; most = b.1; within = leb-true (row_by h) (length ns) p₃.0; small = b.2; short = b.3 })

-- a header that was read
pub record HeaderBounds (bs : List ℕ) (g : Parsed iscc.Header) : Type 0 where
  pub least : 2 ≤ g.used
  pub most : g.used ≤ 8
  pub within : g.used ≤ length bs
  pub numbers : Writable g.result
  pub short : g.result.main_type < 8 → g.result.subtype < 8 → g.result.version < 8 → g.result.length_number < 8 → g.used ≡ 2

four-bounds : (bs : List ℕ) (a b c d : Parsed ℕ) → FourRead bs a b c d → HeaderBounds bs (parsed_four bs a b c d)
four-bounds bs a b c d f =
    let p : NumberBounds (nibbles bs) a = number-bounds (nibbles bs) a f.first in
    let q : NumberBounds (drop a.used (nibbles bs)) b = number-bounds (drop a.used (nibbles bs)) b f.second in
    let r : NumberBounds (drop (a.used + b.used) (nibbles bs)) c = number-bounds (drop (a.used + b.used) (nibbles bs)) c f.third in
    let s : NumberBounds (drop (a.used + b.used + c.used) (nibbles bs)) d = number-bounds (drop (a.used + b.used + c.used) (nibbles bs)) d f.fourth in
    let last : d.used ≤ length (nibbles bs) - (a.used + b.used + c.used) = rw length-drop at s.within in
    let len : length (nibbles bs) ≡ 2 * length bs = length-nibbles bs in
    record {
      least = omega (arith, p.some, q.some, r.some, s.some);
      most = omega (arith, p.most, q.most, r.most, s.most);
      within = omega (arith, s.some);
      numbers = (p.small, q.small, r.small, s.small);
      short = λ x y z w. omega (arith, p.short x, q.short y, r.short z, s.short w);
    }

pub header-bounds : (bs : List ℕ) (g : Parsed iscc.Header) → read_header bs ≡ accept g → HeaderBounds bs g
header-bounds bs = four-read bs (HeaderBounds bs) (four-bounds bs)

-- the definitions' value behind a header in the code
abbrev pub parsed_from : RawHeader → Parsed iscc.Header
parsed_from h = record { result = header_from h.header; used = h.used }

pub read_as : (r : Answer (Parsed iscc.Header)) (h : RawHeader) → header_read_as r ≡ Ok h → r ≡ accept (parsed_from h)
read_as (accept g) h e = let s : raw_header_as g ≡ h = cc in ap (λ (x : RawHeader). accept (parsed_from x)) s
read_as (refuse q) h e = let z : ◌≡◌ {A = ℕ} 0 1 = cc in absurd (omega arith)

pub raw-bounds : (bs : List ℕ) (h : RawHeader) → header_read_as (read_header bs) ≡ Ok h → HeaderBounds bs (parsed_from h)
raw-bounds bs h e = header-bounds bs (parsed_from h) (read_as (read_header bs) h e)
