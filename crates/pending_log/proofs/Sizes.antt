-- The size of the field that starts at an offset of a log, by its length bytes; none where it is not whole.
use Prim.Native.Nat.{ℕ, ◌+◌, ◌-◌, ◌*◌, ◌≤◌, ◌<◌}
use mathlib.Core.Path.{◌≡◌, refl, sym, ◌∙◌, ap}
use mathlib.Core.Bool.{Bool, true, false, cond}
use mathlib.Core.List.{List, [], ◌∷◌}
use native.Mathlib.Omega.{arith}
use Rattle.std.specs.Prelude.{Some, None}
use lib.ListN.{length, get_or, take, drop, length-drop, length-take}
use lib.Seq.{drop-drop, get_or-drop}
use borrow.Author.Tests.{le-leb, lt-leb}
use Rattle.iscc.specs.Digits.{value}
use Rattle.loans.specs.Fields.{Field, first_size, first_is_whole, first_field}
use Rattle.loans.proofs.Fields.{size-least, whole-size}
use Rattle.pending_log.specs.WholeSize.{whole_size}

two_bytes : (bs : List ℕ) → 3 ≤ length bs → value 8 (take 2 (drop 1 bs)) ≡ 256 * get_or bs 1 0 + get_or bs 2 0
unfolding value
two_bytes [] h = absurd (omega arith)
two_bytes (a ∷ []) h = absurd (omega arith)
two_bytes (a ∷ b ∷ []) h = absurd (omega arith)
two_bytes (a ∷ b ∷ c ∷ ds) h = omega arith

torn-size : (bs : List ℕ) → length bs < first_size bs → None ≡ whole_size bs
unfolding whole_size first_is_whole
torn-size bs h = let e = lt-leb (first_size bs) (length bs) h in rw e

sized : (bs : List ℕ) → first_size bs ≤ length bs → Some (first_size bs) ≡ whole_size bs
unfolding whole_size first_is_whole
sized bs h = let e = le-leb (first_size bs) (length bs) h in rw e

-- ---- the size, as the code reads it

module _ (log : List ℕ) (offset : ℕ) (within : offset ≤ length log) where
  pub head-torn : length log - offset < 3 → None ≡ whole_size (drop offset log)
  head-torn h = torn-size (drop offset log) (omega (arith, h, size-least (drop offset log), length-drop offset log))

  module _ (whole : 3 ≤ length log - offset) (high low : ℕ) (h : high ≡ get_or log (offset + 1) 0) (l : low ≡ get_or log (offset + 2) 0) where
    size_is : 3 + 256 * high + low ≡ first_size (drop offset log)
    unfolding first_size
    size_is =
        let v = two_bytes (drop offset log) (omega (arith, length-drop offset log)) in
        let a = get_or-drop offset log 1 0 in
        let b = get_or-drop offset log 2 0 in
        omega (arith, v, a, b, h, l)

    pub body-torn : length log - offset < 3 + 256 * high + low → None ≡ whole_size (drop offset log)
    body-torn k = torn-size (drop offset log) (omega (arith, k, size_is, length-drop offset log))

    pub size-whole : 3 + 256 * high + low ≤ length log - offset → Some (3 + 256 * high + low) ≡ whole_size (drop offset log)
    size-whole k = ap Some size_is ∙ sized (drop offset log) (omega (arith, k, size_is, length-drop offset log))

-- ---- what a size says, and that there is none

pub is-torn : (bs : List ℕ) → whole_size bs ≡ None → first_is_whole bs ≡ false
unfolding whole_size
is-torn bs e = go (first_is_whole bs) e
  where
    go : (b : Bool) → cond b (Some (first_size bs)) None ≡ None → b ≡ false
    go true e = let z : ◌≡◌ {A = ℕ} 0 1 = cc in absurd (omega arith)
    go false e = refl

pub is_whole : (bs : List ℕ) (n : ℕ) → whole_size bs ≡ Some n → (first_is_whole bs ≡ true) × (first_size bs ≡ n)
unfolding whole_size
is_whole bs n e = go (first_is_whole bs) e
  where
    go : (b : Bool) → cond b (Some (first_size bs)) None ≡ Some n → (b ≡ true) × (first_size bs ≡ n)
    go true e = (refl, cc)
    go false e = let z : ◌≡◌ {A = ℕ} 0 1 = cc in absurd (omega arith)

-- ---- the field at an offset

pub field-is : (log : List ℕ) (offset size : ℕ) → offset ≤ length log → whole_size (drop offset log) ≡ Some size
    → ◌≡◌ {A = Field} (record { tag = get_or log offset 0; body = take (offset + size - (offset + 3)) (drop (offset + 3) log) }) (first_field (drop offset log))
unfolding first_field first_size
field-is log offset size within e =
    let w = is_whole (drop offset log) size e in
    let k : offset + size - (offset + 3) ≡ value 8 (take 2 (drop 1 (drop offset log))) = omega (arith, w.1) in
    let i : offset + 0 ≡ offset = omega arith in
    rw (k, get_or-drop offset log 0 0, i, drop-drop 3 offset log)

pub record FieldThere (log : List ℕ) (offset : ℕ) (f : Field) : Type 0 where
  pub whole : first_is_whole (drop offset log) ≡ true
  pub field : f ≡ first_field (drop offset log)
  pub size_is : 3 + length f.body ≡ first_size (drop offset log)
  pub fits : offset + (3 + length f.body) ≤ length log

pub field-there : (log : List ℕ) (offset : ℕ) → offset ≤ length log → (f : Field) → true ≡ first_is_whole (drop offset log)
    → f ≡ first_field (drop offset log) → FieldThere log offset f
unfolding first_field first_size
field-there log offset within f w e =
    let rest = drop offset log in
    let size : 3 + value 8 (take 2 (drop 1 rest)) ≤ length rest = whole-size rest (sym w) in
    let n : 3 + length f.body ≡ first_size rest =
    ap (λ (x : Field). 3 + length x.body) e ∙ simp (length-take, length-drop) (omega (arith, size, length-drop offset log)) in
    record { whole = sym w; field = e; size_is = n; fits = omega (arith, within, n, size, length-drop offset log) }
