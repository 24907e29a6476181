-- What the reader's tests say of `read_varnibble` and `read_header`.
use Prim.Native.Nat.{ℕ, ◌+◌, ◌-◌, ◌*◌, ◌/◌, ◌%◌, ◌^◌, ◌≤◌, ◌<◌}
use mathlib.Core.Path.{◌≡◌, refl, sym, ◌∙◌, ap}
use mathlib.Core.Bool.{Bool, true, false, ◌||◌}
use Rattle.std.proofs.Common.{Option, None, Some}
use Rattle.std.specs.Option.{ok_or}
use mathlib.Core.List.{List}
use native.Mathlib.Omega.{arith}
use native.Mathlib.Decide.{dec_lt}
use borrow.Author.Tests.{lt-ltb, le-ltb}
use lib.ListN.{length, get_or, take, drop}
use lib.Dec.{eqb, ltb, leb}
use Rattle.iscc.specs.Digits.{value}
use Rattle.iscc.specs.Varnibble.{Parsed, parsed, first_of, row_by, read_varnibble}
use Rattle.iscc.specs.Answer.{Answer, accept, refuse, ◌>>◌, ◌otherwise◌}
use Rattle.iscc.specs.Refusals.{bad_header}
use Rattle.iscc.specs.Header.{nibbles, read_header}
use Rattle.iscc.specs.Header as iscc
use Rattle.iscc.proofs.Varnibble.{row-some, read-ones, read-cut, read_here}
use Rattle.iscc.proofs.Header.{length-nibbles}
use Rattle.header.specs.declared.reader.RawHeader.{RawHeader}
use Rattle.header.specs.declared.reader.Number.{Number}
use Rattle.header.specs.declared.rows.Row.{Row}
use Rattle.header.specs.Representation.{HeaderRead}
use Rattle.header.specs.Representation.{row_as, row_for, number_as, header_read_as, header_fields, fields_of}

-- a first nibble has a row unless it is 1111
no_row : (h : ℕ) → None ≡ row_for h → 15 ≤ h
no_row h e = elim (dec_lt h 15) [ yes l ↦ let z : None ≡ Some (row_as (row_by h)) = rw (lt-ltb h 15 l) at e in let y : ◌≡◌ {A = ℕ} 0 1 = cc in absurd (omega arith) | no l ↦ omega arith ]

a_row : (h : ℕ) (r : Row) → Some r ≡ row_for h → (h < 15) × (r ≡ row_as (row_by h))
a_row h r e =
    elim (dec_lt h 15) [
      | yes l ↦ let z : Some r ≡ Some (row_as (row_by h)) = rw (lt-ltb h 15 l) at e in (l, cc)
      | no l ↦ let z : Some r ≡ None = rw (le-ltb h 15 (omega arith)) at e in let y : ◌≡◌ {A = ℕ} 0 1 = cc in absurd (omega arith)
    ]

-- the varnibble at a nibble, by what the code finds there
module _ (bs : List ℕ) (at : ℕ) where
  abbrev found : Option Number
  found = number_as (read_varnibble (drop at (nibbles bs)))

  pub number-none : length bs ≤ at / 2 → None ≡ found
  number-none l = sym (ap number_as (read-cut (nibbles bs) at (omega (arith, length-nibbles bs, row-some (get_or (nibbles bs) at 0)))))

  module _ {h : ℕ} (there : at / 2 < length bs) (eh : h ≡ get_or (nibbles bs) at 0) where
    pub number-ones : None ≡ row_for h → None ≡ found
    number-ones n = sym (ap number_as (read-ones (nibbles bs) at (rw eh at (no_row h n))))

    module _ (r : Row) (row-there : Some r ≡ row_for h) (some : 1 ≤ r.width) where
      row-width : row_by (get_or (nibbles bs) at 0) ≡ r.width
      row-width = ap row_by (sym eh) ∙ ap (λ (x : Row). x.width) (sym (a_row h r row-there).1)

      pub number_cut : length bs ≤ (at + r.width - 1) / 2 → None ≡ found
      number_cut l = sym (ap number_as (read-cut (nibbles bs) at (rw row-width (omega (arith, length-nibbles bs)))))

      pub number-here : {v : ℕ} → (at + r.width - 1) / 2 < length bs → v ≡ value 4 (take r.width (drop at (nibbles bs)))
          → Some (record { value = r.first + v % r.count; width = r.width }) ≡ found
      number-here {v} l ev =
          let er : r ≡ row_as (row_by h) = (a_row h r row-there).1 in
          let few : h < 15 = (a_row h r row-there).0 in
          let k : ℕ = r.width in
          let w : row_by h ≡ k = ap (λ (x : Row). x.width) (sym er) in
          let f : r.first ≡ first_of k = ap (λ (x : Row). x.first) er ∙ ap first_of w in
          let c : r.count ≡ 2 ^ (3 * k) = ap (λ (x : Row). x.count) er ∙ ap (λ (j : ℕ). 2 ^ (3 * j)) w in
          rw (f, c, ev, ← row-width) (sym (ap number_as (read_here (nibbles bs) at (rw eh at few) (rw row-width (omega (arith, length-nibbles bs))))))

-- ---- what a number found, or none, says of the varnibble read

only-7 : (a b c : Bool) (g : Parsed ℕ) → None ≡ number_as (a otherwise bad_header >> (b otherwise bad_header >> (c otherwise bad_header >> accept g)))
    → (a otherwise bad_header >> (b otherwise bad_header >> (c otherwise bad_header >> accept g))) ≡ refuse bad_header
only-7 false b c g e = refl
only-7 true false c g e = refl
only-7 true true false g e = refl
only-7 true true true g e = let z : ◌≡◌ {A = ℕ} 0 1 = cc in absurd (omega arith)

stopped : (ns : List ℕ) → None ≡ number_as (read_varnibble ns) → read_varnibble ns ≡ refuse bad_header
unfolding read_varnibble
stopped ns e = only-7 (ltb 0 (length ns)) (ltb (get_or ns 0 0) 15) (leb (row_by (get_or ns 0 0)) (length ns)) _ e

accepted-number : (r : Answer (Parsed ℕ)) (n : Number) → Some n ≡ number_as r → r ≡ accept (parsed n.value n.width)
accepted-number (accept g) n e = let m : n ≡ record { value = g.result; width = g.used } = cc in ap (λ (x : Number). accept (parsed x.value x.width)) (sym m)
accepted-number (refuse q) n e = let z : ◌≡◌ {A = ℕ} 0 1 = cc in absurd (omega arith)

-- ---- the header reader's cases

module _ (bs : List ℕ) where
  abbrev Bad : Type 0
  Bad = ok_or {T = RawHeader} None bad_header ≡ header_read_as (read_header bs)

  pub bad-first : None ≡ number_as (read_varnibble (nibbles bs)) → Bad
  unfolding read_header
  bad-first z = rw (stopped _ z)

  module _ {a : Number} (first : Some a ≡ number_as (read_varnibble (nibbles bs))) where
    first-is : read_varnibble (nibbles bs) ≡ accept (parsed a.value a.width)
    first-is = accepted-number _ _ first

    pub bad-second : None ≡ number_as (read_varnibble (drop a.width (nibbles bs))) → Bad
    unfolding read_header
    bad-second z = rw (first-is, stopped _ z)

    module _ {b : Number} (second : Some b ≡ number_as (read_varnibble (drop a.width (nibbles bs)))) where
      second_is : read_varnibble (drop a.width (nibbles bs)) ≡ accept (parsed b.value b.width)
      second_is = accepted-number _ _ second

      pub bad-third : None ≡ number_as (read_varnibble (drop (a.width + b.width) (nibbles bs))) → Bad
      unfolding read_header
      bad-third z = rw (first-is, second_is, stopped _ z)

      module _ {c : Number} (third : Some c ≡ number_as (read_varnibble (drop (a.width + b.width) (nibbles bs)))) where
        third-is : read_varnibble (drop (a.width + b.width) (nibbles bs)) ≡ accept (parsed c.value c.width)
        third-is = accepted-number _ _ third

        pub bad-fourth : None ≡ number_as (read_varnibble (drop (a.width + b.width + c.width) (nibbles bs))) → Bad
        unfolding read_header
        bad-fourth z = rw (first-is, second_is, third-is, stopped _ z)

        module _ {d : Number} (fourth : Some d ≡ number_as (read_varnibble (drop (a.width + b.width + c.width) (nibbles bs)))) where
          abbrev widths : ℕ
          widths = a.width + b.width + c.width + d.width

          fourth-is : read_varnibble (drop (a.width + b.width + c.width) (nibbles bs)) ≡ accept (parsed d.value d.width)
          fourth-is = accepted-number _ _ fourth

          module _ {p : Bool} (e : p ≡ (eqb (widths % 2) 0 || eqb (get_or (nibbles bs) widths 0) 0)) where
            pub bad-pad : p ≡ false → Bad
            unfolding read_header
            bad-pad z = rw (first-is, second_is, third-is, fourth-is, ← e, z)

            pub header-good : {n : ℕ} → n ≡ (widths + 1) / 2 → p ≡ true
                → ok_or {T = RawHeader} (Some (record { header = record { main_type = a.value; subtype = b.value; version = c.value; length_number = d.value }; used = n })) bad_header
                ≡ header_read_as (read_header bs)
            unfolding read_header
            header-good u z = rw (u, first-is, second_is, third-is, fourth-is, ← e, z)

-- ---- what the answer tells is what the definition's answer tells

pub fields_told : (r : HeaderRead) (x : Answer (Parsed iscc.Header)) → r ≡ header_read_as x → header_fields r ≡ fields_of x
unfolding fields_of
fields_told r (accept g) e = ap header_fields e
fields_told r (refuse q) e = ap header_fields e
