-- A header of four numbers below 8 is two bytes, a nibble a number.
use Rattle.std.specs.Prelude.{Ok}
use Prim.Native.Nat.{ℕ, ◌/◌, ◌%◌, ◌≤◌, ◌<◌}
use mathlib.Core.Path.{◌≡◌, sym, ◌∙◌, ap}
use mathlib.Core.Bool.{Bool, true, ◌&&◌}
use mathlib.Core.List.{List, [], ◌∷◌}
use native.Mathlib.Nat.{div-add-mod'}
use native.Mathlib.Omega.{arith}
use lib.Dec.{ltb}
use lib.ListN.{length, get_or, drop}
use lib.Seq.{drop-cons}
use borrow.Author.Tests.{ltb-true}
use Rattle.iscc.specs.Answer.{accept}
use Rattle.iscc.specs.Header.{Header, header_with_numbers, header_bytes, read_header}
use Rattle.iscc.proofs.Booleans.{both_true}
use Rattle.iscc.proofs.Header.{read-header, short-bytes}
use Rattle.header.specs.declared.reader.RawHeader.{RawHeader}
use Rattle.header.specs.Representation.{header_read_as, header_fields, fields_of, short_header}
use Rattle.header.proofs.Read.{fields_told}

module _ (a b : ℕ) (rest : List ℕ) (a₁ : a / 16 < 8) (a₂ : a % 16 < 8) (b₁ : b / 16 < 8) (b₂ : b % 16 < 8) where
  abbrev nibbles : Header
  nibbles = header_with_numbers (a / 16) (a % 16) (b / 16) (b % 16)

  bytes : header_bytes nibbles ≡ a ∷ b ∷ []
  bytes = short-bytes (a / 16) (a % 16) (b / 16) (b % 16) a₁ a₂ b₁ b₂ ∙ rw (div-add-mod' a 16, div-add-mod' b 16)

  there : read_header (a ∷ b ∷ rest) ≡ accept (record { result = nibbles; used = 2 })
  there = rw bytes at (read-header nibbles rest (omega arith, omega arith, omega arith, omega arith))

module _ (bs : List ℕ) (r : Bool) (h : RawHeader) (l : 2 ≤ length bs)
    (e : r ≡ ltb (get_or bs 0 0) 128 && ltb (get_or bs 0 0 % 16) 8 && ltb (get_or bs 1 0) 128 && ltb (get_or bs 1 0 % 16) 8) (t : r ≡ true)
    (f : h ≡ short_header (get_or bs 0 0) (get_or bs 1 0)) where
  pub short-there : Ok h ≡ header_read_as (read_header bs)
  short-there =
      let a : ℕ = get_or bs 0 0 in
      let b : ℕ = get_or bs 1 0 in
      let p = both_true (ltb a 128 && ltb (a % 16) 8 && ltb b 128) (ltb (b % 16) 8) (sym e ∙ t) in
      let q = both_true (ltb a 128 && ltb (a % 16) 8) (ltb b 128) p.0 in
      let s = both_true (ltb a 128) (ltb (a % 16) 8) q.0 in
      let a₁ : a < 128 = ltb-true a 128 s.0 in
      let a₂ : a % 16 < 8 = ltb-true (a % 16) 8 s.1 in
      let b₁ : b < 128 = ltb-true b 128 q.1 in
      let b₂ : b % 16 < 8 = ltb-true (b % 16) 8 p.1 in
      let front : bs ≡ a ∷ b ∷ drop 2 bs = drop-cons bs 0 0 (omega arith) ∙ ap (λ (xs : List ℕ). a ∷ xs) (drop-cons bs 1 0 (omega arith)) in
      let there : read_header bs ≡ accept _ = ap read_header front ∙ there a b (drop 2 bs) (omega arith) a₂ (omega arith) b₂ in
      rw (f, there)

  pub short-fields : header_fields (Ok h) ≡ fields_of (read_header bs)
  short-fields = fields_told (Ok h) (read_header bs) short-there
