-- What the writer's tests say of `write_unit`.
use Rattle.std.specs.Prelude.{Ok, Err}
use Prim.Native.Nat.{ℕ, ◌+◌, ◌≤◌, ◌<◌}
use mathlib.Core.Path.{◌≡◌, refl, sym, ◌∙◌, ap}
use mathlib.Core.Bool.{Bool, true, false, and-false}
use mathlib.Core.List.{List, ◌++◌}
use native.Mathlib.Omega.{arith}
use borrow.Author.Tests.{le-leb, lt-leb}
use lib.Dec.{leb}
use lib.ListN.{length, take, length-append}
use lib.Seq.{length-take-le}
use Rattle.iscc.specs.Answer.{Answer, accept, refuse, ◌>>◌, ◌otherwise◌, area_after}
use Rattle.iscc.specs.Refusals.{not_permitted, short_body, area_too_short}
use Rattle.iscc.specs.Header.{Header, header_with_numbers, header_bytes, write_header}
use Rattle.iscc.specs.Permitted.{MainType, number, type_of, main_type_of, is_unit, permits, body_bytes}
use Rattle.iscc.specs.declared.main_type.Name.TheVariants.{Meta, Semantic, Content, Data, Instance, Iscc, Id}
use Rattle.iscc.specs.Item.{unit_bytes, write_unit}
use Rattle.iscc.specs.Representation.{written_as}
use Rattle.iscc.specs.Representation.{Written}
use Rattle.iscc.proofs.Header.{length-short, raw-header}
use Rattle.iscc.proofs.Permitted.{Small, small, number_small, main_type_of-number}
use Rattle.unit.specs.Representation.{header_with}

-- every main type but a composite's is a unit's
unit-by : (m : MainType) → (m ≡ Iscc → ⊥) → is_unit m ≡ true
unit-by Meta f = refl
unit-by Semantic f = refl
unit-by Content f = refl
unit-by Data f = refl
unit-by Instance f = refl
unit-by Iscc f = absurd (f refl)
unit-by Id f = refl

-- a header of two bytes, written where they fit
pub header-written : (h : Header) (d : List ℕ) → h.main_type < 8 → h.subtype < 8 → h.version < 8 → h.length_number < 8 → 2 ≤ length d
    → area_after (write_header h (length d)) d ≡ area_after (accept (header_bytes h)) d
header-written h d a b c e l =
    let w : write_header h (length d) ≡ accept (header_bytes h) =
    rw (raw-header h (omega arith, omega arith, omega arith, omega arith), length-short h a b c e, le-leb 2 (length d) l) in
    ap (λ (r : Answer (List ℕ)). area_after r d) w

-- the writer's cases
module _ (m : MainType) (s v l : ℕ) (body d : List ℕ) where
  abbrev answer : Answer (List ℕ)
  answer = write_unit (header_with m s v l) body (length d)

  abbrev Answers : Written → List ℕ → Type 0
  Answers r e = (r ≡ written_as answer) × (e ≡ area_after answer d)

  named : main_type_of (number m) ≡ accept m
  named = main_type_of-number m

  pub write-composite : m ≡ Iscc → Answers (Err not_permitted) d
  unfolding unit_bytes main_type_of type_of
  write-composite e = rw e (refl, refl)

  module _ {p : Bool} (ep : p ≡ permits m s v l) where
    not-unit : p ≡ false → unit_bytes (header_with m s v l) body ≡ refuse not_permitted
    unfolding unit_bytes
    not-unit f = rw (named, ← ep, f, and-false (is_unit m))

    pub write-8 : p ≡ false → Answers (Err not_permitted) d
    write-8 f = rw (not-unit f) (refl, refl)

    module _ (unit : m ≡ Iscc → ⊥) (ok : p ≡ true) {k : ℕ} (ek : k ≡ body_bytes m s l) where
      pub numbers-small : Small s v l
      numbers-small = small m s v l (sym ep ∙ ok)

      unit-is : unit_bytes (header_with m s v l) body ≡ (leb k (length body) otherwise short_body >> accept (header_bytes (header_with m s v l) ++ take k body))
      unfolding unit_bytes
      unit-is = rw (named, unit-by m unit, ← ep, ok, ← ek)

      pub write-9 : length body < k → Answers (Err short_body) d
      write-9 g = rw (unit-is, lt-leb k (length body) g) (refl, refl)

      module _ (g : k ≤ length body) where
        bytes-are : unit_bytes (header_with m s v l) body ≡ accept (header_bytes (header_with m s v l) ++ take k body)
        bytes-are = unit-is ∙ rw (le-leb k (length body) g)

        size_is : length (header_bytes (header_with m s v l) ++ take k body) ≡ 2 + k
        size_is =
            let b : Small s v l = numbers-small in
            let a : number m ≤ 6 = number_small m in
            let two : length (header_bytes (header_with m s v l)) ≡ 2 = length-short (header_with m s v l) (omega arith) (omega arith) (omega arith) (omega arith) in
            simp (length-append, length-take-le k body g) (omega arith)

        pub write-15 : length d < 2 + k → Answers (Err area_too_short) d
        write-15 f = rw (bytes-are, size_is, lt-leb (2 + k) (length d) f) (refl, refl)

        pub write-ok : {n : ℕ} {e : List ℕ} → 2 + k ≤ length d → n ≡ number m
            → e ≡ area_after (accept (header_bytes (header_with_numbers n s v l) ++ take k body)) d → Answers (Ok (2 + k)) e
        write-ok f en h = rw (bytes-are, size_is, le-leb (2 + k) (length d) f) (ap Ok (sym size_is), rw en at h)
