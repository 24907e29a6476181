-- The bytes of a composite by value.
use Rattle.std.specs.Prelude.{Ok, Err}
use Prim.Native.Nat.{ℕ, ◌+◌, ◌-◌, ◌*◌, ◌≤◌, ◌<◌}
use mathlib.Core.Path.{◌≡◌, refl, sym, ◌∙◌, ap, subst}
use mathlib.Core.Bool.{true, false}
use mathlib.Core.List.{List, [], ◌∷◌, ◌++◌, flatten}
use native.Mathlib.Omega.{arith}
use lib.ListN.{length, take, drop, get_or, set, length-append, length-drop}
use lib.Seq.{length-take-le}
use lib.Dec.{leb}
use borrow.Author.Tests.{le-leb, lt-leb}
use Rattle.iscc.specs.Refusals.{area_too_short}
use Rattle.iscc.specs.Answer.{accept, into, area_after}
use Rattle.iscc.specs.Header.{header_bytes}
use Rattle.iscc.specs.Permitted.{number, Set, set_of, unit_count}
use Rattle.iscc.specs.declared.main_type.Name.TheVariants.{Iscc}
use Rattle.iscc.specs.Meaning.{composite, Sized, Permitted}
use Rattle.iscc.specs.Item.{item_bytes, item_of}
use Rattle.iscc.specs.Representation.{written_as}
use Rattle.iscc.specs.Representation.{Written}
use Rattle.iscc.proofs.Lists.{all-at}
use Rattle.iscc.proofs.Header.{length-short, short-bytes}
use Rattle.iscc.proofs.Permitted.{set-small, subtype-small, count_most, set_back}
use Rattle.iscc.proofs.Parts.{put-behind}
use Rattle.std.specs.List.{flat_map}
use Rattle.composite.specs.Bodies.{Parts, Sound, filled_bodies, laid, composite_as}
use Rattle.composite.specs.Code.{composite_header, composite_bytes}
use Rattle.composite.proofs.Parts.{filled-eight, filled_at, laid-length, laid-flat, flat-laid}

-- ---- the last test of a writer

module _ (out d : List ℕ) (n : ℕ) (l : length out ≡ n) where
  abbrev Answers : Written → List ℕ → Type 0
  Answers r e = (r ≡ written_as (into (length d) (accept out))) × (e ≡ area_after (into (length d) (accept out)) d)

  pub into-short : length d < n → Answers (Err area_too_short) d
  into-short h = let s : leb (length out) (length d) ≡ false = lt-leb (length out) (length d) (omega arith) in rw s (refl, refl)

  pub into-fits : (e : List ℕ) → n ≤ length d → e ≡ area_after (accept out) d → Answers (Ok n) e
  into-fits e h q = let s : leb (length out) (length d) ≡ true = le-leb (length out) (length d) (omega arith) in rw s (ap Ok (sym l), q)

-- room in the part of an area behind its first n bytes
pub part_room : (a : List ℕ) (n k : ℕ) → n + k ≤ length a → k ≤ length (take (length a - n) (drop n a))
part_room a n k h = omega (arith, length-take-le (length a - n) (drop n a) (omega (arith, length-drop n a)), length-drop n a)

-- ---- a sound composite's own bytes

module _ (c : Parts) (ok : Sound c) where
  abbrev pub count : ℕ
  count = unit_count (set_of c.length_number)

  bodies-length : length (laid (λ i. get_or c.bodies i []) count) ≡ count * 8
  bodies-length = let m : count ≤ 5 = count_most (set_of c.length_number) in laid-length (λ i. get_or c.bodies i []) 8 count (λ i h. ok.bodies i (omega arith))

  pub subtype-fits : c.subtype < 8
  subtype-fits = let s : c.subtype ≤ 6 = subtype-small c.length_number c.subtype ok.subtype in omega arith

  pub number_fits : c.length_number < 8
  number_fits = let s : c.length_number ≤ 7 = ok.number in omega arith

  header-length : length (header_bytes (composite_header c)) ≡ 2
  header-length = length-short (composite_header c) (omega arith) subtype-fits (omega arith) number_fits

  pub code-length : length (composite_bytes c) ≡ 2 + count * 8
  unfolding composite_bytes
  code-length = length-append (header_bytes (composite_header c)) (laid (λ i. get_or c.bodies i []) count) ∙ omega (arith, header-length, bodies-length)

  -- the header's two bytes
  front-is : header_bytes (composite_header c) ≡ (number Iscc * 16 + c.subtype) ∷ c.length_number ∷ []
  front-is =
      let z : 0 * 16 + c.length_number ≡ c.length_number = omega arith in
      short-bytes (number Iscc) c.subtype 0 c.length_number (omega arith) subtype-fits (omega arith) number_fits
      ∙ ap (λ (x : ℕ). (number Iscc * 16 + c.subtype) ∷ x ∷ []) z

  -- an area whose first two bytes were set
  abbrev pub fronted : ℕ → List ℕ → List ℕ
  fronted m d = set (set d 0 (m * 16 + c.subtype)) 1 c.length_number

  header-set : (m : ℕ) (d : List ℕ) → m ≡ number Iscc → 2 ≤ length d → fronted m d ≡ area_after (accept (header_bytes (composite_header c))) d
  header-set m [] e h = absurd (omega (arith, h))
  header-set m (x ∷ []) e h = absurd (omega (arith, h))
  header-set m (x ∷ y ∷ d) e h = rw (front-is, e)

  -- and the bodies were put behind them
  pub code_put : (m k : ℕ) (d e : List ℕ) → m ≡ number Iscc → k ≡ count → 2 + k * 8 ≤ length d → e ≡ flat_map (λ x. x) (take k c.bodies)
      → take 2 (fronted m d) ++ (e ++ drop (2 + k * 8 - 2) (drop 2 (fronted m d))) ≡ area_after (accept (composite_bytes c)) d
  unfolding composite_bytes
  code_put m k d e em ek l ee =
      put-behind (header_bytes (composite_header c)) (laid (λ i. get_or c.bodies i []) count) d _ e 2 (k * 8) header-length (bodies-length ∙ ap (λ (n : ℕ). n * 8) (sym ek))
      (header-set m d em (omega arith)) (ee ∙ flat-laid c.bodies k ∙ ap (laid (λ i. get_or c.bodies i [])) ek)

-- ---- of a composite c whose fields are v

module _ (v c : Parts) (q : v ≡ c) (ok : Sound v) where
  pub code_size : (k : ℕ) → k ≡ unit_count (set_of v.length_number) → length (composite_bytes c) ≡ 2 + k * 8
  code_size k e = subst (λ (p : Parts). length (composite_bytes p) ≡ 2 + k * 8) q (code-length v ok ∙ ap (λ (n : ℕ). 2 + n * 8) (sym e))

  pub code_written : (m k : ℕ) (d e : List ℕ) → m ≡ number Iscc → k ≡ unit_count (set_of c.length_number) → 2 + k * 8 ≤ length d → e ≡ flat_map (λ x. x) (take k v.bodies)
      → take 2 (fronted v ok m d) ++ (e ++ drop (2 + k * 8 - 2) (drop 2 (fronted v ok m d))) ≡ area_after (accept (composite_bytes c)) d
  code_written m k d e em ek l ee =
      subst (λ (p : Parts). k ≡ unit_count (set_of p.length_number) → take 2 (fronted v ok m d) ++ (e ++ drop (2 + k * 8 - 2) (drop 2 (fronted v ok m d))) ≡ area_after (accept (composite_bytes p)) d)
      q (λ n. code_put v ok m k d e em n l ee) ek

-- ---- from a meaning

module _ (s v : ℕ) (u : Set) (bodies : List (List ℕ)) (p : Permitted (composite s v u bodies)) where
  pub sound-of : Sound (composite_as (composite s v u bodies))
  unfolding composite_as
  sound-of =
      record {
        number = set-small u;
        subtype = p.subtype;
        bodies = filled-eight (λ i. get_or bodies i []) (unit_count u) 5 (λ i h. (all-at (Sized 8) bodies i [] p.sized (omega (arith, p.count))).0);
      }

  bodies-laid : laid (λ i. get_or (filled_bodies (λ i. get_or bodies i []) (unit_count u) 5) i []) (unit_count u) ≡ flatten bodies
  bodies-laid =
      ap (laid (λ i. get_or (filled_bodies (λ i. get_or bodies i []) (unit_count u) 5) i [])) (sym p.count)
      ∙ laid-flat _ bodies (λ i h. filled_at (λ i. get_or bodies i []) (unit_count u) 5 i (omega (arith, p.count)) (omega (arith, p.count, count_most u)))

  pub code_of : composite_bytes (composite_as (composite s v u bodies)) ≡ item_bytes (item_of (composite s v u bodies))
  unfolding composite_as composite_bytes item_bytes item_of
  code_of = rw (set_back u, bodies-laid, p.version)
