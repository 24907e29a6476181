-- Blanks at both ends and the scheme, by index.
use Prim.Native.Nat.{ℕ, ◌+◌, ◌-◌, ◌≤◌, ◌<◌}
use Rattle.std.proofs.Common.{Option}
use Rattle.std.specs.List.{AllWithin, HoldsAt}
use Rattle.std.specs.Option.{MatchOption, unwrap_or}
use Rattle.std.proofs.lemmas.Iterator.{index_from_first}
use mathlib.Core.Path.{◌≡◌, refl, sym, ◌∙◌, ap}
use mathlib.Core.Bool.{Bool, true, false, not, cond}
use mathlib.Core.List.{List, [], ◌∷◌, map}
use native.Mathlib.Numerals.{add-one}
use native.Mathlib.Omega.{arith}
use lib.ListN.{length, get_or, take, length-take, length-map}
use lib.Seq.{take_all}
use borrow.Author.Tests.{not-true, not-false, lt-ltb, le-ltb, le-leb, lt-leb}
use native.Mathlib.Decide.{dec_lt}
use Rattle.iscc.specs.Alphabet.{upper}
use Rattle.iscc.specs.Lists.{same_bytes, first_not}
use Rattle.iscc.specs.Doors.{is_blank, trim_end, scheme, scheme_length}
use Rattle.iscc.proofs.Text.{trim_end-skip, trim_end-stop}
use Rattle.iscc.proofs.Demand3.{same_bytes-refl, same_bytes-eq}
use Rattle.std.specs.Char.{to_ascii_lowercase}

-- ---- blanks at the start: as many as there are characters before the first that is none

pub blanks-first : (t : List ℕ) (r : Option ℕ)
    → MatchOption r (AllWithin (λ c. not (is_blank c) ≡ false) t 0 (length t)) (λ i. (i < length t) × HoldsAt (λ c. not (is_blank c) ≡ true) t i × AllWithin (λ c. not (is_blank c) ≡ false) t 0 i)
    → first_not is_blank t ≡ unwrap_or r (length t)
unfolding first_not
blanks-first t r h =
    index_from_first (first_not is_blank) (λ c. not (is_blank c) ≡ true) (λ c. not (is_blank c) ≡ false) refl
    (λ x xs e. rw (not-true (is_blank x) e))
    (λ x xs e. rw (not-false (is_blank x) e, add-one)) t r h

-- ---- blanks at the end: by the last character

whole-is : (t : List ℕ) → 1 ≤ length t → take (length t - 1 + 1) t ≡ t
whole-is t l = take_all (length t - 1 + 1) t (omega arith)

pub end-none : (t : List ℕ) → length t < 1 → length t ≡ length (trim_end t)
unfolding trim_end
end-none [] l = refl
end-none (c ∷ t) l = absurd (omega (arith, l))

pub end-blank : (t : List ℕ) → 1 ≤ length t → is_blank (get_or t (length t - 1) 0) ≡ true → trim_end (take (length t - 1) t) ≡ trim_end t
end-blank t l e = sym (trim_end-skip t (length t - 1) (omega arith) e) ∙ ap trim_end (whole-is t l)

pub end-kept : (t : List ℕ) → 1 ≤ length t → is_blank (get_or t (length t - 1) 0) ≡ false → length t ≡ length (trim_end t)
end-kept t l e = ap length (sym (ap trim_end (sym (whole-is t l)) ∙ trim_end-stop t (length t - 1) (omega arith) e ∙ whole-is t l))

-- ---- the scheme: the first five characters, in any letter case

lower-upper : (c : ℕ) → to_ascii_lowercase (upper c) ≡ to_ascii_lowercase c
unfolding upper
lower-upper c =
    elim (dec_lt c 97) [
      | yes a ↦ rw (lt-leb 97 c a) refl
      | no a ↦ let a' : 97 ≤ c = omega arith in elim (dec_lt 122 c) [
        | yes b ↦ rw (le-leb 97 c a', lt-leb c 122 b) refl
        | no b ↦
            let b' : c ≤ 122 = omega arith in
            let d : 65 ≤ c - 32 = omega arith in
            let e : c - 32 < 91 = omega arith in
            let f : 65 ≤ c = omega arith in
            let g : 91 ≤ c = omega arith in
            rw (le-leb 97 c a', le-leb c 122 b', le-ltb (c - 32) 65 d, lt-ltb (c - 32) 91 e, le-ltb c 65 f, le-ltb c 91 g) (omega arith)
      ]
    ]

upper-lower : (c : ℕ) → upper (to_ascii_lowercase c) ≡ upper c
unfolding upper
upper-lower c =
    elim (dec_lt c 65) [
      | yes a ↦ rw (lt-ltb c 65 a) refl
      | no a ↦ let a' : 65 ≤ c = omega arith in elim (dec_lt c 91) [
        | yes b ↦
            let d : 97 ≤ c + 32 = omega arith in
            let e : c + 32 ≤ 122 = omega arith in
            let f : c < 97 = omega arith in
            rw (le-ltb c 65 a', lt-ltb c 91 b, le-leb 97 (c + 32) d, le-leb (c + 32) 122 e, lt-leb 97 c f) (omega arith)
        | no b ↦ let b' : 91 ≤ c = omega arith in rw (le-ltb c 65 a', le-ltb c 91 b') refl
      ]
    ]

lowers : (t : List ℕ) → map to_ascii_lowercase (map upper t) ≡ map to_ascii_lowercase t
lowers [] = refl
lowers (c ∷ t) = rw (lower-upper c, lowers t)

uppers : (t : List ℕ) → map upper (map to_ascii_lowercase t) ≡ map upper t
uppers [] = refl
uppers (c ∷ t) = rw (upper-lower c, uppers t)

abbrev SameLetters : List ℕ → Type 0
SameLetters t = map to_ascii_lowercase t ≡ map to_ascii_lowercase (73 ∷ 83 ∷ 67 ∷ 67 ∷ 58 ∷ [])

module _ (t f : List ℕ) (front : f ≡ take 5 t) where
  pub scheme-there : SameLetters f → 5 ≡ scheme_length t
  unfolding scheme_length scheme upper
  scheme-there e =
      let u : map upper f ≡ scheme = sym (uppers f) ∙ ap (map upper) e in
      rw (← front, u, same_bytes-refl scheme)

  pub scheme-other : (SameLetters f → ⊥) → 0 ≡ scheme_length t
  unfolding scheme_length scheme upper
  scheme-other n = go (same_bytes (map upper (take 5 t)) scheme) refl
    where
      go : (b : Bool) → same_bytes (map upper (take 5 t)) scheme ≡ b → ◌≡◌ {A = ℕ} 0 (cond b 5 0)
      go true q =
          let u : map upper (take 5 t) ≡ scheme = same_bytes-eq (map upper (take 5 t)) scheme q in
          absurd (n (ap (map to_ascii_lowercase) front ∙ sym (lowers (take 5 t)) ∙ ap (map to_ascii_lowercase) u))
      go false q = refl

pub scheme-cut : (t : List ℕ) → length t < 5 → 0 ≡ scheme_length t
scheme-cut t l =
    scheme-other t (take 5 t) refl (λ e. let k : length (take 5 t) ≡ 5 = sym (length-map (take 5 t) to_ascii_lowercase) ∙ ap length e in omega (arith, length-take 5 t))
