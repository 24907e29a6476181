-- Where the characters of the run stand in the typed text: by index, and that they stand there.
use Prim.Native.Nat.{ℕ, zero, suc, ◌+◌, ◌-◌, ◌≤◌, ◌<◌}
use mathlib.Core.Path.{◌≡◌, refl, sym, ◌∙◌, ap}
use mathlib.Core.Bool.{Bool, true, false, cond}
use mathlib.Core.List.{List, [], ◌∷◌}
use native.Mathlib.Numerals.{add-one}
use native.Mathlib.Omega.{arith}
use native.Mathlib.Nat.{not-suc-le-zero, le_of_suc-le-suc}
use lib.ListN.{length, get_or, take, drop, length-take, length-drop, drop_of_length-le}
use lib.Seq.{take_all, drop-cons, drop-drop, get_or-take, get_or-drop}
use lib.Dec.{eqb}
use borrow.Author.Tests.{eq-eqb, ne_eqb}
use Rattle.iscc.specs.Doors.{is_blank, trim_start, keep, trim_end, scheme_length, drop_hyphens, trimmed, behind_scheme, cleaned}
use Rattle.iscc.specs.Lists.{first_not}
use Rattle.iscc.proofs.Parts.{drop-take}
use Rattle.payload.specs.Offsets.{start, offset_in, offset_of}

-- ---- the span behind the scheme

trim_start-is : (t : List ℕ) → trim_start t ≡ drop (first_not is_blank t) t
unfolding trim_start first_not
trim_start-is [] = refl
trim_start-is (c ∷ cs) = go (is_blank c) (trim_start-is cs)
  where
    go : (b : Bool) → trim_start cs ≡ drop (first_not is_blank cs) cs → cond b (trim_start cs) (c ∷ cs) ≡ drop (cond b (suc (first_not is_blank cs)) 0) (c ∷ cs)
    go true ih = ih
    go false ih = refl

trim_end-is : (t : List ℕ) → trim_end t ≡ take (length (trim_end t)) t
unfolding trim_end
trim_end-is [] = refl
trim_end-is (c ∷ cs) = go (trim_end cs) (trim_end-is cs)
  where
    one : (b : Bool) → cond b [] (c ∷ []) ≡ take (length (cond b [] (c ∷ []))) (c ∷ cs)
    one true = refl
    one false = refl

    go : (w : List ℕ) → w ≡ take (length w) cs → keep c w ≡ take (length (keep c w)) (c ∷ cs)
    go [] e = one (is_blank c)
    go (d ∷ ds) e = ap (λ (l : List ℕ). c ∷ l) e

trimmed-is : (t : List ℕ) → trimmed t ≡ take (length (trimmed t)) (drop (first_not is_blank t) t)
unfolding trimmed
trimmed-is t = trim_end-is (trim_start t) ∙ ap (take (length (trim_end (trim_start t)))) (trim_start-is t)

-- what the code finds, one part after the other
module _ (t rest head : List ℕ) (b n k : ℕ) (r : rest ≡ take (length t - b) (drop b t)) (h : head ≡ take (n - 0) rest)
    (e : b ≡ first_not is_blank t) (f : n ≡ length (trim_end rest)) (g : k ≡ scheme_length head) where
  head-is : head ≡ trimmed t
  unfolding trimmed
  head-is =
      let d : length (drop b t) ≡ length t - b = length-drop b t in
      let s : rest ≡ trim_start t = r ∙ take_all (length t - b) (drop b t) (omega arith) ∙ ap (λ (j : ℕ). drop j t) e ∙ sym (trim_start-is t) in
      let m : n - 0 ≡ length (trim_end rest) = omega arith in
      h ∙ ap (λ (j : ℕ). take j rest) m ∙ sym (trim_end-is rest) ∙ ap trim_end s

  pub code-begins : b + k ≡ start t
  code-begins = let q : k ≡ scheme_length (trimmed t) = g ∙ ap scheme_length head-is in rw (e, q)

  pub code-stands : take (length head - k) (drop k head) ≡ behind_scheme t
  unfolding behind_scheme
  code-stands =
      let q : k ≡ scheme_length (trimmed t) = g ∙ ap scheme_length head-is in
      take_all (length head - k) (drop k head) (omega (arith, length-drop k head)) ∙ rw (q, head-is)

behind-is : (t : List ℕ) → take (length (trimmed t) - scheme_length (trimmed t)) (drop (start t) t) ≡ behind_scheme t
unfolding behind_scheme
behind-is t =
    let b : ℕ = first_not is_blank t in
    let k : ℕ = scheme_length (trimmed t) in
    let n : ℕ = length (trimmed t) in
    sym (ap (drop k) (trimmed-is t) ∙ drop-take k n (drop b t) ∙ ap (take (n - k)) (drop-drop k b t))

pub offset-is : (t code : List ℕ) (i from r : ℕ) → from ≡ start t → code ≡ behind_scheme t → r ≡ offset_in code i → from + r ≡ offset_of t i
unfolding offset_of
offset-is t code i from r e f g = rw (e, g, f)

-- ---- the offset p of a character that is no hyphen: i, and what is left of it from i on

module _ (t : List ℕ) (p i left : ℕ) (inv : p ≡ i + offset_in (drop i t) left) where
  pub offset-hyphen : i < length t → get_or t i 0 ≡ 45 → p ≡ i + 1 + offset_in (drop (i + 1) t) left
  unfolding offset_in
  offset-hyphen l e =
      let q : offset_in (drop i t) left ≡ suc (offset_in (drop (i + 1) t) left) = rw (add-one, drop-cons t i 0) (go left (eq-eqb (get_or t i 0) 45 e)) in
      omega arith
    where
      go : (k : ℕ) → eqb (get_or t i 0) 45 ≡ true → offset_in (get_or t i 0 ∷ drop (suc i) t) k ≡ suc (offset_in (drop (suc i) t) k)
      go zero q = rw q
      go (suc k) q = rw q

  pub offset-here : i < length t → (get_or t i 0 ≡ 45 → ⊥) → left ≡ 0 → i ≡ p
  unfolding offset_in
  offset-here l n z =
      let q : offset_in (drop i t) left ≡ 0 = rw (drop-cons t i 0, z, ne_eqb (get_or t i 0) 45 n) in
      omega arith

  pub offset-next : i < length t → (get_or t i 0 ≡ 45 → ⊥) → (left ≡ 0 → ⊥) → p ≡ i + 1 + offset_in (drop (i + 1) t) (left - 1)
  unfolding offset_in
  offset-next l n z =
      let q : offset_in (drop i t) left ≡ suc (offset_in (drop (i + 1) t) (left - 1)) = rw (add-one, drop-cons t i 0) (go left z (ne_eqb (get_or t i 0) 45 n)) in
      omega arith
    where
      go : (k : ℕ) → (k ≡ 0 → ⊥) → eqb (get_or t i 0) 45 ≡ false → offset_in (get_or t i 0 ∷ drop (suc i) t) k ≡ suc (offset_in (drop (suc i) t) (k - 1))
      go zero z q = absurd (z refl)
      go (suc k) z q = let e : suc k - 1 ≡ k = omega arith in rw (q, e)

  pub offset-end : length t ≤ i → i ≡ p
  unfolding offset_in
  offset-end l =
      let q : offset_in (drop i t) left ≡ 0 = rw (drop_of_length-le t l) in
      omega arith

-- ---- that character stands there

abbrev StandsAt : List ℕ → ℕ → ℕ → Type 0
StandsAt t p c = (p < length t) × (get_or t p 0 ≡ c)

character-at : (t : List ℕ) (i : ℕ) → i < length (drop_hyphens t) → StandsAt t (offset_in t i) (get_or (drop_hyphens t) i 0)
unfolding offset_in drop_hyphens
character-at [] i l = absurd (not-suc-le-zero l)
character-at (c ∷ cs) zero l = go (eqb c 45) (character-at cs zero) l
  where
    go : (b : Bool) → (zero < length (drop_hyphens cs) → StandsAt cs (offset_in cs zero) (get_or (drop_hyphens cs) zero 0))
        → zero < length (cond b (drop_hyphens cs) (c ∷ drop_hyphens cs))
        → StandsAt (c ∷ cs) (cond b (suc (offset_in cs zero)) 0) (get_or (cond b (drop_hyphens cs) (c ∷ drop_hyphens cs)) zero 0)
    go true ih l = let h = ih l in (omega arith, h.1)
    go false ih l = (omega arith, refl)
character-at (c ∷ cs) (suc i) l = go (eqb c 45) (character-at cs) l
  where
    go : (b : Bool) → ((j : ℕ) → j < length (drop_hyphens cs) → StandsAt cs (offset_in cs j) (get_or (drop_hyphens cs) j 0))
        → suc i < length (cond b (drop_hyphens cs) (c ∷ drop_hyphens cs))
        → StandsAt (c ∷ cs) (suc (offset_in cs (cond b (suc i) i))) (get_or (cond b (drop_hyphens cs) (c ∷ drop_hyphens cs)) (suc i) 0)
    go true ih l = let h = ih (suc i) l in (omega arith, h.1)
    go false ih l = let h = ih i (le_of_suc-le-suc l) in (omega arith, h.1)

pub character-of-run : (t : List ℕ) (i : ℕ) → i < length (cleaned t) → StandsAt t (offset_of t i) (get_or (cleaned t) i 0)
unfolding cleaned offset_of
character-of-run t i l =
    let b : List ℕ = behind_scheme t in
    let n : ℕ = length (trimmed t) - scheme_length (trimmed t) in
    let e : b ≡ take n (drop (start t) t) = sym (behind-is t) in
    let h = character-at b i l in
    let p : ℕ = offset_in b i in
    let m : length b ≡ length (take n (drop (start t) t)) = ap length e in
    let m' = length-take n (drop (start t) t) in
    let m'' = length-drop (start t) t in (
      omega arith,
      sym (get_or-drop (start t) t p 0) ∙ sym (get_or-take n (drop (start t) t) p 0 (omega arith)) ∙ ap (λ (l : List ℕ). get_or l p 0) (sym e) ∙ h.1,
    )
