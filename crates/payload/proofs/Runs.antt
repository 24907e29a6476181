-- The run of a typed text: hyphens dropped one character at a time, and the characters in front that are none.
use Prim.Native.Nat.{ℕ, suc, ◌+◌, ◌-◌, ◌≤◌, ◌<◌}
use mathlib.Core.Path.{◌≡◌, refl, sym, ◌∙◌, ap, ap₂, subst}
use mathlib.Core.Bool.{Bool, true, false, cond, not, ◌&&◌}
use mathlib.Core.List.{List, [], ◌∷◌, ◌++◌, append-nil}
use native.Mathlib.Omega.{arith}
use native.Mathlib.Numerals.{add-one}
use lib.ListN.{length, get_or, take, set, length-append, length-set, length-drop, drop, take-append-drop, drop_of_length-le}
use lib.Seq.{drop-drop, take_all, take-length, take-add, take_at, drop_at, take-set-le, take-suc, take-suc-set, length-take-le}
use Rattle.std.specs.Int.{from_bool}
use lib.Dec.{eqb}
use borrow.Author.Tests.{eqb-true, eqb-false}
use Rattle.iscc.specs.Doors.{drop_hyphens}
use Rattle.iscc.proofs.Text.{drop_hyphens-skip, drop_hyphens-keep}
use Rattle.iscc.proofs.Parts.{rest-is}
use Rattle.payload.specs.Runs.{no_hyphen, Dropped}

-- ---- the first i characters of a text, their hyphens dropped

pub record DroppedUpTo (t d area : List ℕ) (count i : ℕ) : Type 0 where
  pub within : i ≤ length t
  pub fewer : count ≤ i
  pub counted : count ≡ length (drop_hyphens (take i t))
  pub stored : count ≤ length area → take count area ≡ drop_hyphens (take i t)
  pub same : length area ≡ length d

pub dropped-none : (t d : List ℕ) → DroppedUpTo t d d 0 0
unfolding drop_hyphens
dropped-none t d = record { within = omega arith; fewer = omega arith; counted = refl; stored = λ h. refl; same = refl }

module _ (t d area area' : List ℕ) (c count count' i : ℕ) (l : i < length t) (e : c ≡ get_or t i 0) (k : DroppedUpTo t d area count i) where
  -- a hyphen may be stored behind what is kept
  pub dropped-hyphen : c ≡ 45 → count' ≡ count → length area' ≡ length area → take count area' ≡ take count area → DroppedUpTo t d area' count' (i + 1)
  dropped-hyphen q m n w =
      let s : drop_hyphens (take (i + 1) t) ≡ drop_hyphens (take i t) = drop_hyphens-skip t i l (sym e ∙ q) in
      record {
        within = omega arith;
        fewer = omega (arith, k.fewer);
        counted = m ∙ k.counted ∙ ap length (sym s);
        stored = λ h. ap (λ (j : ℕ). take j area') m ∙ w ∙ k.stored (omega (arith, n)) ∙ sym s;
        same = n ∙ k.same;
      }

  module _ (n : c ≡ 45 → ⊥) (more : count' ≡ count + 1) where
    one_more : drop_hyphens (take (i + 1) t) ≡ drop_hyphens (take i t) ++ (c ∷ [])
    one_more = rw e (drop_hyphens-keep t i l (λ q. n (e ∙ q)))

    one-counted : count' ≡ length (drop_hyphens (take (i + 1) t))
    one-counted =
        let s : length (drop_hyphens (take (i + 1) t)) ≡ length (drop_hyphens (take i t)) + 1 = ap length one_more ∙ length-append (drop_hyphens (take i t)) (c ∷ []) in
        omega (arith, k.counted)

    pub dropped-stored : count < length area → area' ≡ set area count c → DroppedUpTo t d area' count' (i + 1)
    dropped-stored h w =
        let s : take (suc count) (set area count c) ≡ drop_hyphens (take (i + 1) t) =
        take-suc-set area count c h ∙ ap (λ (u : List ℕ). u ++ (c ∷ [])) (k.stored (omega arith)) ∙ sym one_more in
        let m : count' ≡ suc count = more ∙ add-one count in
        record {
          within = omega arith;
          fewer = omega (arith, k.fewer);
          counted = one-counted;
          stored = λ _. ap₂ (λ (j : ℕ) (u : List ℕ). take j u) m w ∙ s;
          same = ap length w ∙ length-set area count c ∙ k.same;
        }

    pub dropped-over : length area ≤ count → area' ≡ area → DroppedUpTo t d area' count' (i + 1)
    dropped-over h w =
        record { within = omega arith; fewer = omega (arith, k.fewer); counted = one-counted; stored = λ r. absurd (omega (arith, ap length w)); same = ap length w ∙ k.same }

-- a flag as a number
pub by-flag : (b : Bool) → from_bool (not b) ≡ cond b 0 1
by-flag true = refl
by-flag false = refl

-- stored, and counted by such a number
pub dropped-next : (t d area : List ℕ) (c m count i : ℕ) → i < length t → c ≡ get_or t i 0 → DroppedUpTo t d area count i → m ≡ cond (eqb c 45) 0 1 → count < length area
    → DroppedUpTo t d (set area count c) (count + m) (i + 1)
dropped-next t d area c m count i l e k f h = go (eqb c 45) refl
  where
    go : (b : Bool) → eqb c 45 ≡ b → DroppedUpTo t d (set area count c) (count + m) (i + 1)
    go true q =
        let z : m ≡ 0 = f ∙ ap (λ (b : Bool). cond b 0 1) q in
        dropped-hyphen t d area (set area count c) c count (count + m) i l e k (eqb-true c 45 q) (omega arith) (length-set area count c) (take-set-le count area count c (omega arith))
    go false q =
        let z : m ≡ 1 = f ∙ ap (λ (b : Bool). cond b 0 1) q in
        dropped-stored t d area (set area count c) c count (count + m) i l e k (eqb-false c 45 q) (omega arith) h refl

pub dropped-all : {t d area : List ℕ} {count i : ℕ} → DroppedUpTo t d area count i → length t ≤ i → Dropped t area count
dropped-all {t} {d} {area} {count} {i} k l =
    let a : take i t ≡ t = take_all i t l in
    record { counted = k.counted ∙ ap (λ (u : List ℕ). length (drop_hyphens u)) a; stored = λ h. k.stored h ∙ ap drop_hyphens a }

-- ---- a text without hyphens is its own run

none-append : (a b : List ℕ) → no_hyphen (a ++ b) ≡ (no_hyphen a && no_hyphen b)
unfolding no_hyphen
none-append [] b = refl
none-append (c ∷ a) b = go (not (eqb c 45)) (none-append a b)
  where
    go : (x : Bool) → no_hyphen (a ++ b) ≡ (no_hyphen a && no_hyphen b) → (x && no_hyphen (a ++ b)) ≡ ((x && no_hyphen a) && no_hyphen b)
    go true ih = ih
    go false ih = refl

-- one character more
pub none-more : (t : List ℕ) (i : ℕ) (r : Bool) → i < length t → r ≡ no_hyphen (take i t) → (r && not (eqb (get_or t i 0) 45)) ≡ no_hyphen (take (i + 1) t)
unfolding no_hyphen
none-more t i r l e =
    rw (e, add-one, take-suc t i 0, none-append (take i t) (get_or t i 0 ∷ [])) (ap (λ (b : Bool). no_hyphen (take i t) && b) (go (not (eqb (get_or t i 0) 45))))
  where
    go : (b : Bool) → b ≡ (b && true)
    go true = refl
    go false = refl

pub plain-run : (t : List ℕ) → no_hyphen t ≡ true → drop_hyphens t ≡ t
unfolding drop_hyphens no_hyphen
plain-run [] e = refl
plain-run (c ∷ t) e = go (eqb c 45) e (plain-run t)
  where
    go : (b : Bool) → (not b && no_hyphen t) ≡ true → (no_hyphen t ≡ true → drop_hyphens t ≡ t) → cond b (drop_hyphens t) (c ∷ drop_hyphens t) ≡ c ∷ t
    go true f ih = let z : ◌≡◌ {A = ℕ} 0 1 = cc in absurd (omega arith)
    go false f ih = ap (◌∷◌ c) (ih f)

-- none of the first i characters is a hyphen
pub record Clear (t : List ℕ) (i : ℕ) : Type 0 where
  pub within : i ≤ length t
  pub none : no_hyphen (take i t) ≡ true

pub clear_none : (t : List ℕ) → Clear t 0
unfolding no_hyphen
clear_none t = record { within = omega arith; none = refl }

both : (a b : Bool) → a ≡ true → b ≡ true → (a && b) ≡ true
both a b e f = rw (e, f)

-- a part more, as the code finds it in what is left
pub clear_more : (t rest part : List ℕ) (k n : ℕ) (b : Bool) → length rest ≤ length t → rest ≡ drop (length t - length rest) t → Clear t (length t - length rest) → k ≤ length rest
    → part ≡ take k rest → b ≡ no_hyphen part → b ≡ true → n + k ≡ length rest → Clear t (length t - n)
clear_more t rest part k n b within left c l p f e m =
    let i : ℕ = length t - length rest in
    let s : length t - n ≡ i + k = omega arith in
    let q : take k (drop i t) ≡ part = ap (take k) (sym left) ∙ sym p in
    rw s
    (record {
      within = omega arith;
      none = ap no_hyphen (take-add i k t) ∙ none-append (take i t) (take k (drop i t)) ∙ both (no_hyphen (take i t)) (no_hyphen (take k (drop i t))) c.none (ap no_hyphen q ∙ sym f ∙ e);
    })

pub left-more : (t rest behind : List ℕ) (k : ℕ) → length rest ≤ length t → rest ≡ drop (length t - length rest) t → k ≤ length rest → behind ≡ drop k rest → length behind + k ≡ length rest
    → behind ≡ drop (length t - length behind) t
left-more t rest behind k within left l e m =
    let s : length t - length behind ≡ length t - length rest + k = omega arith in
    e ∙ ap (drop k) left ∙ rw (s, drop-drop k (length t - length rest) t)

-- ---- characters in front that are no hyphens, and the run of the rest behind them

drop-append : (a b : List ℕ) → drop_hyphens (a ++ b) ≡ drop_hyphens a ++ drop_hyphens b
unfolding drop_hyphens
drop-append [] b = refl
drop-append (c ∷ a) b = go (eqb c 45) (drop-append a b)
  where
    go : (x : Bool) → drop_hyphens (a ++ b) ≡ drop_hyphens a ++ drop_hyphens b
        → cond x (drop_hyphens (a ++ b)) (c ∷ drop_hyphens (a ++ b)) ≡ cond x (drop_hyphens a) (c ∷ drop_hyphens a) ++ drop_hyphens b
    go true ih = ih
    go false ih = ap (◌∷◌ c) ih

run-fewer : (t : List ℕ) → length (drop_hyphens t) ≤ length t
unfolding drop_hyphens
run-fewer [] = omega arith
run-fewer (c ∷ t) = go (eqb c 45) (run-fewer t)
  where
    go : (x : Bool) → length (drop_hyphens t) ≤ length t → length (cond x (drop_hyphens t) (c ∷ drop_hyphens t)) ≤ suc (length t)
    go true h = omega arith
    go false h = omega arith

module _ (t : List ℕ) (f : ℕ) (k : Clear t f) where
  pub front-run : drop_hyphens t ≡ take f t ++ drop_hyphens (drop f t)
  front-run =
      ap drop_hyphens (sym (take-append-drop f t)) ∙ drop-append (take f t) (drop f t)
      ∙ ap (λ (u : List ℕ). u ++ drop_hyphens (drop f t)) (plain-run (take f t) k.none)

  pub front-counted : length (drop_hyphens t) ≡ f + length (drop_hyphens (drop f t))
  front-counted = ap length front-run ∙ length-append (take f t) (drop_hyphens (drop f t)) ∙ ap (λ (n : ℕ). n + length (drop_hyphens (drop f t))) (length-take-le f t k.within)

  pub front_fits : {area : List ℕ} {n : ℕ} → Dropped (take (length t - f) (drop f t)) area n → f + n ≤ length t
  front_fits d = omega (arith, d.counted, run-fewer (take (length t - f) (drop f t)), ap length (rest-is t f), length-drop f t, k.within)

  -- the front was copied to an area, and the run of the rest written behind it
  pub front-dropped : (area e : List ℕ) (n : ℕ) → area ≡ take f t ++ e → Dropped (drop f t) e n → Dropped t area (f + n)
  front-dropped area e n a d =
      let l : length (take f t) ≡ f = length-take-le f t k.within in
      let s : length area ≡ f + length e = ap length a ∙ length-append (take f t) e ∙ ap (λ (x : ℕ). x + length e) l in
      record {
        counted = ap (λ (x : ℕ). f + x) d.counted ∙ sym front-counted;
        stored = λ h.
            take-add f n area
            ∙ ap₂ (λ (x y : List ℕ). x ++ take n y) (ap (take f) a ∙ take_at (take f t) e f l) (ap (drop f) a ∙ drop_at (take f t) e f l)
            ∙ ap (λ (y : List ℕ). take f t ++ y) (d.stored (omega arith)) ∙ sym front-run;
      }

  -- as the code hands it back
  pub front-written : (part a e d : List ℕ) (n : ℕ) → part ≡ take (f - 0) t → a ≡ take (length part) part ++ drop (length part) d → Dropped (take (length t - f) (drop f t)) e n
      → Dropped t (take f a ++ (e ++ drop (length a - f) (drop f a))) (f + n)
  front-written part a e d n p q w =
      let z : f - 0 ≡ f = omega arith in
      let o : part ≡ take f t = p ∙ ap (λ (j : ℕ). take j t) z in
      let l : length part ≡ f = ap length o ∙ length-take-le f t k.within in
      let r : a ≡ part ++ drop (length part) d = q ∙ ap (λ (u : List ℕ). u ++ drop (length part) d) (take-length part) in
      let x : take f a ≡ take f t = ap (take f) r ∙ take_at part (drop (length part) d) f l ∙ o in
      let y : drop (length a - f) (drop f a) ≡ [] = drop_of_length-le (drop f a) {i = length a - f} (omega (arith, length-drop f a)) in
      front-dropped _ e n (rw (x, y, append-nil e)) (subst (λ (u : List ℕ). Dropped u e n) (rest-is t f) w)
