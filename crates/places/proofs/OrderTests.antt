-- The order test as branches and a loop make it: the used places in turn, and zeros behind them.
use Prim.Native.Nat.{ℕ, zero, suc, ◌+◌, ◌-◌, ◌*◌, ◌≤◌, ◌<◌}
use mathlib.Core.Path.{◌≡◌, refl, sym, ◌∙◌, ap, ap₂}
use mathlib.Core.Bool.{Bool, true, false, not, ◌&&◌, and-false, true≢false}
use mathlib.Core.Option.{Option, none, some}
use mathlib.Core.List.{List, [], ◌∷◌, ◌++◌}
use native.Mathlib.Nat.{not-suc-le-zero, le_of_suc-le-suc}
use native.Mathlib.Omega.{arith}
use lib.ListN.{length, get_or, take, drop, length-take, length-drop, drop_of_length-le, take-append-drop}
use lib.Seq.{drop-cons, drop-drop, get_or-take, take_all}
use lib.Dec.{eqb, ltb}
use borrow.Author.Tests.{eq-eqb, ne_eqb, eqb-true, eqb-false, le-ltb}
use Rattle.iscc.specs.Digits.{all_below}
use Rattle.iscc.proofs.Booleans.{both_true}
use Rattle.iscc.proofs.Demand3.{same_bytes-eq}
use Rattle.octets.specs.Order.{before}
use Rattle.octets.specs.Representation.{order_as, front_as}
use Rattle.std.specs.Ordering.{is_lt, MatchOrdering}
use Rattle.std.specs.declared.cmp.Ordering.{Ordering}
use Rattle.std.specs.declared.cmp.Ordering.TheVariants.{Less, Equal, Greater}
use Rattle.octets.proofs.Total.{before-other}
use Rattle.octets.proofs.Answers.{order_same, order-before, order-behind, front-before, front-behind}
use Rattle.loans.specs.Loan.{Loan}
use Rattle.loans.specs.Place.{place_of, is_place, places_of, are_places}
use Rattle.loans.specs.Order.{follows, in_order, are_ordered}
use Rattle.loans.proofs.Places.{place_at, places-on}
use Rattle.loans.proofs.PlaceAt.{short-place, count-places}
use Rattle.places.specs.Used.{is_used, code_in}

-- ---- a used place

module _ (bs : List ℕ) where
  pub used-place : is_used bs ≡ true → (is_place bs ≡ true) × (get_or bs 0 0 ≡ 0 → ⊥)
  unfolding is_used
  used-place e =
      let h = both_true (not (eqb (get_or bs 0 0) 0)) (is_place bs) e in
      (h.1, λ z. true≢false (sym h.0 ∙ ap not (eq-eqb (get_or bs 0 0) 0 z)))

  used-is : (get_or bs 0 0 ≡ 0 → ⊥) → is_used bs ≡ is_place bs
  unfolding is_used
  used-is z = rw (ne_eqb (get_or bs 0 0) 0 z)

pub code_fits : (bs : List ℕ) (n : ℕ) → length bs ≡ 48 → is_used bs ≡ true → n ≡ get_or bs 0 0 → 1 + n ≤ length bs
code_fits bs n l p e = omega (arith, e, l, short-place bs (used-place bs p).0)

-- ---- one byte string before another

module _ (a b : List ℕ) (r : Ordering) (q : r ≡ order_as a b) where
  is-before : r ≡ Less → true ≡ before a b
  is-before w = sym (order-before a b (sym q ∙ w)).1

  not_same : r ≡ Equal → false ≡ before a b
  not_same w = sym (go (before a b) refl)
    where
      go : (d : Bool) → before a b ≡ d → before a b ≡ false
      go true e = absurd (before-other a b e (same_bytes-eq a b (order_same a b (sym q ∙ w))))
      go false e = e

  not_behind : r ≡ Greater → false ≡ before a b
  not_behind w = sym (order-behind a b (sym q ∙ w)).1

lt-is : (a b : List ℕ) (r : Ordering) → r ≡ order_as a b → is_lt r ≡ before a b
lt-is a b Less q = is-before a b Less q refl
lt-is a b Equal q = not_same a b Equal q refl
lt-is a b Greater q = not_behind a b Greater q refl

-- ---- one used place behind another

module _ (place other : List ℕ) (p : is_used place ≡ true) (o : is_used other ≡ true) where
  by_codes : follows (place_of other) (place_of place) ≡ before (code_in other) (code_in place)
  unfolding place_of follows
  by_codes = rw (ne_eqb (get_or other 0 0) 0 (used-place other o).1, ne_eqb (get_or place 0 0) 0 (used-place place p).1)

  pub follow-is : (e c : List ℕ) → e ≡ code_in other → c ≡ code_in place → (q r : Ordering) → q ≡ front_as e c
      → (P : Type 0) → (P → r ≡ order_as e c) → MatchOrdering q (r ≡ Less) P (r ≡ Greater) → is_lt r ≡ follows (place_of other) (place_of place)
  follow-is e c d n q r f P p m = go q f m ∙ rw (d, n) (sym by_codes)
    where
      go : (q : Ordering) → q ≡ front_as e c → MatchOrdering q (r ≡ Less) P (r ≡ Greater) → is_lt r ≡ before e c
      go Less f m = ap is_lt m ∙ sym (order-before e c (front-before e c (sym f))).1
      go Equal f m = lt-is e c r (p m)
      go Greater f m = ap is_lt m ∙ sym (order-behind e c (front-behind e c (sym f))).1

-- ---- zeros: behind a free place the order is kept by these alone

and_assoc : (a b c : Bool) → ((a && b) && c) ≡ (a && (b && c))
and_assoc true b c = refl
and_assoc false b c = refl

pub zeros-apart : (xs ys : List ℕ) → all_below 1 (xs ++ ys) ≡ (all_below 1 xs && all_below 1 ys)
unfolding all_below
zeros-apart [] ys = refl
zeros-apart (x ∷ xs) ys = ap (λ (b : Bool). ltb x 1 && b) (zeros-apart xs ys) ∙ sym (and_assoc (ltb x 1) (all_below 1 xs) (all_below 1 ys))

not_zeros : (bs : List ℕ) → (get_or bs 0 0 ≡ 0 → ⊥) → all_below 1 bs ≡ false
unfolding all_below
not_zeros [] z = absurd (z refl)
not_zeros (b ∷ bs) z = rw (le-ltb b 1 (omega (arith, z)))

first_byte : (bs : List ℕ) → get_or (take 48 bs) 0 0 ≡ get_or bs 0 0
first_byte bs = get_or-take 48 bs 0 0 (omega arith)

module _ (bs : List ℕ) where
  module _ (z : get_or bs 0 0 ≡ 0) where
    free-test : is_place (take 48 bs) ≡ all_below 1 (take 48 bs)
    unfolding is_place
    free-test = rw (first_byte bs, eq-eqb (get_or bs 0 0) 0 z)

    pub free-place : place_of (take 48 bs) ≡ none
    unfolding place_of
    free-place = rw (first_byte bs, eq-eqb (get_or bs 0 0) 0 z)

  -- behind a free place a used one is not in order
  not_free : (get_or bs 0 0 ≡ 0 → ⊥) → (ps : List (Option Loan)) → in_order (none ∷ place_of (take 48 bs) ∷ ps) ≡ false
  unfolding in_order follows place_of
  not_free z ps = rw (first_byte bs, ne_eqb (get_or bs 0 0) 0 z)

follows-none : (p : Option Loan) → follows p none ≡ true
unfolding follows
follows-none none = refl
follows-none (some l) = refl

next-free : (p q : Option Loan) (ps : List (Option Loan)) → q ≡ none → in_order (p ∷ q ∷ ps) ≡ in_order (q ∷ ps)
unfolding in_order
next-free p q ps e = ap (λ (b : Bool). b && in_order (q ∷ ps)) (ap (follows p) e ∙ follows-none p)

-- a free place and others behind it: zeros, where the others are in order by theirs
one_free : (n : ℕ) (bs : List ℕ) → get_or bs 0 0 ≡ 0 → (are_places n (drop 48 bs) && in_order (none ∷ places_of n (drop 48 bs))) ≡ all_below 1 (drop 48 bs)
    → (are_places (suc n) bs && in_order (places_of (suc n) bs)) ≡ all_below 1 bs
unfolding are_places places_of
one_free n bs z e =
    rw (free-test bs z, free-place bs z)
    (and_assoc (all_below 1 (take 48 bs)) (are_places n (drop 48 bs)) (in_order (none ∷ places_of n (drop 48 bs)))
    ∙ ap (λ (b : Bool). all_below 1 (take 48 bs) && b) e
    ∙ sym (zeros-apart (take 48 bs) (drop 48 bs)) ∙ ap (all_below 1) (take-append-drop 48 bs))

behind-free : (n : ℕ) (bs : List ℕ) → length bs ≡ 48 * n → (are_places n bs && in_order (none ∷ places_of n bs)) ≡ all_below 1 bs
unfolding are_places places_of in_order all_below
behind-free zero [] l = refl
behind-free zero (b ∷ bs) l = absurd (omega (arith, l))
behind-free (suc n) bs l = go (eqb (get_or bs 0 0) 0) refl (behind-free n (drop 48 bs) (omega (arith, l, length-drop 48 bs)))
  where
    go : (b : Bool) → eqb (get_or bs 0 0) 0 ≡ b → (are_places n (drop 48 bs) && in_order (none ∷ places_of n (drop 48 bs))) ≡ all_below 1 (drop 48 bs)
        → (are_places (suc n) bs && in_order (none ∷ places_of (suc n) bs)) ≡ all_below 1 bs
    go true w ih =
        let z : get_or bs 0 0 ≡ 0 = eqb-true (get_or bs 0 0) 0 w in
        ap (λ (b : Bool). are_places (suc n) bs && b) (next-free none (place_of (take 48 bs)) (places_of n (drop 48 bs)) (free-place bs z)) ∙ one_free n bs z ih
    go false w ih =
        let z : get_or bs 0 0 ≡ 0 → ⊥ = eqb-false (get_or bs 0 0) 0 w in
        rw (not_free bs z (places_of n (drop 48 bs)), not_zeros bs z) (and-false (are_places (suc n) bs))

-- ---- all places

pub place-size : (bs : List ℕ) (i : ℕ) → length bs ≡ 12288 → i < 256 → length (take (48 * i + 48 - 48 * i) (drop (48 * i) bs)) ≡ 48
place-size bs i l h = simp (length-take, length-drop) (omega arith)

drop-places : (i n : ℕ) (bs : List ℕ) → i ≤ n → drop i (places_of n bs) ≡ places_of (n - i) (drop (48 * i) bs)
unfolding places_of
drop-places zero n bs h = let k : n - 0 ≡ n = omega arith in rw k
drop-places (suc i) zero bs h = absurd (not-suc-le-zero h)
drop-places (suc i) (suc n) bs h =
    let k : suc n - suc i ≡ n - i = omega arith in
    let j : 48 * suc i ≡ 48 + 48 * i = omega arith in
    drop-places i n (drop 48 bs) (le_of_suc-le-suc h) ∙ rw (k, j, drop-drop (48 * i) 48 bs)

-- the two tests of a place among those of the others
both-pass : (p a f o : Bool) → (p && f) ≡ true → (a && o) ≡ ((p && a) && (f && o))
both-pass true a true o e = refl
both-pass true a false o e = absurd (true≢false (sym e))
both-pass false a f o e = absurd (true≢false (sym e))

one-fails : (p a f o : Bool) → (p && f) ≡ false → ((p && a) && (f && o)) ≡ false
one-fails true true true o e = absurd (true≢false e)
one-fails true true false o e = refl
one-fails true false f o e = refl
one-fails false a f o e = refl

-- the places before i are used and in order, so that the rest decides
pub record OrderLeft (bs : List ℕ) (i : ℕ) : Type 0 where
  pub some : 1 ≤ i
  pub within : i ≤ 256
  pub used : is_used (take 48 (drop (48 * (i - 1)) bs)) ≡ true
  pub same : (are_places (256 - i) (drop (48 * i) bs) && in_order (drop (i - 1) (places_of 256 bs))) ≡ are_ordered bs

module _ (bs : List ℕ) (l : length bs ≡ 12288) where
  abbrev ps : List (Option Loan)
  ps = places_of 256 bs

  pub order-starts : (r : Bool) → r ≡ is_used (take 48 bs) → r ≡ true → OrderLeft bs 1
  unfolding are_ordered
  order-starts r e f =
      let u : is_used (take 48 bs) ≡ true = sym e ∙ f in
      record { some = omega arith; within = omega arith; used = u; same = sym (rw (places-on 256 0 bs (omega arith), (used-place (take 48 bs) u).0)) }

  pub none-used : (r : Bool) → r ≡ is_used (take 48 bs) → r ≡ false → all_below 1 (drop (48 * 0) bs) ≡ are_ordered bs
  unfolding are_ordered
  none-used r e f = go (eqb (get_or bs 0 0) 0) refl
    where
      go : (b : Bool) → eqb (get_or bs 0 0) 0 ≡ b → all_below 1 bs ≡ (are_places 256 bs && in_order (places_of 256 bs))
      go true w = sym (one_free 255 bs (eqb-true (get_or bs 0 0) 0 w) (behind-free 255 (drop 48 bs) (omega (arith, l, length-drop 48 bs))))
      go false w =
          let z : get_or bs 0 0 ≡ 0 → ⊥ = eqb-false (get_or bs 0 0) 0 w in
          let p : is_place (take 48 bs) ≡ false = sym (used-is (take 48 bs) (λ y. z (sym (first_byte bs) ∙ y))) ∙ sym e ∙ f in
          not_zeros bs z ∙ sym (rw (places-on 256 0 bs (omega arith), p))

  module _ (i : ℕ) (inv : OrderLeft bs i) where
    module _ (h : i < 256) where
      abbrev rest : List ℕ
      rest = drop (48 * i) bs

      abbrev place : List ℕ
      place = take 48 rest

      abbrev other : List ℕ
      other = take 48 (drop (48 * (i - 1)) bs)

      in-next : in_order (drop (i - 1) ps) ≡ (follows (place_of other) (place_of place) && in_order (drop i ps))
      unfolding in_order
      in-next =
          let n : length ps ≡ 256 = count-places 256 bs in
          let k : suc (i - 1) ≡ i = omega (arith, inv.some) in
          let y : drop i ps ≡ place_of place ∷ drop (suc i) ps = drop-cons ps i none (omega (arith, n, h)) ∙ ap (λ (q : Option Loan). q ∷ drop (suc i) ps) (place_at 256 bs i h) in
          let x : drop (i - 1) ps ≡ place_of other ∷ drop i ps =
          drop-cons ps (i - 1) none (omega (arith, n, h))
          ∙ ap₂ (λ (q : Option Loan) (j : ℕ). q ∷ drop j ps) (place_at 256 bs (i - 1) (omega (arith, h))) k in
          rw (x, y)

      step : ((is_place place && are_places (256 - (i + 1)) (drop (48 * (i + 1)) bs)) && (follows (place_of other) (place_of place) && in_order (drop i ps))) ≡ are_ordered bs
      step = ap₂ (λ (a o : Bool). a && o) (sym (places-on 256 i bs h)) (sym in-next) ∙ inv.same

      module _ (r : Bool) (tested : r ≡ (is_used place && follows (place_of other) (place_of place))) where
        pub order-next : r ≡ true → OrderLeft bs (i + 1)
        order-next f =
            let k : i + 1 - 1 ≡ i = omega arith in
            let u = both_true (is_used place) (follows (place_of other) (place_of place)) (sym tested ∙ f) in
            let p : (is_place place && follows (place_of other) (place_of place)) ≡ true = rw (used-place place u.0).0 u.1 in
            record {
              some = omega arith;
              within = omega (arith, h);
              used = rw k u.0;
              same = rw k (both-pass (is_place place) _ (follows (place_of other) (place_of place)) _ p ∙ step);
            }

        pub order-ends : r ≡ false → all_below 1 (drop (48 * i) bs) ≡ are_ordered bs
        order-ends f = go (eqb (get_or rest 0 0) 0) refl
          where
            go : (b : Bool) → eqb (get_or rest 0 0) 0 ≡ b → all_below 1 rest ≡ are_ordered bs
            go true w =
                let z : get_or rest 0 0 ≡ 0 = eqb-true (get_or rest 0 0) 0 w in
                let n : 256 - i ≡ suc (255 - i) = omega (arith, h) in
                let q : in_order (drop (i - 1) ps) ≡ in_order (places_of (256 - i) rest) =
                in-next ∙ ap (λ (p : Option Loan). follows (place_of other) p && in_order (drop i ps)) (free-place rest z)
                ∙ ap (λ (b : Bool). b && in_order (drop i ps)) (follows-none (place_of other)) ∙ ap in_order (drop-places i 256 bs (omega (arith, h))) in
                let o : (are_places (suc (255 - i)) rest && in_order (places_of (suc (255 - i)) rest)) ≡ all_below 1 rest =
                one_free (255 - i) rest z (behind-free (255 - i) (drop 48 rest) (omega (arith, l, h, length-drop 48 rest, length-drop (48 * i) bs))) in
                sym o ∙ ap (λ (k : ℕ). are_places k rest && in_order (places_of k rest)) (sym n) ∙ ap (λ (b : Bool). are_places (256 - i) rest && b) (sym q) ∙ inv.same
            go false w =
                let z : get_or rest 0 0 ≡ 0 → ⊥ = eqb-false (get_or rest 0 0) 0 w in
                let u : is_used place ≡ is_place place = used-is place (λ y. z (sym (first_byte rest) ∙ y)) in
                let p : (is_place place && follows (place_of other) (place_of place)) ≡ false = ap (λ (b : Bool). b && follows (place_of other) (place_of place)) (sym u) ∙ sym tested ∙ f in
                not_zeros rest z ∙ sym (one-fails (is_place place) _ (follows (place_of other) (place_of place)) _ p) ∙ step

    order-all : 256 ≤ i → all_below 1 (drop (48 * i) bs) ≡ are_ordered bs
    unfolding are_places in_order all_below
    order-all h =
        let n : length ps ≡ 256 = count-places 256 bs in
        let z : 256 - i ≡ 0 = omega (arith, h) in
        let k : i - 1 ≡ 255 = omega (arith, h, inv.within) in
        let d : drop 256 ps ≡ [] = drop_of_length-le ps {i = 256} (omega (arith, n)) in
        let x : drop 255 ps ≡ get_or ps 255 none ∷ [] = drop-cons ps 255 none (omega (arith, n)) ∙ ap (λ (qs : List (Option Loan)). get_or ps 255 none ∷ qs) d in
        let y : drop (48 * i) bs ≡ [] = drop_of_length-le bs {i = 48 * i} (omega (arith, l, h)) in
        ap (all_below 1) y ∙ sym (rw (z, k, x) refl) ∙ inv.same

    pub order-whole : 256 ≤ i → all_below 1 (drop 12288 bs) ≡ are_ordered bs
    order-whole h = let k : 12288 ≡ 48 * i = omega (arith, h, inv.within) in ap (λ (n : ℕ). all_below 1 (drop n bs)) k ∙ order-all h

pub by-zeros : (bs : List ℕ) (n : ℕ) (r : Bool) → length bs ≡ 12288 → all_below 1 (drop (48 * n) bs) ≡ are_ordered bs
    → r ≡ all_below 1 (take (12288 - 48 * n) (drop (48 * n) bs)) → r ≡ are_ordered bs
by-zeros bs n r l e w = w ∙ ap (all_below 1) (take_all (12288 - 48 * n) (drop (48 * n) bs) (omega (arith, l, length-drop (48 * n) bs))) ∙ e
