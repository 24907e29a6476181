-- One look, and the search by halving as a loop.
use Prim.Native.Nat.{ℕ, zero, suc, ◌+◌, ◌-◌, ◌*◌, ◌/◌, ◌≤◌, ◌<◌}
use mathlib.Core.Path.{◌≡◌, refl, sym, ◌∙◌, ap}
use mathlib.Core.Bool.{Bool, true, false}
use mathlib.Core.List.{List}
use native.Mathlib.Nat.{zero-add}
use native.Mathlib.Numerals.{add-one}
use native.Mathlib.Omega.{arith}
use lib.ListN.{length, get_or, take, drop, length-take}
use Rattle.std.specs.Prelude.{Result, Ok, Err}
use Rattle.octets.specs.Representation.{order_as, front_as}
use Rattle.std.specs.Ordering.{MatchOrdering}
use Rattle.std.specs.declared.cmp.Ordering.{Ordering}
use Rattle.std.specs.declared.cmp.Ordering.TheVariants.{Less, Equal, Greater}
use Rattle.octets.proofs.Answers.{order_same, order-before, order-behind, front-before, front-behind}
use Rattle.loans.specs.Loan.{Loan}
use Rattle.loans.specs.Order.{loans_at}
use Rattle.loans.specs.Halving.{Search, nowhere, looked_at, loan_in, halving, searched}
use Rattle.loans.proofs.PlaceAt.{length-short}
use Rattle.loans.proofs.OrderedPlaces.{are-places, code-there}
use Rattle.loans.proofs.Halving.{halving-none, halving-found, halving-front, halving-behind, nine-looks}
use Rattle.places.specs.declared.ordered.Places.{Places}
use Rattle.places.specs.declared.search.Found.{Found}
use Rattle.places.specs.Representation.{place_as, found_as}

-- ---- the code in a place

module _ (p : Places) (i : ℕ) (u : i < length (loans_at p.bytes.now)) (n : ℕ) (e : n ≡ get_or p.bytes.now (48 * i) 0) where
  abbrev bs : List ℕ
  bs = p.bytes.now

  low : i < 256
  low = omega (arith, u, p.few)

  code-few : n ≤ 42
  code-few = omega (arith, e, length-short bs i p.whole low (are-places bs p.ordered))

  pub code_fits : 48 * i + 1 + n ≤ length p.bytes.now
  code_fits = omega (arith, code-few, p.whole, low)

  pub code_read : take (48 * i + 1 + n - (48 * i + 1)) (drop (48 * i + 1) p.bytes.now) ≡ (loan_in (loans_at p.bytes.now) i).code
  code_read = code-there bs p.ordered p.whole i u n e

  pub code-short : length (take (48 * i + 1 + n - (48 * i + 1)) (drop (48 * i + 1) p.bytes.now)) ≤ 42
  code-short = omega (arith, code-few, length-take (48 * i + 1 + n - (48 * i + 1)) (drop (48 * i + 1) bs))

-- ---- one look: what is held there is k

module _ (c held k : List ℕ) (e : held ≡ k) where
  looked-whole : (r : Ordering) → r ≡ order_as c held → r ≡ order_as c k
  looked-whole r q = q ∙ ap (order_as c) e

  module _ (f : Ordering) (q : f ≡ front_as c held) where
    pub looked : (r : Ordering) (P : Type 0) → (P → r ≡ order_as c held) → MatchOrdering f (r ≡ Less) P (r ≡ Greater) → r ≡ order_as c k
    looked r P p m = looked-whole r (go f q m)
      where
        go : (f : Ordering) → f ≡ front_as c held → MatchOrdering f (r ≡ Less) P (r ≡ Greater) → r ≡ order_as c held
        go Less q m = m ∙ sym (front-before c held (sym q))
        go Equal q m = p m
        go Greater q m = m ∙ sym (front-behind c held (sym q))

-- ---- the search

-- the answer of a search with so many looks before it
abbrev after : ℕ → Search → Found
after looks s = record { place = place_as s.found s.place; looks = looks + length s.looked }

-- what is left of the search ends as the whole does
pub record SearchLeft (c : List ℕ) (ls : List Loan) (first count looks : ℕ) : Type 0 where
  pub most : length ls ≤ 256
  pub bound : ℕ
  pub few : count ≤ bound
  pub within : first + count ≤ length ls
  pub same : after looks (halving bound c ls first count) ≡ found_as (searched c ls)

pub search-starts : (c : List ℕ) (ls : List Loan) (used : ℕ) → length ls ≤ 256 → used ≡ length ls → SearchLeft c ls 0 used 0
unfolding searched
search-starts c ls used m e =
    record {
      most = m;
      bound = length ls;
      few = omega (arith, e);
      within = omega (arith, e);
      same =
          ap (λ (n : ℕ). after 0 (halving (length ls) c ls 0 n)) e
          ∙ ap (λ (k : ℕ). record { place = place_as (searched c ls).found (searched c ls).place; looks = k }) (zero-add (length (searched c ls).looked));
    }

after_none : (looks place : ℕ) → after looks (nowhere place) ≡ record { place = Err place; looks = looks }
after_none looks place = let k : looks + 0 ≡ looks = omega arith in ap (λ (n : ℕ). record { place = Err place; looks = n }) k

-- one look more
after_look : (looks place : ℕ) (s : Search) → after looks (looked_at place s) ≡ after (looks + 1) s
after_look looks place s =
    let k : looks + suc (length s.looked) ≡ looks + 1 + length s.looked = omega arith in
    ap (λ (n : ℕ). record { place = place_as s.found s.place; looks = n }) k

module _ (c : List ℕ) (ls : List Loan) (first count looks : ℕ) (l : SearchLeft c ls first count looks) where
  pub few-looks : looks ≤ 9
  few-looks = omega (arith, ap (λ (f : Found). f.looks) l.same, nine-looks c ls l.most)

  pub search-none : count ≤ 0 → record { place = Err first; looks = looks } ≡ found_as (searched c ls)
  unfolding halving
  search-none h = go l.bound l.same
    where
      go : (n : ℕ) → after looks (halving n c ls first count) ≡ found_as (searched c ls) → record { place = Err first; looks = looks } ≡ found_as (searched c ls)
      go zero e = sym (after_none looks first) ∙ e
      go (suc n) e = sym (after_none looks first) ∙ ap (after looks) (sym (halving-none n c ls first count (omega (arith, h)))) ∙ e

  module _ (h : 0 < count) where
    abbrev middle : ℕ
    middle = first + count / 2

    abbrev code : List ℕ
    code = (loan_in ls middle).code

    pub middle-used : middle < length ls
    middle-used = omega (arith, h, l.within)

    pub middle-few : middle < 256
    middle-few = omega (arith, middle-used, l.most)

    module _ (r : Ordering) (q : r ≡ order_as c code) where
      pub search-found : r ≡ Equal → record { place = Ok middle; looks = looks + 1 } ≡ found_as (searched c ls)
      search-found e = go l.bound l.few l.same
        where
          go : (n : ℕ) → count ≤ n → after looks (halving n c ls first count) ≡ found_as (searched c ls)
              → record { place = Ok middle; looks = looks + 1 } ≡ found_as (searched c ls)
          go zero b w = absurd (omega (arith, h, b))
          go (suc n) b w = ap (after looks) (sym (halving-found n c ls first count h (order_same c code (sym q ∙ e)))) ∙ w

      pub search-front : r ≡ Less → SearchLeft c ls first (count / 2) (looks + 1)
      search-front e = go l.bound l.few l.same
        where
          go : (n : ℕ) → count ≤ n → after looks (halving n c ls first count) ≡ found_as (searched c ls) → SearchLeft c ls first (count / 2) (looks + 1)
          go zero b w = absurd (omega (arith, h, b))
          go (suc n) b w =
              let o = order-before c code (sym q ∙ e) in
              record {
                most = l.most;
                bound = n;
                few = omega (arith, h, b);
                within = omega (arith, l.within);
                same = sym (after_look looks middle (halving n c ls first (count / 2))) ∙ ap (after looks) (sym (halving-front n c ls first count h o.0 o.1)) ∙ w;
              }

      pub search-behind : r ≡ Greater → SearchLeft c ls (middle + 1) (count - count / 2 - 1) (looks + 1)
      search-behind e = go l.bound l.few l.same
        where
          go : (n : ℕ) → count ≤ n → after looks (halving n c ls first count) ≡ found_as (searched c ls) → SearchLeft c ls (middle + 1) (count - count / 2 - 1) (looks + 1)
          go zero b w = absurd (omega (arith, h, b))
          go (suc n) b w =
              let o = order-behind c code (sym q ∙ e) in
              record {
                most = l.most;
                bound = n;
                few = omega (arith, h, b);
                within = omega (arith, l.within, h);
                same =
                    ap (λ (k : ℕ). after (looks + 1) (halving n c ls k (count - count / 2 - 1))) (add-one middle)
                    ∙ sym (after_look looks middle (halving n c ls (suc middle) (count - count / 2 - 1))) ∙ ap (after looks) (sym (halving-behind n c ls first count h o.0 o.1)) ∙ w;
              }

-- ---- where a search ended, by its two answers

abbrev was_found : Result ℕ ℕ → Bool
was_found (Ok p) = true
was_found (Err p) = false

abbrev place_in : Result ℕ ℕ → ℕ
place_in (Ok p) = p
place_in (Err p) = p

answer-is : (b : Bool) (p : ℕ) → (was_found (place_as b p) ≡ b) × (place_in (place_as b p) ≡ p)
answer-is true p = (refl, refl)
answer-is false p = (refl, refl)

module _ (s : Search) (f : Found) (p : ℕ) (e : f ≡ found_as s) where
  answer : place_as s.found s.place ≡ f.place
  answer = sym (ap (λ (x : Found). x.place) e)

  pub ended-found : f.place ≡ Ok p → (s.found ≡ true) × (p ≡ s.place)
  ended-found w =
      let a = answer-is s.found s.place in
      (sym a.0 ∙ ap was_found (answer ∙ w), sym (ap place_in (answer ∙ w)) ∙ a.1)

  pub ended-nowhere : f.place ≡ Err p → (s.found ≡ false) × (p ≡ s.place)
  ended-nowhere w =
      let a = answer-is s.found s.place in
      (sym a.0 ∙ ap was_found (answer ∙ w), sym (ap place_in (answer ∙ w)) ∙ a.1)
