-- The places counted in the order test: the counts of those so far, then of all.
use Prim.Native.Nat.{ℕ, zero, suc, ◌+◌, ◌-◌, ◌*◌, ◌/◌, ◌≤◌, ◌<◌}
use mathlib.Core.Path.{◌≡◌, refl, sym, ◌∙◌, ap}
use mathlib.Core.Bool.{Bool, true, false, ◌&&◌}
use mathlib.Core.Option.{Option, none, some}
use mathlib.Core.List.{List, [], ◌∷◌, ◌++◌, append-nil}
use native.Mathlib.Nat.{zero-add, suc-add}
use native.Mathlib.Omega.{arith}
use lib.ListN.{length, get_or, take, drop, take-append-drop}
use lib.Seq.{drop-drop}
use lib.Dec.{ltb, leb}
use borrow.Author.Tests.{ltb-true, ne_eqb}
use Rattle.std.specs.Simd.{first_chunks}
use Rattle.iscc.specs.Digits.{value, all_below}
use Rattle.iscc.specs.Lists.{same_bytes}
use Rattle.iscc.proofs.Booleans.{both_true}
use Rattle.loans.specs.Loan.{Loan, loan_of, one_code}
use Rattle.loans.specs.Place.{place_of, is_place, places_of, loans_in}
use Rattle.loans.specs.Order.{follows, are_ordered, loans_at}
use Rattle.loans.specs.Counts.{code_type, counts_bytes}
use Rattle.loans.specs.Moves.{one_more}
use Rattle.loans.proofs.Places.{loans-most}
use Rattle.loans.proofs.PlaceAt.{count-places}
use Rattle.loans.proofs.CodeType.{type-small}
use Rattle.loans.proofs.Counts.{one_more-is, counts-snoc}
use Rattle.places.specs.Used.{is_used, code_in}
use Rattle.places.proofs.OrderTests.{used-place, zeros-apart, free-place, OrderLeft, order-starts, none-used, order-next, order-ends, by-zeros}

-- ---- places laid end to end: the loans in the first of them, and in those behind

places-apart : (m n : ℕ) (bs : List ℕ) → places_of (m + n) bs ≡ places_of m bs ++ places_of n (drop (48 * m) bs)
unfolding places_of
places-apart zero n bs = rw (zero-add n)
places-apart (suc m) n bs =
    let k : 48 * suc m ≡ 48 + 48 * m = omega arith in
    rw (suc-add m n, k, ← drop-drop (48 * m) 48 bs) (ap (λ (ps : List (Option Loan)). place_of (take 48 bs) ∷ ps) (places-apart m n (drop 48 bs)))

loans-apart : (ps qs : List (Option Loan)) → loans_in (ps ++ qs) ≡ loans_in ps ++ loans_in qs
unfolding loans_in
loans-apart [] qs = refl
loans-apart (none ∷ ps) qs = loans-apart ps qs
loans-apart (some l ∷ ps) qs = ap (λ (ls : List Loan). l ∷ ls) (loans-apart ps qs)

zero-first : (bs : List ℕ) → all_below 1 bs ≡ true → get_or bs 0 0 ≡ 0
unfolding all_below
zero-first [] e = refl
zero-first (b ∷ bs) e = let h = ltb-true b 1 (both_true (ltb b 1) (all_below 1 bs) e).0 in omega arith

no-loans : (n : ℕ) (bs : List ℕ) → all_below 1 bs ≡ true → loans_in (places_of n bs) ≡ []
unfolding places_of loans_in
no-loans zero bs e = refl
no-loans (suc n) bs e =
    let w : (all_below 1 (take 48 bs) && all_below 1 (drop 48 bs)) ≡ true = sym (zeros-apart (take 48 bs) (drop 48 bs)) ∙ ap (all_below 1) (take-append-drop 48 bs) ∙ e in
    rw (free-place bs (zero-first bs e)) (no-loans n (drop 48 bs) (both_true (all_below 1 (take 48 bs)) (all_below 1 (drop 48 bs)) w).1)

-- where zeros are all that is behind the first n places, theirs are all the loans
loans-first : (bs : List ℕ) (n : ℕ) → n ≤ 256 → all_below 1 (drop (48 * n) bs) ≡ true → loans_at bs ≡ loans_in (places_of n bs)
unfolding loans_at
loans-first bs n h e =
    let k : 256 ≡ n + (256 - n) = omega arith in
    ap (λ (j : ℕ). loans_in (places_of j bs)) k ∙ ap loans_in (places-apart n (256 - n) bs) ∙ loans-apart (places_of n bs) (places_of (256 - n) (drop (48 * n) bs))
    ∙ ap (λ (ls : List Loan). loans_in (places_of n bs) ++ ls) (no-loans (256 - n) (drop (48 * n) bs) e) ∙ append-nil (loans_in (places_of n bs))

-- ---- one used place counted

module _ (place : List ℕ) (u : is_used place ≡ true) where
  abbrev code : List ℕ
  code = take (get_or place 0 0) (drop 1 place)

  pub used-code : one_code (take (get_or place 0 0) (drop 1 place)) ≡ true
  unfolding is_place
  used-code =
      let p = used-place place u in
      let e : (leb (get_or place 0 0) 42 && one_code code && all_below 1 (drop (get_or place 0 0) (take 43 (drop 1 place)))) ≡ true =
      rw (ne_eqb (get_or place 0 0) 0 p.1) at p.0 in
      (both_true (leb (get_or place 0 0) 42) (one_code code) (both_true (leb (get_or place 0 0) 42 && one_code code) (all_below 1 (drop (get_or place 0 0) (take 43 (drop 1 place)))) e).0).1

  used-loan : place_of place ≡ some (loan_of (take (get_or place 0 0) (drop 1 place)) (value 8 (take 4 (drop 44 place))))
  unfolding place_of
  used-loan = rw (ne_eqb (get_or place 0 0) 0 (used-place place u).1)

one-loan : (bs : List ℕ) → is_used (take 48 bs) ≡ true
    → loans_in (places_of 1 bs) ≡ loan_of (take (get_or (take 48 bs) 0 0) (drop 1 (take 48 bs))) (value 8 (take 4 (drop 44 (take 48 bs)))) ∷ []
unfolding places_of loans_in
one-loan bs u = rw (used-loan (take 48 bs) u)

module _ (bs cs ds : List ℕ) (i : ℕ) (h : i < 256) (e : cs ≡ counts_bytes (loans_in (places_of i bs))) where
  counted-one : is_used (take 48 (drop (48 * i) bs)) ≡ true
      → ds ≡ one_more (code_type (take (get_or (take 48 (drop (48 * i) bs)) 0 0) (drop 1 (take 48 (drop (48 * i) bs))))) cs
      → ds ≡ counts_bytes (loans_in (places_of (i + 1) bs))
  counted-one u q =
      let place : List ℕ = take 48 (drop (48 * i) bs) in
      let l : Loan = loan_of (take (get_or place 0 0) (drop 1 place)) (value 8 (take 4 (drop 44 place))) in
      let ls : List Loan = loans_in (places_of i bs) in
      let n : length ls ≤ 256 = omega (arith, loans-most (places_of i bs), count-places i bs) in
      let g : loans_in (places_of (i + 1) bs) ≡ ls ++ (l ∷ []) =
      ap loans_in (places-apart i 1 bs) ∙ loans-apart (places_of i bs) (places_of 1 (drop (48 * i) bs)) ∙ ap (λ (ks : List Loan). ls ++ ks) (one-loan (drop (48 * i) bs) u) in
      q ∙ ap (one_more (code_type l.code)) e ∙ one_more-is l ls (type-small l.code (used-code place u)) n ∙ sym (counts-snoc l ls) ∙ ap counts_bytes (sym g)

-- ---- the loop, and the whole test

-- the places before i are used, in order, and counted; `last` is the one right before i
pub record CountedLeft (bs cs last : List ℕ) (i : ℕ) : Type 0 where
  pub order : OrderLeft bs i
  pub counts : cs ≡ counts_bytes (loans_in (places_of i bs))
  pub before : last ≡ take 48 (drop (48 * (i - 1)) bs)

pub counted_none : (bs cs : List ℕ) → cs ≡ counts_bytes [] → cs ≡ counts_bytes (loans_in (places_of 0 bs))
unfolding places_of loans_in
counted_none bs cs e = e

place-within : (xs : List ℕ) (i k : ℕ) → i < k → get_or (first_chunks 48 k xs) i [] ≡ take 48 (drop (48 * i) xs)
place-within xs i zero h = absurd (omega arith)
place-within xs zero (suc k) h = refl
place-within xs (suc i) (suc k) h =
    place-within (drop 48 xs) i k (omega arith) ∙ ap (take 48) (drop-drop (48 * i) 48 xs ∙ ap (λ (j : ℕ). drop j xs) (omega arith))

module _ (bs : List ℕ) (l : length bs ≡ 12288) (each : List (List ℕ)) (e : each ≡ first_chunks 48 (length bs / 48) bs) where
  each-is : (i : ℕ) → i < 256 → get_or each i [] ≡ take 48 (drop (48 * i) bs)
  each-is i h = ap (λ (xs : List (List ℕ)). get_or xs i []) e ∙ place-within bs i (length bs / 48) (omega (arith, l))

  pub none-first : false ≡ is_used (get_or each 0 []) → all_below 1 (drop (48 * 0) bs) ≡ are_ordered bs
  none-first u = none-used bs l false (u ∙ ap is_used (each-is 0 (omega arith))) refl

  pub counted-first : (cs ds place : List ℕ) (m : ℕ) → true ≡ is_used (get_or each 0 []) → place ≡ get_or each 0 [] → cs ≡ counts_bytes []
      → m ≡ code_type (code_in place) → ds ≡ one_more m cs → CountedLeft bs ds place 1
  counted-first cs ds place m u p w t q =
      let k : place ≡ take 48 bs = p ∙ each-is 0 (omega arith) in
      let v : true ≡ is_used (take 48 bs) = u ∙ ap is_used (each-is 0 (omega arith)) in
      record {
        order = order-starts bs l true v refl;
        counts = counted-one bs cs ds 0 (omega arith) (counted_none bs cs w) (sym v) (q ∙ ap (λ (n : ℕ). one_more n cs) (t ∙ ap (λ (b : List ℕ). code_type (code_in b)) k));
        before = k;
      }

  module _ (cs last : List ℕ) (i : ℕ) (inv : CountedLeft bs cs last i) (h : i < 256) where
    pub none-next : false ≡ is_used (get_or each i []) → all_below 1 (drop (48 * i) bs) ≡ are_ordered bs
    none-next u =
        let v : false ≡ is_used (take 48 (drop (48 * i) bs)) = u ∙ ap is_used (each-is i h) in
        order-ends bs l i inv.order h false (ap (λ (b : Bool). b && follows (place_of (take 48 (drop (48 * (i - 1)) bs))) (place_of (take 48 (drop (48 * i) bs)))) v) refl

    module _ (place : List ℕ) (p : place ≡ get_or each i []) (u : true ≡ is_used (get_or each i [])) (r : Bool) (f : r ≡ follows (place_of last) (place_of place)) where
      place-is : place ≡ take 48 (drop (48 * i) bs)
      place-is = p ∙ each-is i h

      used : true ≡ is_used (take 48 (drop (48 * i) bs))
      used = u ∙ ap is_used (each-is i h)

      both : r ≡ (is_used (take 48 (drop (48 * i) bs)) && follows (place_of (take 48 (drop (48 * (i - 1)) bs))) (place_of (take 48 (drop (48 * i) bs))))
      both = f ∙ rw (← used, ← place-is, ← inv.before)

      pub not-next : r ≡ false → all_below 1 (drop (48 * i) bs) ≡ are_ordered bs
      not-next w = order-ends bs l i inv.order h r both w

      pub counted_next : r ≡ true → (m : ℕ) (ds : List ℕ) → m ≡ code_type (code_in place) → ds ≡ one_more m cs → CountedLeft bs ds place (i + 1)
      counted_next w m ds t q =
          let k : i + 1 - 1 ≡ i = omega arith in
          record {
            order = order-next bs l i inv.order h r both w;
            counts = counted-one bs cs ds i h inv.counts (sym used) (q ∙ ap (λ (n : ℕ). one_more n cs) (t ∙ ap (λ (b : List ℕ). code_type (code_in b)) place-is));
            before = rw k place-is;
          }

module _ (cs bs ds : List ℕ) (n : ℕ) (a : Bool) (l : length bs ≡ 12288) (h : n ≤ 256) (o : all_below 1 (drop (48 * n) bs) ≡ are_ordered bs)
    (w : a ≡ all_below 1 (take (12288 - 48 * n) (drop (48 * n) bs))) where
  pub all-counted : (r : Bool) → ds ≡ counts_bytes (loans_in (places_of n bs)) → a ≡ true → r ≡ same_bytes cs ds
      → r ≡ (are_ordered bs && same_bytes cs (counts_bytes (loans_at bs)))
  all-counted r e t q =
      let p : are_ordered bs ≡ true = sym (by-zeros bs n a l o w) ∙ t in
      q ∙ rw (p, loans-first bs n h (o ∙ p), e)

  pub not-ordered : a ≡ false → false ≡ (are_ordered bs && same_bytes cs (counts_bytes (loans_at bs)))
  not-ordered f = let p : are_ordered bs ≡ false = sym (by-zeros bs n a l o w) ∙ f in rw p
