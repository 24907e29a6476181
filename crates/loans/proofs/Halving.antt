-- The search by halving: where it ends, that it finds what is there, and that it looks at nine places at the most.
use Prim.Native.Nat.{ℕ, zero, suc, ◌+◌, ◌-◌, ◌*◌, ◌/◌, ◌^◌, ◌≤◌, ◌<◌}
use mathlib.Core.Path.{◌≡◌, refl, sym, ◌∙◌, ap, subst}
use mathlib.Core.Bool.{Bool, true, false, cond}
use mathlib.Core.Option.{none, some}
use mathlib.Core.List.{List, [], ◌∷◌, ◌++◌}
use native.Mathlib.Nat.{not-suc-le-zero, le_of_suc-le-suc, pow-suc}
use native.Mathlib.Omega.{arith}
use lib.ListN.{length, take, drop}
use lib.Dec.{eqb}
use borrow.Author.Tests.{eq-eqb, ne_eqb, eqb-true, eqb-false}
use Rattle.iscc.specs.Lists.{same_bytes}
use Rattle.octets.specs.Order.{before}
use Rattle.octets.proofs.Total.{before-trans, before-other, before-not, Compared, lower, equal, higher, compared}
use Rattle.loans.specs.Loan.{Loan, find, is_out, is_some, without}
use Rattle.loans.specs.Order.{put}
use Rattle.loans.specs.Halving.{Search, found_at, nowhere, looked_at, loan_in, halving, searched, looks, borrower_found}
use Rattle.loans.specs.Good.{Rising}
use Rattle.loans.proofs.Loan.{Same?, same, other, same?, find-here, find-there, without-here, without-there}
use Rattle.loans.proofs.Order.{rising-at}

-- ---- one step

module _ (n : ℕ) (c : List ℕ) (ls : List Loan) (first count : ℕ) where
  abbrev middle : ℕ
  middle = first + count / 2

  abbrev code : List ℕ
  code = (loan_in ls middle).code

  abbrev front : Search
  front = halving n c ls first (count / 2)

  abbrev behind : Search
  behind = halving n c ls (suc middle) (count - count / 2 - 1)

  pub halving-none : count ≡ 0 → halving (suc n) c ls first count ≡ nowhere first
  unfolding halving
  halving-none e = rw (eq-eqb count 0 e)

  module _ (h : 0 < count) where
    halving-some : halving (suc n) c ls first count ≡ looked_at middle (cond (same_bytes c code) (found_at middle) (cond (before c code) front behind))
    unfolding halving
    halving-some = rw (ne_eqb count 0 (λ e. omega arith))

    pub halving-found : same_bytes c code ≡ true → halving (suc n) c ls first count ≡ looked_at middle (found_at middle)
    halving-found e = halving-some ∙ rw e

    pub halving-front : same_bytes c code ≡ false → before c code ≡ true → halving (suc n) c ls first count ≡ looked_at middle front
    halving-front e b = halving-some ∙ rw (e, b)

    pub halving-behind : same_bytes c code ≡ false → before c code ≡ false → halving (suc n) c ls first count ≡ looked_at middle behind
    halving-behind e b = halving-some ∙ rw (e, b)

-- any bound that is no less than the count will do
halving-enough : (n m : ℕ) (c : List ℕ) (ls : List Loan) (first count : ℕ) → count ≤ n → count ≤ m → halving n c ls first count ≡ halving m c ls first count
unfolding halving
halving-enough zero zero c ls first count h k = refl
halving-enough zero (suc m) c ls first count h k = sym (halving-none m c ls first count (omega (arith, h)))
halving-enough (suc n) zero c ls first count h k = halving-none n c ls first count (omega (arith, k))
halving-enough (suc n) (suc m) c ls first count h k =
    go (eqb count 0) refl (halving-enough n m c ls first (count / 2)) (halving-enough n m c ls (suc (first + count / 2)) (count - count / 2 - 1))
  where
    go : (b : Bool) → eqb count 0 ≡ b
        → (count / 2 ≤ n → count / 2 ≤ m → halving n c ls first (count / 2) ≡ halving m c ls first (count / 2))
        → (count - count / 2 - 1 ≤ n → count - count / 2 - 1 ≤ m
        → halving n c ls (suc (first + count / 2)) (count - count / 2 - 1) ≡ halving m c ls (suc (first + count / 2)) (count - count / 2 - 1))
        → halving (suc n) c ls first count ≡ halving (suc m) c ls first count
    go true e x y = let z : count ≡ 0 = eqb-true count 0 e in halving-none n c ls first count z ∙ sym (halving-none m c ls first count z)
    go false e x y =
        let p : 0 < count = let z = eqb-false count 0 e in omega (arith, z) in
        let a = x (omega (arith, h, p)) (omega (arith, k, p)) in
        let b = y (omega (arith, h, p)) (omega (arith, k, p)) in
        halving-some n c ls first count p ∙ (rw (a, b) (sym (halving-some m c ls first count p)))

pub search-bound : (n : ℕ) (c : List ℕ) (ls : List Loan) → length ls ≤ n → halving n c ls 0 (length ls) ≡ searched c ls
unfolding searched
search-bound n c ls h = halving-enough n (length ls) c ls 0 (length ls) h (omega arith)

-- ---- where it ends

-- the codes before `first` come before c, and those from `end` on behind it
pub record Around (c : List ℕ) (ls : List Loan) (first end : ℕ) : Type 0 where
  pub within : end ≤ length ls
  pub earlier : (j : ℕ) → j < first → before (loan_in ls j).code c ≡ true
  pub later : (j : ℕ) → end ≤ j → j < length ls → before c (loan_in ls j).code ≡ true

-- a search that found the code ended at its place, and one that did not where the code would stand
pub data Ends (c : List ℕ) (ls : List Loan) (s : Search) : Type 0 where
  there : s.found ≡ true → s.place < length ls → (loan_in ls s.place).code ≡ c → Ends c ls s
  between : s.found ≡ false → Around c ls s.place s.place → Ends c ls s

ends-later : (c : List ℕ) (ls : List Loan) (k : ℕ) (s : Search) → Ends c ls s → Ends c ls (looked_at k s)
ends-later c ls k s (there f h e) = there f h e
ends-later c ls k s (between f a) = between f a

module _ (c : List ℕ) (ls : List Loan) (r : Rising ls) where
  module _ (first end middle : ℕ) (a : Around c ls first end) (l : first ≤ middle) (m : middle < end) where
    pub around-front : before c (loan_in ls middle).code ≡ true → Around c ls first middle
    around-front e =
        record {
          within = omega (arith, a.within);
          earlier = a.earlier;
          later = λ j h k. go j h k (eqb middle j) refl;
        }
      where
        go : (j : ℕ) → middle ≤ j → j < length ls → (b : Bool) → eqb middle j ≡ b → before c (loan_in ls j).code ≡ true
        go j h k true w = subst (λ (i : ℕ). before c (loan_in ls i).code ≡ true) (eqb-true middle j w) e
        go j h k false w =
            let n : middle ≡ j → ⊥ = eqb-false middle j w in
            before-trans c (loan_in ls middle).code (loan_in ls j).code e (rising-at ls middle j r (omega (arith, h, n)) k)

    pub around-behind : before (loan_in ls middle).code c ≡ true → Around c ls (suc middle) end
    around-behind e =
        record {
          within = a.within;
          earlier = λ j h. go j h (eqb j middle) refl;
          later = a.later;
        }
      where
        go : (j : ℕ) → j < suc middle → (b : Bool) → eqb j middle ≡ b → before (loan_in ls j).code c ≡ true
        go j h true w = subst (λ (i : ℕ). before (loan_in ls i).code c ≡ true) (sym (eqb-true j middle w)) e
        go j h false w =
            let n : j ≡ middle → ⊥ = eqb-false j middle w in
            before-trans (loan_in ls j).code (loan_in ls middle).code c (rising-at ls j middle r (omega (arith, h, n)) (omega (arith, m, a.within))) e

  halving-ends : (n first count : ℕ) → count ≤ n → Around c ls first (first + count) → Ends c ls (halving n c ls first count)
  unfolding halving
  halving-ends zero first count h a =
      let z : first + count ≡ first = omega arith in
      between refl (rw z at a)
  halving-ends (suc n) first count h a =
      go (eqb count 0) refl (halving-ends n first (count / 2)) (halving-ends n (suc (first + count / 2)) (count - count / 2 - 1))
    where
      k : ℕ
      k = first + count / 2

      found : 0 < count → same_bytes c (loan_in ls k).code ≡ true → c ≡ (loan_in ls k).code → Ends c ls (halving (suc n) c ls first count)
      found p e q = rw (halving-found n c ls first count p e) (there refl (omega (arith, a.within, p)) (sym q))

      go : (b : Bool) → eqb count 0 ≡ b
          → (count / 2 ≤ n → Around c ls first (first + count / 2) → Ends c ls (halving n c ls first (count / 2)))
          → (count - count / 2 - 1 ≤ n → Around c ls (suc k) (suc k + (count - count / 2 - 1)) → Ends c ls (halving n c ls (suc k) (count - count / 2 - 1)))
          → Ends c ls (halving (suc n) c ls first count)
      go true e x y =
          let z : count ≡ 0 = eqb-true count 0 e in
          let w : first + count ≡ first = omega arith in
          rw (halving-none n c ls first count z) (between refl (rw w at a))
      go false e x y = side (same? c (loan_in ls k).code) (compared c (loan_in ls k).code)
        where
          p : 0 < count
          p = let z = eqb-false count 0 e in omega (arith, z)

          m : k < first + count
          m = omega (arith, p)

          side : Same? c (loan_in ls k).code → Compared c (loan_in ls k).code → Ends c ls (halving (suc n) c ls first count)
          side (same q w) d = found p w q
          side (other q w) (lower d) =
              rw (halving-front n c ls first count p w d)
              (ends-later c ls k _ (x (omega (arith, h, p)) (around-front first (first + count) k a (omega arith) m d)))
          side (other q w) (equal d) = absurd (q d)
          side (other q w) (higher d) =
              let s : first + count ≡ suc k + (count - count / 2 - 1) = omega (arith, p) in
              rw (halving-behind n c ls first count p w (before-not (loan_in ls k).code c d))
              (ends-later c ls k _ (y (omega (arith, h, p)) (subst (Around c ls (suc k)) s (around-behind first (first + count) k a (omega arith) m d))))

  pub search-ends : Ends c ls (searched c ls)
  unfolding searched
  search-ends =
      halving-ends (length ls) 0 (length ls) (omega arith)
      (record { within = omega arith; earlier = λ j h. absurd (not-suc-le-zero h); later = λ j h k. absurd (omega (arith, h, k)) })

-- ---- what the end says: one loan found, put or taken out at a place

around-less : (c : List ℕ) (l : Loan) (ls : List Loan) (k : ℕ) → Around c (l ∷ ls) (suc k) (suc k) → Around c ls k k
around-less c l ls k a =
    record {
      within = le_of_suc-le-suc a.within;
      earlier = λ j h. a.earlier (suc j) (omega (arith, h));
      later = λ j h m. a.later (suc j) (omega (arith, h)) (omega (arith, m));
    }

pub find-between : (c : List ℕ) (ls : List Loan) (k : ℕ) → Around c ls k k → find c ls ≡ none
unfolding find
find-between c [] k a = refl
find-between c (l ∷ ls) zero a =
    find-there c l ls (before-other c l.code (a.later 0 (omega arith) (omega arith)))
    ∙ find-between c ls zero (record { within = omega arith; earlier = λ j h. absurd (not-suc-le-zero h); later = λ j h m. a.later (suc j) (omega arith) (omega (arith, m)) })
find-between c (l ∷ ls) (suc k) a =
    find-there c l ls (λ e. before-other l.code c (a.earlier 0 (omega arith)) (sym e)) ∙ find-between c ls k (around-less c l ls k a)

pub put-between : (l : Loan) (ls : List Loan) (k : ℕ) → Around l.code ls k k → put l ls ≡ take k ls ++ l ∷ drop k ls
unfolding put
put-between l [] zero a = refl
put-between l [] (suc k) a = absurd (not-suc-le-zero a.within)
put-between l (x ∷ ls) zero a = let b : before l.code x.code ≡ true = a.later 0 (omega arith) (omega arith) in rw b
put-between l (x ∷ ls) (suc k) a =
    let b : before l.code x.code ≡ false = before-not x.code l.code (a.earlier 0 (omega arith)) in
    rw b (ap (λ (ks : List Loan). x ∷ ks) (put-between l ls k (around-less l.code x ls k a)))

module _ (c : List ℕ) where
  -- the code at a place behind the first is not the first one's
  not_first : (l : Loan) (ls : List Loan) (k : ℕ) → Rising (l ∷ ls) → suc k < suc (length ls) → (loan_in ls k).code ≡ c → c ≡ l.code → ⊥
  not_first l ls k r h e p = before-other l.code (loan_in ls k).code (rising-at (l ∷ ls) 0 (suc k) r (omega arith) h) (sym p ∙ sym e)

  pub find_at : (ls : List Loan) (k : ℕ) → Rising ls → k < length ls → (loan_in ls k).code ≡ c → find c ls ≡ some (loan_in ls k).borrower
  find_at [] k r h e = absurd (not-suc-le-zero h)
  find_at (l ∷ ls) zero r h e = find-here c l ls (sym e)
  find_at (l ∷ ls) (suc k) r h e = find-there c l ls (not_first l ls k r h e) ∙ find_at ls k r.1 (le_of_suc-le-suc h) e

  pub without_at : (ls : List Loan) (k : ℕ) → Rising ls → k < length ls → (loan_in ls k).code ≡ c → without c ls ≡ take k ls ++ drop (suc k) ls
  without_at [] k r h e = absurd (not-suc-le-zero h)
  without_at (l ∷ ls) zero r h e = without-here c l ls (sym e)
  without_at (l ∷ ls) (suc k) r h e =
      without-there c l ls (not_first l ls k r h e) ∙ ap (λ (ks : List Loan). l ∷ ks) (without_at ls k r.1 (le_of_suc-le-suc h) e)

-- found exactly if it is out, and with its borrower
pub search-finds : (c : List ℕ) (ls : List Loan) → Rising ls → borrower_found (searched c ls) ls ≡ find c ls
search-finds c ls r = go (search-ends c ls r)
  where
    go : Ends c ls (searched c ls) → borrower_found (searched c ls) ls ≡ find c ls
    go (there f h e) = rw f (sym (find_at c ls (searched c ls).place r h e))
    go (between f a) = rw f (sym (find-between c ls (searched c ls).place a))

pub search-out : (c : List ℕ) (ls : List Loan) → Rising ls → (searched c ls).found ≡ is_out c ls
search-out c ls r = sym (ap is_some (sym (search-finds c ls r)) ∙ go (searched c ls).found)
  where
    go : (b : Bool) → is_some (cond b (some (loan_in ls (searched c ls).place).borrower) none) ≡ b
    go true = refl
    go false = refl

-- ---- fewer than 2 ^ k places take at most k looks

look-more : (k m : ℕ) (a b : Bool) (x y : Search) → length x.looked ≤ k → length y.looked ≤ k
    → length (looked_at m (cond a (found_at m) (cond b x y))).looked ≤ suc k
look-more k m true b x y p q = omega arith
look-more k m false true x y p q = omega arith
look-more k m false false x y p q = omega arith

halving-looks : (n k : ℕ) (c : List ℕ) (ls : List Loan) (first count : ℕ) → count < 2 ^ k → length (halving n c ls first count).looked ≤ k
unfolding halving
halving-looks zero k c ls first count h = omega arith
halving-looks (suc n) zero c ls first count h = rw (halving-none n c ls first count (omega arith)) (omega arith)
halving-looks (suc n) (suc k) c ls first count h =
    go (eqb count 0) refl (halving-looks n k c ls first (count / 2)) (halving-looks n k c ls (suc (first + count / 2)) (count - count / 2 - 1))
  where
    p : 2 ^ suc k ≡ 2 ^ k * 2
    p = pow-suc 2 k

    go : (b : Bool) → eqb count 0 ≡ b
        → (count / 2 < 2 ^ k → length (halving n c ls first (count / 2)).looked ≤ k)
        → (count - count / 2 - 1 < 2 ^ k → length (halving n c ls (suc (first + count / 2)) (count - count / 2 - 1)).looked ≤ k)
        → length (halving (suc n) c ls first count).looked ≤ suc k
    go true e x y = rw (halving-none n c ls first count (eqb-true count 0 e)) (omega arith)
    go false e x y =
        let z = eqb-false count 0 e in
        rw (halving-some n c ls first count (omega (arith, z)))
        (look-more k (first + count / 2) (same_bytes c (loan_in ls (first + count / 2)).code) (before c (loan_in ls (first + count / 2)).code)
        (halving n c ls first (count / 2)) (halving n c ls (suc (first + count / 2)) (count - count / 2 - 1)) (x (omega (arith, p, h))) (y (omega (arith, p, h, z))))

pub nine-looks : (c : List ℕ) (ls : List Loan) → length ls ≤ 256 → looks c ls ≤ 9
unfolding searched
nine-looks c ls h = halving-looks (length ls) 9 c ls 0 (length ls) (omega arith)
