-- Two registers place by place: which loan differs there, and how the walk ends.
use Prim.Native.Nat.{ℕ, suc, ◌+◌, ◌*◌, ◌≤◌, ◌<◌}
use mathlib.Core.Path.{◌≡◌, refl, sym, ◌∙◌, ap, subst}
use mathlib.Core.Bool.{Bool, true, false, cond}
use mathlib.Core.Option.{Option, none, some}
use mathlib.Core.List.{List, ◌∷◌}
use native.Mathlib.Numerals.{add-one}
use native.Mathlib.Omega.{arith}
use lib.ListN.{length, take, drop}
use lib.Dec.{eqb}
use borrow.Author.Tests.{eq-eqb, ne_eqb}
use Rattle.std.specs.Prelude as code
use Rattle.std.specs.Prelude.{None, is_some}
use Rattle.iscc.specs.declared.code.Code.{Code}
use Rattle.iscc.proofs.Booleans.{true-false}
use Rattle.iscc.specs.Digits.{value}
use Rattle.iscc.specs.Lists.{same_bytes}
use Rattle.octets.specs.Order.{before}
use Rattle.octets.specs.Representation.{order_as}
use Rattle.std.specs.declared.cmp.Ordering.{Ordering}
use Rattle.std.specs.declared.cmp.Ordering.TheVariants.{Less, Equal, Greater}
use Rattle.octets.proofs.Answers.{order_same, order-before, order-behind}
use Rattle.loans.specs.Loan.{Loan}
use Rattle.loans.specs.Order.{are_ordered, loans_at}
use Rattle.loans.specs.Halving.{loan_in}
use Rattle.loans.specs.Promotion.{difference}
use Rattle.loans.proofs.OrderedPlaces.{borrower-is}
use Rattle.loans.proofs.Promotion.{difference-both, difference-only-first, difference-only-second, difference-end}
use Rattle.promotion.specs.Representation.{difference_as, loans_difference}

-- ---- one place: c is the code of the first loan, o how it stands to that of the second

module _ (l k : Loan) (c : List ℕ) (e : c ≡ l.code) (o : Ordering) (q : o ≡ order_as c k.code) where
  ordered : order_as l.code k.code ≡ o
  ordered = sym (q ∙ ap (λ (d : List ℕ). order_as d k.code) e)

  pub less-told : o ≡ Less → loans_difference l k ≡ some l.code
  unfolding loans_difference
  less-told w = let b = order-before l.code k.code (ordered ∙ w) in rw (b.0, b.1) refl

  pub greater-told : o ≡ Greater → loans_difference l k ≡ some k.code
  unfolding loans_difference
  greater-told w = let b = order-behind l.code k.code (ordered ∙ w) in rw (b.0, b.1) refl

  module _ (w : o ≡ Equal) (a b : ℕ) (f : a ≡ l.borrower) (g : b ≡ k.borrower) where
    pub same-told : a ≡ b → loans_difference l k ≡ none
    unfolding loans_difference
    same-told h = rw (order_same l.code k.code (ordered ∙ w), eq-eqb l.borrower k.borrower (sym f ∙ h ∙ g)) refl

    pub borrowers-told : (a ≡ b → ⊥) → loans_difference l k ≡ some l.code
    unfolding loans_difference
    borrowers-told h = rw (order_same l.code k.code (ordered ∙ w), ne_eqb l.borrower k.borrower (λ e. h (f ∙ e ∙ sym g))) refl

-- the borrower in a place is that of its loan
pub borrower-held : (bs : List ℕ) (i r : ℕ) → (length bs ≡ 12288) → (are_ordered bs ≡ true) → (i < length (loans_at bs))
    → r ≡ value 8 (take 4 (drop (48 * i + 44) bs)) → r ≡ (loan_in (loans_at bs) i).borrower
borrower-held bs i r l o h e = e ∙ sym (borrower-is bs o l i h)

-- ---- the walk

abbrev or_more : Option (List ℕ) → Option (List ℕ) → Option (List ℕ)
or_more none more = more
or_more (some c) more = some c

loan-difference : (l k : Loan) (ls ks : List Loan) → difference (l ∷ ls) (k ∷ ks) ≡ or_more (loans_difference l k) (difference ls ks)
unfolding difference loans_difference
loan-difference l k ls ks = go (same_bytes l.code k.code) (eqb l.borrower k.borrower) (before l.code k.code)
  where
    go : (s b f : Bool) → cond s (cond b (difference ls ks) (some l.code)) (cond f (some l.code) (some k.code))
        ≡ or_more (cond s (cond b none (some l.code)) (cond f (some l.code) (some k.code))) (difference ls ks)
    go true true f = refl
    go true false f = refl
    go false b true = refl
    go false b false = refl

-- the loans before place i are the same in both
pub record Walked (ls ks : List Loan) (i : ℕ) : Type 0 where
  pub first : i ≤ length ls
  pub second : i ≤ length ks
  pub left : difference (drop i ls) (drop i ks) ≡ difference ls ks

module _ (ls ks : List Loan) (i : ℕ) (w : Walked ls ks i) where
  ends : (x : Option (List ℕ)) → difference (drop i ls) (drop i ks) ≡ x → difference_as x ≡ difference_as (difference ls ks)
  ends x e = ap difference_as (sym e ∙ w.left)

  pub only-first : (j : ℕ) → i ≡ j → i < length ls → length ks ≤ i → difference_as (some (loan_in ls j).code) ≡ difference_as (difference ls ks)
  only-first j e h g = subst (λ (k : ℕ). difference_as (some (loan_in ls k).code) ≡ difference_as (difference ls ks)) e (ends _ (difference-only-first ls ks i h g))

  pub only-second : (j : ℕ) → i ≡ j → length ls ≤ i → i < length ks → difference_as (some (loan_in ks j).code) ≡ difference_as (difference ls ks)
  only-second j e h g = subst (λ (k : ℕ). difference_as (some (loan_in ks k).code) ≡ difference_as (difference ls ks)) e (ends _ (difference-only-second ls ks i h g))

  pub no_more : length ls ≤ i → length ks ≤ i → None ≡ difference_as (difference ls ks)
  no_more h g = ends none (difference-end ls ks i h g)

  module _ (h : i < length ls) (g : i < length ks) where
    abbrev here : Option (List ℕ)
    here = loans_difference (loan_in ls i) (loan_in ks i)

    abbrev more : Option (List ℕ)
    more = difference (drop (suc i) ls) (drop (suc i) ks)

    met : difference (drop i ls) (drop i ks) ≡ or_more here more
    met = difference-both ls ks i h g ∙ loan-difference (loan_in ls i) (loan_in ks i) _ _

    pub differs-here : (r : code.Option Code) → r ≡ difference_as here → is_some r ≡ true → r ≡ difference_as (difference ls ks)
    differs-here r e t = go here e met
      where
        go : (x : Option (List ℕ)) → r ≡ difference_as x → difference (drop i ls) (drop i ks) ≡ or_more x more → r ≡ difference_as (difference ls ks)
        go none q z = absurd (true-false t (ap is_some q))
        go (some c) q z = q ∙ ends (some c) z

    pub one_more : (r : code.Option Code) → r ≡ difference_as here → is_some r ≡ false → Walked ls ks (i + 1)
    one_more r e t = record { first = omega (arith, h); second = omega (arith, g); left = rw add-one (sym (go here e met) ∙ w.left) }
      where
        go : (x : Option (List ℕ)) → r ≡ difference_as x → difference (drop i ls) (drop i ks) ≡ or_more x more → difference (drop i ls) (drop i ks) ≡ more
        go none q z = z
        go (some c) q z = absurd (true-false (ap is_some q) t)
