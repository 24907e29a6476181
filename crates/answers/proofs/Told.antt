-- The parts of a line can be told apart: texts end at the first blank, and a number is what its digits say.
use Prim.Native.Nat.{ℕ, zero, suc, ◌+◌, ◌-◌, ◌*◌, ◌/◌, ◌%◌, ◌≤◌, ◌<◌, ◌^◌}
use mathlib.Core.Path.{◌≡◌, refl, sym, ◌∙◌, ap}
use mathlib.Core.Bool.{Bool, true, false}
use mathlib.Core.List.{List, [], ◌∷◌, ◌++◌}
use native.Mathlib.Nat.{pow-suc}
use native.Mathlib.Omega.{arith}
use lib.Dec.{ltb}
use borrow.Author.Tests.{ltb-true, ltb-false}
use Rattle.answers.specs.Answers.{decimal_up_to, in_decimal}
use Rattle.answers.specs.AnswerPromises.{NoBlank}
use Rattle.answers.proofs.Digits.{digits_last, digits_more}

-- ---- up to the first blank

pub first-blank : (t u x y : List ℕ) → NoBlank t → NoBlank u → t ++ (32 ∷ x) ≡ u ++ (32 ∷ y) → (t ≡ u) × (x ≡ y)
first-blank [] [] x y a b e = (refl, cc)
first-blank [] (d ∷ u) x y a b e = let h : d ≡ 32 = cc in absurd (b.0 h)
first-blank (c ∷ t) [] x y a b e = let h : c ≡ 32 = cc in absurd (a.0 h)
first-blank (c ∷ t) (d ∷ u) x y a b e =
    let s : t ++ (32 ∷ x) ≡ u ++ (32 ∷ y) = cc in
    let r = first-blank t u x y a.1 b.1 s in
    let h : c ≡ d = cc in
    let k : t ≡ u = r.0 in
    (cc, r.1)

-- ---- a number

blank-free : (a b : List ℕ) → NoBlank a → NoBlank b → NoBlank (a ++ b)
blank-free [] b p q = q
blank-free (c ∷ a) b p q = (p.0, blank-free a b p.1 q)

digit-free : (n : ℕ) → NoBlank ((48 + n) ∷ [])
digit-free n = (λ e. omega (arith, e), tt)

-- what digits behind the number n stand for
abbrev worth : ℕ → List ℕ → ℕ
worth n [] = n
worth n (c ∷ cs) = worth (n * 10 + (c - 48)) cs

worth-more : (n c : ℕ) (cs : List ℕ) → worth n (cs ++ (c ∷ [])) ≡ worth n cs * 10 + (c - 48)
worth-more n c [] = refl
worth-more n c (d ∷ cs) = worth-more (n * 10 + (d - 48)) c cs

-- both by the digits but the last
record Digits (n : ℕ) (cs : List ℕ) : Type 0 where
  free : NoBlank cs
  is : worth 0 cs ≡ n

one-digit : (k n : ℕ) → n < 10 → Digits n (decimal_up_to k n)
one-digit k n h = rw (digits_last k n h) record { free = digit-free (n % 10); is = omega arith }

digits_of : (k n : ℕ) → n < 10 ^ suc k → Digits n (decimal_up_to k n)
digits_of zero n h = one-digit zero n (omega (arith, h))
digits_of (suc k) n h = go (ltb n 10) refl (digits_of k (n / 10))
  where
    go : (b : Bool) → ltb n 10 ≡ b → (n / 10 < 10 ^ suc k → Digits (n / 10) (decimal_up_to k (n / 10))) → Digits n (decimal_up_to (suc k) n)
    go true e d = one-digit (suc k) n (ltb-true n 10 e)
    go false e d =
        let l : 10 ≤ n = ltb-false n 10 e in
        let p : 10 ^ suc (suc k) ≡ 10 ^ suc k * 10 = pow-suc 10 (suc k) in
        let v = d (omega arith) in
        let w : worth 0 (decimal_up_to k (n / 10)) ≡ n / 10 = v.is in
        rw (digits_more k n l)
        record {
          free = blank-free (decimal_up_to k (n / 10)) ((48 + n % 10) ∷ []) v.free (digit-free (n % 10));
          is = worth-more 0 (48 + n % 10) (decimal_up_to k (n / 10)) ∙ omega arith;
        }

module _ (n : ℕ) (h : n < 4294967296) where
  pub number-free : NoBlank (in_decimal n)
  unfolding in_decimal
  number-free = (digits_of 19 n (omega arith)).free

  number-worth : worth 0 (in_decimal n) ≡ n
  unfolding in_decimal
  number-worth = (digits_of 19 n (omega arith)).is

pub same_number : (m n : ℕ) → m < 4294967296 → n < 4294967296 → in_decimal m ≡ in_decimal n → m ≡ n
same_number m n h l e = sym (number-worth m h) ∙ ap (worth 0) e ∙ number-worth n l
