-- The first element that fails a test, by index, for loops over a slice.
use Prim.Native.Nat.{ℕ, suc, ◌+◌, ◌^◌, ◌≤◌, ◌<◌}
use mathlib.Core.Path.{◌≡◌, refl, sym, ◌∙◌, ap}
use mathlib.Core.Bool.{Bool, true, false, cond, ◌&&◌, and-false, and_comm}
use mathlib.Core.List.{List, [], ◌∷◌, ◌++◌, map, map-append}
use native.Mathlib.Nat.{le_of_suc-le-suc}
use native.Mathlib.Numerals.{add-one}
use native.Mathlib.Omega.{arith}
use lib.ListN.{length, get_or, take, drop, drop_of_length-le}
use lib.Seq.{drop-cons, take-suc, take_all}
use lib.Dec.{ltb}
use borrow.Author.Tests.{ltb-true, lt-ltb}
use Rattle.iscc.specs.Digits.{Below, all_below}
use Rattle.iscc.specs.Alphabet.{Alphabet, digit_in, is_digit}
use Rattle.iscc.specs.Lists.{first_not}

-- none of the first i fails
pub record Passed (p : ℕ → Bool) (xs : List ℕ) (i : ℕ) : Type 0 where
  pub within : i ≤ length xs
  pub rest : first_not p xs ≡ i + first_not p (drop i xs)

pub passed_none : (p : ℕ → Bool) (xs : List ℕ) → Passed p xs 0
passed_none p xs = record { within = omega arith; rest = omega arith }

pub passed-one : {p : ℕ → Bool} {xs : List ℕ} {i : ℕ} → Passed p xs i → i < length xs → p (get_or xs i 0) ≡ true → Passed p xs (i + 1)
unfolding first_not
passed-one {p} {xs} {i} s l e =
    let n : first_not p (drop i xs) ≡ suc (first_not p (drop (i + 1) xs)) = rw (add-one, drop-cons xs i 0, e) in
    record { within = omega arith; rest = s.rest ∙ omega arith }

pub failed : {p : ℕ → Bool} {xs : List ℕ} {i : ℕ} → Passed p xs i → i < length xs → p (get_or xs i 0) ≡ false → i ≡ first_not p xs
unfolding first_not
failed {p} {xs} {i} s l e =
    let n : first_not p (drop i xs) ≡ 0 = rw (drop-cons xs i 0, e) in
    omega (arith, s.rest)

pub passed-all : {p : ℕ → Bool} {xs : List ℕ} {i : ℕ} → Passed p xs i → length xs ≤ i → i ≡ first_not p xs
unfolding first_not
passed-all {p} {xs} {i} s l =
    let n : first_not p (drop i xs) ≡ 0 = rw (drop_of_length-le xs l) in
    omega (arith, s.rest)

-- ---- what the first character outside an alphabet says of test 4

module _ (a : Alphabet) where
  pub all_digits : (t : List ℕ) → length t ≤ first_not (is_digit a) t → Below (2 ^ a.bits) (map (digit_in a) t)
  unfolding first_not
  all_digits [] h = tt
  all_digits (c ∷ t) h = go (ltb (digit_in a c) (2 ^ a.bits)) refl h (all_digits t)
    where
      go : (b : Bool) → ltb (digit_in a c) (2 ^ a.bits) ≡ b → suc (length t) ≤ cond b (suc (first_not (is_digit a) t)) 0
          → (length t ≤ first_not (is_digit a) t → Below (2 ^ a.bits) (map (digit_in a) t)) → (digit_in a c < 2 ^ a.bits) × Below (2 ^ a.bits) (map (digit_in a) t)
      go true e h ih = (ltb-true (digit_in a c) (2 ^ a.bits) e, ih (le_of_suc-le-suc h))
      go false e h ih = absurd (omega (arith, h))

  pub some-bad : (t : List ℕ) → first_not (is_digit a) t < length t → all_below (2 ^ a.bits) (map (digit_in a) t) ≡ false
  unfolding first_not all_below
  some-bad [] h = absurd (omega (arith, h))
  some-bad (c ∷ t) h = go (ltb (digit_in a c) (2 ^ a.bits)) h (some-bad t)
    where
      go : (b : Bool) → cond b (suc (first_not (is_digit a) t)) 0 < suc (length t) → (first_not (is_digit a) t < length t → all_below (2 ^ a.bits) (map (digit_in a) t) ≡ false)
          → (b && all_below (2 ^ a.bits) (map (digit_in a) t)) ≡ false
      go true h ih = ih (le_of_suc-le-suc h)
      go false h ih = refl

-- ---- all elements below b, by the largest: m is the largest that f gives of the first i

larger : (m d b : ℕ) → m ≤ d → ltb d b ≡ (ltb m b && ltb d b)
larger m d b h = go (ltb d b) refl
  where
    go : (t : Bool) → ltb d b ≡ t → t ≡ (ltb m b && t)
    go true e = rw (lt-ltb m b (omega (arith, ltb-true d b e)))
    go false e = sym (and-false (ltb m b))

all_below-snoc : (b : ℕ) (xs : List ℕ) (x : ℕ) → all_below b (xs ++ (x ∷ [])) ≡ (all_below b xs && ltb x b)
unfolding all_below
all_below-snoc b [] x = and_comm (ltb x b) true
all_below-snoc b (y ∷ xs) x = go (ltb y b) (all_below-snoc b xs x)
  where
    go : (t : Bool) → all_below b (xs ++ (x ∷ [])) ≡ (all_below b xs && ltb x b) → (t && all_below b (xs ++ (x ∷ []))) ≡ ((t && all_below b xs) && ltb x b)
    go true ih = ih
    go false ih = refl

pub record Largest (f : ℕ → ℕ) (b : ℕ) (xs : List ℕ) (i m : ℕ) : Type 0 where
  pub within : i ≤ length xs
  pub is : ltb m b ≡ all_below b (map f (take i xs))

pub largest-none : (f : ℕ → ℕ) (b : ℕ) (xs : List ℕ) → 0 < b → Largest f b xs 0 0
unfolding all_below
largest-none f b xs h = record { within = omega arith; is = lt-ltb 0 b h }

module _ {f : ℕ → ℕ} {b : ℕ} {xs : List ℕ} {i m : ℕ} (d : ℕ) (s : Largest f b xs i m) (l : i < length xs) (e : d ≡ f (get_or xs i 0)) where
  next : {n : ℕ} → ltb n b ≡ (ltb m b && ltb d b) → Largest f b xs (i + 1) n
  next {n} p =
      record {
        within = omega arith;
        is = p ∙ sym (rw (add-one, take-suc xs i 0 l, map-append) (all_below-snoc b (map f (take i xs)) (f (get_or xs i 0)) ∙ rw (← s.is, ← e)));
      }

  pub largest-new : m < d → Largest f b xs (i + 1) d
  largest-new h = next (larger m d b (omega arith))

  pub largest-kept : d ≤ m → Largest f b xs (i + 1) m
  largest-kept h = next (larger d m b h ∙ and_comm (ltb d b) (ltb m b))

pub largest-all : {f : ℕ → ℕ} {b : ℕ} {xs : List ℕ} {i m : ℕ} → Largest f b xs i m → length xs ≤ i → ltb m b ≡ all_below b (map f xs)
largest-all {f} {b} {xs} {i} s h = s.is ∙ ap (λ (l : List ℕ). all_below b (map f l)) (take_all i xs h)

-- and then no element is the first to fail
pub none-bad : (a : Alphabet) (t : List ℕ) → Below (2 ^ a.bits) (map (digit_in a) t) → length t ≡ first_not (is_digit a) t
unfolding first_not
none-bad a [] h = refl
none-bad a (c ∷ t) h = rw (lt-ltb (digit_in a c) (2 ^ a.bits) h.0) (ap suc (none-bad a t h.1))
