-- Lists tested element by element: every element, every pair, and one more element behind.
use Prim.Native.Nat.{ℕ, zero, suc, ◌<◌}
use mathlib.Core.Path.{◌≡◌, refl, sym, ◌∙◌, ap}
use mathlib.Core.Bool.{Bool, true, false, cond, ◌&&◌, and-true, and_assoc}
use mathlib.Core.List.{List, [], ◌∷◌, ◌++◌, map, zip_with, append_assoc, append-nil}
use native.Mathlib.Decide.{ℕ_discrete}
use native.Mathlib.Nat.{suc_inj, not-suc-le-zero, le_of_suc-le-suc}
use native.Mathlib.Omega.{arith}
use lib.ListN.{length, get_or}
use lib.Dec.{eqb}
use borrow.Author.Tests.{eq-eqb, ne_eqb}
use Rattle.iscc.specs.Lists.{All, every, pairwise, first_not, first_clash}
use Rattle.iscc.proofs.Booleans.{both_true, and-four}

pub every_append : {A : Type 0} (p : A → Bool) (xs : List A) (y : A) → every p (xs ++ (y ∷ [])) ≡ every p xs && p y
unfolding every
every_append p [] y = and-true (p y)
every_append p (x ∷ xs) y = rw (every_append p xs y) (sym (and_assoc (p x) (every p xs) (p y)))

pub every-and : {A : Type 0} (p q : A → Bool) (xs : List A) → every (λ x. p x && q x) xs ≡ every p xs && every q xs
unfolding every
every-and p q [] = refl
every-and p q (x ∷ xs) = rw (every-and p q xs) (and-four (p x) (q x) (every p xs) (every q xs))

pub every-same : {A : Type 0} (p q : A → Bool) → ((x : A) → p x ≡ q x) → (xs : List A) → every p xs ≡ every q xs
unfolding every
every-same p q f [] = refl
every-same p q f (x ∷ xs) = rw (f x, every-same p q f xs)

pub every_true : {A : Type 0} (xs : List A) → every (λ _. true) xs ≡ true
unfolding every
every_true [] = refl
every_true (x ∷ xs) = every_true xs

pub every-all : {A : Type 0} (p : A → Bool) (xs : List A) → All (λ x. p x ≡ true) xs → every p xs ≡ true
unfolding every
every-all p [] a = refl
every-all p (x ∷ xs) a = rw (a.0, every-all p xs a.1)

pub every_map : {A B : Type 0} (f : A → B) (p : B → Bool) (xs : List A) → every p (map f xs) ≡ every (λ x. p (f x)) xs
unfolding every
every_map f p [] = refl
every_map f p (x ∷ xs) = rw (every_map f p xs)

pub pairwise_map : {A B : Type 0} (f : A → B) (r : B → B → Bool) (xs : List A) → pairwise r (map f xs) ≡ pairwise (λ x y. r (f x) (f y)) xs
unfolding pairwise
pairwise_map f r [] = refl
pairwise_map f r (x ∷ xs) = rw (every_map f (r (f x)) xs, pairwise_map f r xs)

-- ---- what holds of every element

module _ {A : Type 0} (P : A → Type 0) where
  pub all_append : (xs ys : List A) → All P xs → All P ys → All P (xs ++ ys)
  all_append [] ys a b = b
  all_append (x ∷ xs) ys a b = (a.0, all_append xs ys a.1 b)

  pub all-imp : {Q : A → Type 0} → ((x : A) → P x → Q x) → (xs : List A) → All P xs → All Q xs
  all-imp f [] a = tt
  all-imp f (x ∷ xs) a = (f x a.0, all-imp f xs a.1)

  pub all_both : (p : A → Bool) (xs : List A) → All P xs → every p xs ≡ true → All (λ x. P x × (p x ≡ true)) xs
  unfolding every
  all_both p [] a e = tt
  all_both p (x ∷ xs) a e = let w = both_true (p x) (every p xs) e in ((a.0, w.0), all_both p xs a.1 w.1)

  pub all-at : (xs : List A) (i : ℕ) (d : A) → All P xs → i < length xs → P (get_or xs i d)
  all-at [] i d a h = absurd (not-suc-le-zero h)
  all-at (x ∷ xs) zero d a h = a.0
  all-at (x ∷ xs) (suc i) d a h = all-at xs i d a.1 (le_of_suc-le-suc h)

pub all_map : {A B : Type 0} (P : B → Type 0) (f : A → B) (xs : List A) → All (λ x. P (f x)) xs → All P (map f xs)
all_map P f [] a = tt
all_map P f (x ∷ xs) a = (a.0, all_map P f xs a.1)

pub map_at : {A B : Type 0} (f : A → B) (xs : List A) (i : ℕ) (d : A) (e : B) → i < length xs → get_or (map f xs) i e ≡ f (get_or xs i d)
map_at f [] i d e h = absurd (not-suc-le-zero h)
map_at f (x ∷ xs) zero d e h = refl
map_at f (x ∷ xs) (suc i) d e h = map_at f xs i d e (le_of_suc-le-suc h)

-- ---- two lists side by side, one as long as the other

module _ {A B C : Type 0} (f : A → B → C) where
  pub all-zip : (P : A → Type 0) (Q : B → Type 0) (R : C → Type 0) → ((x : A) (y : B) → P x → Q y → R (f x y))
      → (xs : List A) (ys : List B) → All P xs → All Q ys → All R (zip_with f xs ys)
  unfolding zip_with
  all-zip P Q R g [] ys a b = tt
  all-zip P Q R g (x ∷ xs) [] a b = tt
  all-zip P Q R g (x ∷ xs) (y ∷ ys) a b = (g x y a.0 b.0, all-zip P Q R g xs ys a.1 b.1)

  pub zip-at : (xs : List A) (ys : List B) (i : ℕ) (a : A) (b : B) (c : C) → i < length xs → i < length ys → get_or (zip_with f xs ys) i c ≡ f (get_or xs i a) (get_or ys i b)
  unfolding zip_with
  zip-at [] ys i a b c h l = absurd (not-suc-le-zero h)
  zip-at (x ∷ xs) [] i a b c h l = absurd (not-suc-le-zero l)
  zip-at (x ∷ xs) (y ∷ ys) zero a b c h l = refl
  zip-at (x ∷ xs) (y ∷ ys) (suc i) a b c h l = zip-at xs ys i a b c (le_of_suc-le-suc h) (le_of_suc-le-suc l)

  module _ {D : Type 0} (g : C → D) where
    pub map-zip-left : (h : A → D) → ((x : A) (y : B) → g (f x y) ≡ h x) → (xs : List A) (ys : List B) → length xs ≡ length ys → map g (zip_with f xs ys) ≡ map h xs
    unfolding zip_with
    map-zip-left h e [] ys l = refl
    map-zip-left h e (x ∷ xs) [] l = absurd (omega (arith, l))
    map-zip-left h e (x ∷ xs) (y ∷ ys) l = rw (e x y, map-zip-left h e xs ys (suc_inj l))

    pub map-zip-right : (h : B → D) → ((x : A) (y : B) → g (f x y) ≡ h y) → (xs : List A) (ys : List B) → length xs ≡ length ys → map g (zip_with f xs ys) ≡ map h ys
    unfolding zip_with
    map-zip-right h e [] [] l = refl
    map-zip-right h e [] (y ∷ ys) l = absurd (omega (arith, l))
    map-zip-right h e (x ∷ xs) [] l = absurd (omega (arith, l))
    map-zip-right h e (x ∷ xs) (y ∷ ys) l = rw (e x y, map-zip-right h e xs ys (suc_inj l))

-- ---- every element and every pair

module _ {A : Type 0} (r : A → A → Bool) where
  -- each goes with those before it, and with what stands in front
  unfoldable pub clear : List A → List A → Bool
  clear before [] = true
  clear before (x ∷ xs) = every (λ e. r e x) before && clear (before ++ (x ∷ [])) xs

  clear-is : (before xs : List A) → clear before xs ≡ every (λ x. every (λ e. r e x) before) xs && pairwise r xs
  unfolding clear pairwise every
  clear-is before [] = refl
  clear-is before (x ∷ xs) =
      let a : every (λ y. every (λ e. r e y) (before ++ (x ∷ []))) xs ≡ every (λ y. every (λ e. r e y) before) xs && every (r x) xs =
      every-same (λ y. every (λ e. r e y) (before ++ (x ∷ []))) (λ y. every (λ e. r e y) before && r x y) (λ y. every_append (λ e. r e y) before x) xs
      ∙ every-and (λ y. every (λ e. r e y) before) (r x) xs in
      rw (clear-is (before ++ (x ∷ [])) xs, a) (simp and_assoc)

  pub clear-all : (xs : List A) → clear [] xs ≡ pairwise r xs
  unfolding every
  clear-all xs = clear-is [] xs ∙ rw (every_true xs)

-- ---- the first element that fails, with one more element behind

cond-suc : (b : Bool) (x y : ℕ) → suc (cond b x y) ≡ cond b (suc x) (suc y)
cond-suc true x y = refl
cond-suc false x y = refl

eqb-suc : (x y : ℕ) → eqb (suc x) (suc y) ≡ eqb x y
eqb-suc x y = elim (ℕ_discrete x y) [ yes e ↦ eq-eqb (suc x) (suc y) (ap suc e) ∙ sym (eq-eqb x y e) | no d ↦ ne_eqb (suc x) (suc y) (λ e. d (suc_inj e)) ∙ sym (ne_eqb x y d) ]

module _ {A : Type 0} (p : A → Bool) where
  pub first_not-end : (xs : List A) → every p xs ≡ eqb (first_not p xs) (length xs)
  unfolding every first_not
  first_not-end [] = refl
  first_not-end (x ∷ xs) = go (p x) (first_not-end xs)
    where
      go : (b : Bool) → every p xs ≡ eqb (first_not p xs) (length xs) → b && every p xs ≡ eqb (cond b (suc (first_not p xs)) 0) (suc (length xs))
      go true ih = ih ∙ sym (eqb-suc (first_not p xs) (length xs))
      go false ih = sym (ne_eqb 0 (suc (length xs)) (λ e. omega arith))

  pub first_not-snoc : (xs : List A) (y : A) → first_not p (xs ++ (y ∷ [])) ≡ cond (every p xs && p y) (suc (length xs)) (first_not p xs)
  unfolding every first_not
  first_not-snoc [] y = refl
  first_not-snoc (x ∷ xs) y = go (p x) (first_not-snoc xs y)
    where
      go : (b : Bool) → first_not p (xs ++ (y ∷ [])) ≡ cond (every p xs && p y) (suc (length xs)) (first_not p xs)
          → cond b (suc (first_not p (xs ++ (y ∷ [])))) 0 ≡ cond ((b && every p xs) && p y) (suc (suc (length xs))) (cond b (suc (first_not p xs)) 0)
      go true ih = ap suc ih ∙ cond-suc (every p xs && p y) (suc (length xs)) (first_not p xs)
      go false ih = refl

module _ {A : Type 0} (r : A → A → Bool) where
  clear-end : (before xs : List A) → clear r before xs ≡ eqb (first_clash r before xs) (length xs)
  unfolding clear first_clash
  clear-end before [] = refl
  clear-end before (x ∷ xs) = go (every (λ e. r e x) before) (clear-end (before ++ (x ∷ [])) xs)
    where
      go : (b : Bool) → clear r (before ++ (x ∷ [])) xs ≡ eqb (first_clash r (before ++ (x ∷ [])) xs) (length xs)
          → b && clear r (before ++ (x ∷ [])) xs ≡ eqb (cond b (suc (first_clash r (before ++ (x ∷ [])) xs)) 0) (suc (length xs))
      go true ih = ih ∙ sym (eqb-suc (first_clash r (before ++ (x ∷ [])) xs) (length xs))
      go false ih = sym (ne_eqb 0 (suc (length xs)) (λ e. omega arith))

  pub first_clash-end : (xs : List A) → pairwise r xs ≡ eqb (first_clash r [] xs) (length xs)
  first_clash-end xs = sym (clear-all r xs) ∙ clear-end [] xs

  clash-snoc : (before xs : List A) (y : A)
      → first_clash r before (xs ++ (y ∷ [])) ≡ cond (clear r before xs && every (λ e. r e y) (before ++ xs)) (suc (length xs)) (first_clash r before xs)
  unfolding clear first_clash
  clash-snoc before [] y = rw (append-nil before)
  clash-snoc before (x ∷ xs) y = go (every (λ e. r e x) before) (clash-snoc (before ++ (x ∷ [])) xs y)
    where
      go : (b : Bool)
          → first_clash r (before ++ (x ∷ [])) (xs ++ (y ∷ []))
          ≡ cond (clear r (before ++ (x ∷ [])) xs && every (λ e. r e y) ((before ++ (x ∷ [])) ++ xs)) (suc (length xs)) (first_clash r (before ++ (x ∷ [])) xs)
          → cond b (suc (first_clash r (before ++ (x ∷ [])) (xs ++ (y ∷ [])))) 0
          ≡ cond ((b && clear r (before ++ (x ∷ [])) xs) && every (λ e. r e y) (before ++ (x ∷ xs))) (suc (suc (length xs))) (cond b (suc (first_clash r (before ++ (x ∷ [])) xs)) 0)
      go true ih =
          ap suc (ih ∙ rw (append_assoc before (x ∷ []) xs))
          ∙ cond-suc (clear r (before ++ (x ∷ [])) xs && every (λ e. r e y) (before ++ (x ∷ xs))) (suc (length xs)) (first_clash r (before ++ (x ∷ [])) xs)
      go false ih = refl

  pub first_clash-snoc : (xs : List A) (y : A)
      → first_clash r [] (xs ++ (y ∷ [])) ≡ cond (pairwise r xs && every (λ e. r e y) xs) (suc (length xs)) (first_clash r [] xs)
  first_clash-snoc xs y = clash-snoc [] xs y ∙ rw (clear-all r xs)
