-- Bodies by their index, and parts of areas.
use Prim.Native.Nat.{ℕ, zero, suc, ◌+◌, ◌-◌, ◌*◌, ◌<◌}
use mathlib.Core.Path.{◌≡◌, refl, sym, ◌∙◌, ap, ap₂}
use mathlib.Core.List.{List, [], ◌∷◌, ◌++◌, flatten, append_assoc, append-nil}
use native.Mathlib.Nat.{le_of_suc-le-suc, not-suc-le-zero}
use native.Mathlib.Numerals.{add-one}
use native.Mathlib.Omega.{arith}
use lib.ListN.{length, take, drop, get_or, set, replicate, length-append}
use lib.Seq.{drop-drop, take_at, drop_at}
use Rattle.std.specs.List.{flat_map}
use Rattle.composite.specs.Bodies.{filled_bodies, laid}

-- a body written over its own place
pub put_back : (o body ys : List ℕ) (offset : ℕ) → ys ≡ body
    → take offset o ++ (ys ++ drop (offset + 8 - offset) (drop offset o)) ≡ take offset o ++ (body ++ drop (offset + 8) o)
put_back o body ys offset e =
    let k : offset + 8 - offset ≡ 8 = omega arith in
    ap₂ (λ (p q : List ℕ). take offset o ++ (p ++ q)) e (ap (λ (m : ℕ). drop m (drop offset o)) k ∙ drop-drop 8 offset o)

-- ---- bodies, filled up with zeros

filled_none : (f g : ℕ → List ℕ) (k : ℕ) → filled_bodies f 0 k ≡ filled_bodies g 0 k
unfolding filled_bodies
filled_none f g zero = refl
filled_none f g (suc k) = ap (λ (r : List (List ℕ)). replicate 8 0 ∷ r) (filled_none f g k)

set-filled : (f : ℕ → List ℕ) (i k : ℕ) → i < k → set (filled_bodies f i k) i (f i) ≡ filled_bodies f (suc i) k
unfolding filled_bodies
set-filled f i zero h = absurd (not-suc-le-zero h)
set-filled f zero (suc k) h = ap (λ (r : List (List ℕ)). f 0 ∷ r) (filled_none f (λ i. f (suc i)) k)
set-filled f (suc i) (suc k) h = ap (λ (r : List (List ℕ)). f 0 ∷ r) (set-filled (λ i. f (suc i)) i k (le_of_suc-le-suc h))

-- one more is filled
pub one-filled : (f : ℕ → List ℕ) (i k : ℕ) (out : List (List ℕ)) (body : List ℕ) → i < k → out ≡ filled_bodies f i k → body ≡ f i → set out i body ≡ filled_bodies f (i + 1) k
one-filled f i k out body h eo er = rw (eo, er, add-one) (set-filled f i k h)

pub filled_at : (f : ℕ → List ℕ) (n k i : ℕ) → i < n → i < k → get_or (filled_bodies f n k) i [] ≡ f i
unfolding filled_bodies
filled_at f n zero i h l = absurd (not-suc-le-zero l)
filled_at f zero (suc k) i h l = absurd (not-suc-le-zero h)
filled_at f (suc n) (suc k) zero h l = refl
filled_at f (suc n) (suc k) (suc i) h l = filled_at (λ i. f (suc i)) n k i (le_of_suc-le-suc h) (le_of_suc-le-suc l)

pub filled-same : (f g : ℕ → List ℕ) (n k : ℕ) → ((i : ℕ) → i < n → f i ≡ g i) → filled_bodies f n k ≡ filled_bodies g n k
unfolding filled_bodies
filled-same f g n zero e = refl
filled-same f g zero (suc k) e = ap (λ (r : List (List ℕ)). replicate 8 0 ∷ r) (filled_none f g k)
filled-same f g (suc n) (suc k) e =
    ap₂ (λ (x : List ℕ) (r : List (List ℕ)). x ∷ r) (e 0 (omega arith)) (filled-same (λ i. f (suc i)) (λ i. g (suc i)) n k (λ i h. e (suc i) (omega arith)))

pub filled-eight : (f : ℕ → List ℕ) (n k : ℕ) → ((i : ℕ) → i < n → length (f i) ≡ 8) → (i : ℕ) → i < k → length (get_or (filled_bodies f n k) i []) ≡ 8
unfolding filled_bodies
filled-eight f n zero e i h = absurd (not-suc-le-zero h)
filled-eight f zero (suc k) e zero h = refl
filled-eight f zero (suc k) e (suc i) h = filled-eight f zero k e i (le_of_suc-le-suc h)
filled-eight f (suc n) (suc k) e zero h = e 0 (omega arith)
filled-eight f (suc n) (suc k) e (suc i) h = filled-eight (λ i. f (suc i)) n k (λ j l. e (suc j) (omega arith)) i (le_of_suc-le-suc h)

-- ---- parts of one width, laid end to end

laid-suc : (f : ℕ → List ℕ) (i : ℕ) → laid f (suc i) ≡ laid f i ++ f i
unfolding laid
laid-suc f i = refl

-- the first i parts of width w are written to the area d
pub record Laid (f : ℕ → List ℕ) (w : ℕ) (d area : List ℕ) (i : ℕ) : Type 0 where
  pub count : length (laid f i) ≡ i * w
  pub is : area ≡ laid f i ++ drop (i * w) d
  pub same : length area ≡ length d

pub none-laid : (f : ℕ → List ℕ) (w : ℕ) (d : List ℕ) → Laid f w d d 0
unfolding laid
none-laid f w d = record { count = omega arith; is = ap (λ (k : ℕ). drop k d) (let z : 0 ≡ 0 * w = omega arith in z); same = refl }

module _ (f : ℕ → List ℕ) (w : ℕ) (d area : List ℕ) (i : ℕ) (l : Laid f w d area i) where
  -- one part more
  pub more-laid : (next : List ℕ) → length (f i) ≡ w → length next ≡ length area → next ≡ take (i * w) area ++ (f i ++ drop (i * w + w) area) → Laid f w d next (i + 1)
  more-laid next e s n =
      let m : (i + 1) * w ≡ i * w + w = omega arith in
      let a : laid f (i + 1) ≡ laid f i ++ f i = laid_next in
      let t : take (i * w) area ≡ laid f i = ap (take (i * w)) l.is ∙ take_at (laid f i) (drop (i * w) d) (i * w) l.count in
      let u : drop (i * w + w) area ≡ drop (i * w + w) d =
      sym (drop-drop w (i * w) area)
      ∙ ap (drop w) (ap (drop (i * w)) l.is ∙ drop_at (laid f i) (drop (i * w) d) (i * w) l.count)
      ∙ drop-drop w (i * w) d in
      record {
        count = ap length a ∙ length-append (laid f i) (f i) ∙ omega (arith, l.count, e);
        is = n ∙ rw (t, u, a, m) (sym (append_assoc (laid f i) (f i) (drop (i * w + w) d)));
        same = s ∙ l.same;
      }
    where
      laid_next : laid f (i + 1) ≡ laid f i ++ f i
      laid_next = rw add-one (laid-suc f i)

  pub all_laid : (n : ℕ) → i ≡ n → area ≡ laid f n ++ drop (n * w) d
  all_laid n e = l.is ∙ ap (λ (k : ℕ). laid f k ++ drop (k * w) d) e

pub laid-length : (f : ℕ → List ℕ) (w n : ℕ) → ((i : ℕ) → i < n → length (f i) ≡ w) → length (laid f n) ≡ n * w
unfolding laid
laid-length f w zero e = omega arith
laid-length f w (suc n) e =
    let a : length (laid f n) ≡ n * w = laid-length f w n (λ i h. e i (omega arith)) in
    let b : length (f n) ≡ w = e n (omega arith) in
    length-append (laid f n) (f n) ∙ omega arith

pub laid_same : (f g : ℕ → List ℕ) → ((i : ℕ) → f i ≡ g i) → (n : ℕ) → laid f n ≡ laid g n
unfolding laid
laid_same f g e zero = refl
laid_same f g e (suc n) = ap₂ (λ (x y : List ℕ). x ++ y) (laid_same f g e n) (e n)

-- parts laid by their index are the list of them laid end to end
laid-front : (f : ℕ → List ℕ) (n : ℕ) → laid f (suc n) ≡ f 0 ++ laid (λ i. f (suc i)) n
unfolding laid
laid-front f zero = sym (append-nil (f 0))
laid-front f (suc n) = rw (laid-front f n) (append_assoc (f 0) (laid (λ i. f (suc i)) n) (f (suc n)))

pub laid-flat : (f : ℕ → List ℕ) (xs : List (List ℕ)) → ((i : ℕ) → i < length xs → f i ≡ get_or xs i []) → laid f (length xs) ≡ flatten xs
unfolding laid flatten
laid-flat f [] e = refl
laid-flat f (x ∷ xs) e =
    laid-front f (length xs) ∙ ap₂ (λ (x y : List ℕ). x ++ y) (e 0 (omega arith)) (laid-flat (λ i. f (suc i)) xs (λ i h. e (suc i) (omega arith)))

no_parts : (n : ℕ) → laid (λ i. get_or [] i []) n ≡ []
unfolding laid
no_parts zero = refl
no_parts (suc n) = rw (no_parts n)

-- the first n parts of a list, laid end to end
pub flat-laid : (xs : List (List ℕ)) (n : ℕ) → flat_map (λ x. x) (take n xs) ≡ laid (λ i. get_or xs i []) n
unfolding laid
flat-laid [] zero = refl
flat-laid [] (suc n) = sym (no_parts (suc n))
flat-laid (x ∷ xs) zero = refl
flat-laid (x ∷ xs) (suc n) = ap (λ (r : List ℕ). x ++ r) (flat-laid xs n) ∙ sym (laid-front (λ i. get_or (x ∷ xs) i []) n)
