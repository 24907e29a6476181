-- Parts of a slice, as callers hand them over: the rest from an offset on, a part of a part, and an area whose front was written and
-- then what lies behind that.
use Prim.Native.Nat.{ℕ, zero, suc, ◌+◌, ◌-◌}
use mathlib.Core.Path.{◌≡◌, refl, sym, ◌∙◌, ap}
use mathlib.Core.List.{List, [], ◌∷◌, ◌++◌, append_assoc, append-nil}
use native.Mathlib.Omega.{arith}
use lib.ListN.{length, take, drop, length-append, length-drop}
use lib.Seq.{take-append_seam, drop-append_seam, take-length, drop-length, drop-drop, take_all, take_at, drop_at}
use Rattle.iscc.specs.Answer.{accept, area_after}

-- the part from an offset to the end is what `drop` leaves
pub rest-is : (xs : List ℕ) (offset : ℕ) → take (length xs - offset) (drop offset xs) ≡ drop offset xs
rest-is xs offset = take_all (length xs - offset) (drop offset xs) (omega (arith, length-drop offset xs))

module _ {A : Type 0} where
  take_none : (n : ℕ) → ◌≡◌ {A = List A} (take n []) []
  take_none zero = refl
  take_none (suc n) = refl

  pub drop-take : (k n : ℕ) (l : List A) → drop k (take n l) ≡ take (n - k) (drop k l)
  drop-take zero n l = let e : n - 0 ≡ n = omega arith in rw e
  drop-take (suc k) zero l = let e : 0 - suc k ≡ 0 = omega arith in rw e
  drop-take (suc k) (suc n) [] = sym (take_none (suc n - suc k))
  drop-take (suc k) (suc n) (x ∷ xs) = let e : suc n - suc k ≡ n - k = omega arith in rw e (drop-take k n xs)

abbrev over : List ℕ → List ℕ → List ℕ
over xs d = area_after (accept xs) d

behind : (xs ys t e : List ℕ) → e ≡ over ys (take (length (xs ++ t) - length xs) (drop (length xs) (xs ++ t)))
    → take (length xs) (xs ++ t) ++ (e ++ drop (length (xs ++ t) - length xs) (drop (length xs) (xs ++ t))) ≡ xs ++ over ys t
behind xs ys t e p =
    let n : length (xs ++ t) - length xs ≡ length t = omega (arith, length-append xs t) in
    rw (p, n, take-append_seam xs t, drop-append_seam xs t, take-length t, drop-length t, append-nil)

-- first xs was written to d, then ys to what lies behind
pub over-twice : (xs ys d a e : List ℕ) (k : ℕ) → k ≡ length xs → a ≡ over xs d → e ≡ over ys (take (length a - k) (drop k a))
    → take k a ++ (e ++ drop (length a - k) (drop k a)) ≡ over (xs ++ ys) d
over-twice xs ys d a e k ek ea =
    rw (ek, ea) λ p. behind xs ys (drop (length xs) d) e p ∙ simp (drop-drop, length-append, append_assoc)

-- first xs was written to d, then ys behind it
pub put-behind : (xs ys d a e : List ℕ) (n k : ℕ) → length xs ≡ n → length ys ≡ k → a ≡ over xs d → e ≡ ys
    → take n a ++ (e ++ drop (n + k - n) (drop n a)) ≡ over (xs ++ ys) d
put-behind xs ys d a e n k en ek ea ee =
    let b : a ≡ xs ++ drop n d = ea ∙ ap (λ (i : ℕ). xs ++ drop i d) en in
    let m : n + k - n ≡ k = omega arith in
    let z : length (xs ++ ys) ≡ n + k = length-append xs ys ∙ omega (arith, en, ek) in
    rw (b, take_at xs (drop n d) n en, drop_at xs (drop n d) n en, ee, m, drop-drop k n d, z) (sym (append_assoc xs ys (drop (n + k) d)))
