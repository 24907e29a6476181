-- Bytes as a number, the first one highest: such numbers stand in the order of their bytes.
use Prim.Native.Nat.{ℕ, suc, ◌+◌, ◌-◌, ◌*◌, ◌/◌, ◌^◌, ◌≤◌, ◌<◌}
use mathlib.Core.Path.{◌≡◌, refl, sym, ◌∙◌, ap, ap₂, subst}
use mathlib.Core.Bool.{Bool, true, false, cond, not}
use mathlib.Core.List.{List, [], ◌∷◌, ◌++◌}
use native.Mathlib.Nat.{mul-le-mul_right}
use native.Mathlib.Omega.{arith}
use lib.ListN.{length, get_or, take, drop, length-drop, take-append-drop}
use lib.Seq.{drop-drop, take-take, length-take-le}
use Rattle.std.proofs.lemmas.List.{drop-take}
use Rattle.std.specs.Simd.{first_chunks}
use Rattle.iscc.proofs.Words.{chunk_at}
use Rattle.iscc.proofs.Parts.{rest-is}
use lib.Dec.{eqb, ltb}
use borrow.Author.Tests.{eqb-true, eqb-false, ltb-true, ltb-false}
use Rattle.std.specs.Int.{w32, w64, from_be_bytes}
use Rattle.std.specs.Bool.{◌==◌}
use Rattle.std.specs.Ordering.{nat_cmp, ordering_index}
use Rattle.std.specs.declared.cmp.Ordering.{Ordering}
use Rattle.std.specs.declared.cmp.Ordering.TheVariants.{Less, Equal, Greater}
use Rattle.iscc.specs.Digits.{Below, value}
use Rattle.iscc.proofs.Digits.{value-lt, value_inj, below-take}
use Rattle.iscc.proofs.Demand3.{same_bytes-eq, same_bytes-refl}
use Rattle.iscc.specs.Lists.{same_bytes}
use Rattle.octets.specs.Order.{before}
use Rattle.octets.specs.Representation.{order_as}
use Rattle.octets.proofs.Answers.{order_same}
use Rattle.octets.proofs.Total.{before_same, before-less}
use Rattle.octets.proofs.Order.{is-before, is-behind, same-next, first-decides, second-decides}

value_before : (xs ys : List ℕ) → length xs ≡ length ys → Below 256 xs → Below 256 ys → value 8 xs < value 8 ys → before xs ys ≡ true
unfolding value
value_before [] [] l bx by h = absurd (omega (arith, h))
value_before [] (y ∷ ys) l bx by h = absurd (omega (arith, l))
value_before (x ∷ xs) [] l bx by h = absurd (omega (arith, l))
value_before (x ∷ xs) (y ∷ ys) l bx by h = go (eqb x y) refl (ltb x y) refl (value_before xs ys n bx.1 by.1)
  where
    n : length xs ≡ length ys
    n = omega (arith, l)

    p : ℕ
    p = 2 ^ (8 * length ys)

    h' : x * p + value 8 xs < y * p + value 8 ys
    h' = subst (λ (k : ℕ). x * 2 ^ (8 * k) + value 8 xs < y * p + value 8 ys) n h

    w : value 8 ys < p
    w = value-lt 8 ys by.1

    go : (b : Bool) → eqb x y ≡ b → (d : Bool) → ltb x y ≡ d → (value 8 xs < value 8 ys → before xs ys ≡ true) → before (x ∷ xs) (y ∷ ys) ≡ true
    go true e d f ih =
        let q : x * p ≡ y * p = ap (λ (k : ℕ). k * p) (eqb-true x y e) in
        before_same x y xs ys (eqb-true x y e) ∙ ih (omega (arith, q, h'))
    go false e true f ih = before-less x y xs ys (ltb-true x y f)
    go false e false f ih =
        let g : y ≤ x = ltb-false x y f in
        let o : x ≡ y → ⊥ = eqb-false x y e in
        let m : suc y * p ≤ x * p = mul-le-mul_right p (omega arith) in
        let z : suc y * p ≡ y * p + p = omega arith in
        absurd (omega (arith, m, z, w, h'))

same_order : (xs : List ℕ) → Equal ≡ order_as xs xs
unfolding order_as
same_order xs = rw (same_bytes-refl xs)

by_value : (xs ys : List ℕ) → length xs ≡ length ys → Below 256 xs → Below 256 ys → nat_cmp (value 8 xs) (value 8 ys) ≡ order_as xs ys
by_value xs ys l bx by = go (ltb (value 8 xs) (value 8 ys)) refl (eqb (value 8 xs) (value 8 ys)) refl
  where
    go : (b : Bool) → ltb (value 8 xs) (value 8 ys) ≡ b → (e : Bool) → eqb (value 8 xs) (value 8 ys) ≡ e → cond b Less (cond e Equal Greater) ≡ order_as xs ys
    go true h e k = sym (is-before xs ys (value_before xs ys l bx by (ltb-true _ _ h)))
    go false h true k =
        let w : xs ≡ ys = value_inj 8 xs ys bx by l (eqb-true _ _ k) in
        subst (λ (zs : List ℕ). Equal ≡ order_as xs zs) w (same_order xs)
    go false h false k =
        let m : value 8 ys ≤ value 8 xs = ltb-false _ _ h in
        let n : value 8 xs ≡ value 8 ys → ⊥ = eqb-false _ _ k in
        sym (is-behind xs ys (value_before ys xs (sym l) by bx (omega (arith, n))))

four : (bs : List ℕ) → length bs ≡ 4 → from_be_bytes w32 bs ≡ value 8 bs
unfolding value
four (a ∷ b ∷ c ∷ d ∷ []) l = omega arith
four [] l = absurd (omega (arith, l))
four (a ∷ []) l = absurd (omega (arith, l))
four (a ∷ b ∷ []) l = absurd (omega (arith, l))
four (a ∷ b ∷ c ∷ []) l = absurd (omega (arith, l))
four (a ∷ b ∷ c ∷ d ∷ e ∷ bs) l = absurd (omega (arith, l))

eight : (bs : List ℕ) → length bs ≡ 8 → from_be_bytes w64 bs ≡ value 8 bs
unfolding value
eight (a ∷ b ∷ c ∷ d ∷ e ∷ f ∷ g ∷ h ∷ []) l = omega arith
eight [] l = absurd (omega (arith, l))
eight (a ∷ []) l = absurd (omega (arith, l))
eight (a ∷ b ∷ []) l = absurd (omega (arith, l))
eight (a ∷ b ∷ c ∷ []) l = absurd (omega (arith, l))
eight (a ∷ b ∷ c ∷ d ∷ []) l = absurd (omega (arith, l))
eight (a ∷ b ∷ c ∷ d ∷ e ∷ []) l = absurd (omega (arith, l))
eight (a ∷ b ∷ c ∷ d ∷ e ∷ f ∷ []) l = absurd (omega (arith, l))
eight (a ∷ b ∷ c ∷ d ∷ e ∷ f ∷ g ∷ []) l = absurd (omega (arith, l))
eight (a ∷ b ∷ c ∷ d ∷ e ∷ f ∷ g ∷ h ∷ i ∷ bs) l = absurd (omega (arith, l))

pub by_fours : (xs ys : List ℕ) → length xs ≡ 4 → length ys ≡ 4 → Below 256 xs → Below 256 ys → nat_cmp (from_be_bytes w32 xs) (from_be_bytes w32 ys) ≡ order_as xs ys
by_fours xs ys l m bx by = rw (four xs l, four ys m) (by_value xs ys (l ∙ sym m) bx by)

pub by_eights : (xs ys : List ℕ) → length xs ≡ 8 → length ys ≡ 8 → Below 256 xs → Below 256 ys → nat_cmp (from_be_bytes w64 xs) (from_be_bytes w64 ys) ≡ order_as xs ys
by_eights xs ys l m bx by = rw (eight xs l, eight ys m) (by_value xs ys (l ∙ sym m) bx by)

-- the first four of both
pub by_front : (a b xs ys : List ℕ) → xs ≡ take 4 a → ys ≡ take 4 b → 4 ≤ length a → 4 ≤ length b → Below 256 a → Below 256 b
    → nat_cmp (from_be_bytes w32 xs) (from_be_bytes w32 ys) ≡ order_as (take 4 a) (take 4 b)
by_front a b xs ys e f l m ba bb =
    rw (e, f) (by_fours (take 4 a) (take 4 b) (length-take-le 4 a l) (length-take-le 4 b m) (below-take 256 4 a ba) (below-take 256 4 b bb))

-- ---- eight bytes at a time

-- as many bytes that are the same decide nothing
behind-same : (xs r s : List ℕ) → order_as (xs ++ r) (xs ++ s) ≡ order_as r s
behind-same [] r s = refl
behind-same (x ∷ xs) r s = same-next x x (xs ++ r) (xs ++ s) refl ∙ behind-same xs r s

-- as many bytes that are not the same decide all
unequal-decide : (xs ys r s : List ℕ) → length xs ≡ length ys → (o : Ordering) → order_as xs ys ≡ o → (o ≡ Equal → ⊥) → order_as (xs ++ r) (ys ++ s) ≡ o
unfolding order_as same_bytes
unequal-decide [] [] r s l o e n = absurd (n (sym e))
unequal-decide [] (y ∷ ys) r s l o e n = absurd (omega (arith, l))
unequal-decide (x ∷ xs) [] r s l o e n = absurd (omega (arith, l))
unequal-decide (x ∷ xs) (y ∷ ys) r s l o e n = go (eqb x y) refl (ltb x y) refl (unequal-decide xs ys r s (omega (arith, l)) o)
  where
    go : (q : Bool) → eqb x y ≡ q → (b : Bool) → ltb x y ≡ b → (order_as xs ys ≡ o → (o ≡ Equal → ⊥) → order_as (xs ++ r) (ys ++ s) ≡ o) → order_as (x ∷ (xs ++ r)) (y ∷ (ys ++ s)) ≡ o
    go true q b h ih = same-next x y (xs ++ r) (ys ++ s) (eqb-true x y q) ∙ ih (sym (same-next x y xs ys (eqb-true x y q)) ∙ e) n
    go false q true h ih = sym (first-decides x y (xs ++ r) (ys ++ s) (ltb-true x y h)) ∙ first-decides x y xs ys (ltb-true x y h) ∙ e
    go false q false h ih =
        let m : y ≤ x = ltb-false x y h in
        let d : x ≡ y → ⊥ = eqb-false x y q in
        let g : y < x = omega (arith, d) in
        sym (second-decides x y (xs ++ r) (ys ++ s) g) ∙ second-decides x y xs ys g ∙ e

-- what both are in order by, once the first i words are the same
pub record Left (a b : List ℕ) (n i : ℕ) : Type 0 where
  pub first : n ≤ length a
  pub second : n ≤ length b
  pub within : 8 * i ≤ n
  pub same : order_as (drop (8 * i) a) (drop (8 * i) b) ≡ order_as a b

pub start : (a b : List ℕ) (n : ℕ) → n ≤ length a → n ≤ length b → Left a b n 0
start a b n f s = record { first = f; second = s; within = omega arith; same = refl }

-- the word at an index, as the code has it
word-is : (a us : List ℕ) (ws : List (List ℕ)) (n i : ℕ) → n ≤ length a → us ≡ take n a → ws ≡ first_chunks 8 (length us / 8) us → 8 * i + 8 ≤ n → get_or ws i [] ≡ take 8 (drop (8 * i) a)
word-is a us ws n i l u w h =
    let m : length us ≡ n = ap length u ∙ length-take-le n a l in
    let k : i < length us / 8 = omega (arith, m) in
    ap (λ (z : List (List ℕ)). get_or z i []) w ∙ chunk_at 8 us [] i (length us / 8) k ∙ ap (λ (z : List ℕ). take 8 (drop (8 * i) z)) u ∙ cut
  where
    cut : take 8 (drop (8 * i) (take n a)) ≡ take 8 (drop (8 * i) a)
    cut =
        let e : 8 * i + (n - 8 * i) ≡ n = omega arith in
        ap (λ (k : ℕ). take 8 (drop (8 * i) (take k a))) (sym e) ∙ ap (take 8) (drop-take (8 * i) (n - 8 * i) a) ∙ take-take 8 (n - 8 * i) (drop (8 * i) a) (omega arith)

module _ (a b us vs : List ℕ) (xs ys : List (List ℕ)) (n i : ℕ) (inv : Left a b n i) (u : us ≡ take n a) (v : vs ≡ take n b) (x : xs ≡ first_chunks 8 (length us / 8) us)
    (y : ys ≡ first_chunks 8 (length vs / 8) vs) (j : i < length us / 8) (o : Ordering) (e : o ≡ order_as (get_or xs i []) (get_or ys i [])) where
  abbrev r : List ℕ → List ℕ
  r c = drop 8 (drop (8 * i) c)

  h : 8 * i + 8 ≤ n
  h = let m : length us ≡ n = ap length u ∙ length-take-le n a inv.first in omega (arith, j)

  sizes : length (take 8 (drop (8 * i) a)) ≡ length (take 8 (drop (8 * i) b))
  sizes =
      length-take-le 8 (drop (8 * i) a) (omega (arith, length-drop (8 * i) a, inv.first, h)) ∙ sym (length-take-le 8 (drop (8 * i) b) (omega (arith, length-drop (8 * i) b, inv.second, h)))

  words : order_as (take 8 (drop (8 * i) a)) (take 8 (drop (8 * i) b)) ≡ o
  words = ap₂ order_as (sym (word-is a us xs n i inv.first u x h)) (sym (word-is b vs ys n i inv.second v y h)) ∙ sym e

  split : order_as (take 8 (drop (8 * i) a) ++ r a) (take 8 (drop (8 * i) b) ++ r b) ≡ order_as a b
  split = ap₂ order_as (take-append-drop 8 (drop (8 * i) a)) (take-append-drop 8 (drop (8 * i) b)) ∙ inv.same

  pub decided : (o ≡ Equal → ⊥) → o ≡ order_as a b
  decided n = sym (unequal-decide _ _ (r a) (r b) sizes o words n) ∙ split

  pub passed : o ≡ Equal → Left a b n (i + 1)
  passed q =
      let w : take 8 (drop (8 * i) a) ≡ take 8 (drop (8 * i) b) = same_bytes-eq _ _ (order_same _ _ (words ∙ q)) in
      let k : 8 * i + 8 ≡ 8 * (i + 1) = omega arith in
      let f : (c : List ℕ) → r c ≡ drop (8 * (i + 1)) c = λ c. drop-drop 8 (8 * i) c ∙ ap (λ (j : ℕ). drop j c) k in
      record {
        first = inv.first;
        second = inv.second;
        within = omega (arith, h);
        same =
            ap₂ order_as (sym (f a)) (sym (f b)) ∙ sym (behind-same (take 8 (drop (8 * i) b)) (r a) (r b))
            ∙ ap (λ (z : List ℕ). order_as (z ++ r a) (take 8 (drop (8 * i) b) ++ r b)) (sym w) ∙ split;
      }

-- what is behind the words decides
pub rest-decides : (a b : List ℕ) (n i d : ℕ) → Left a b n i → d ≡ 8 * i → order_as (take (length a - d) (drop d a)) (take (length b - d) (drop d b)) ≡ order_as a b
rest-decides a b n i d inv e = rw (rest-is a d, rest-is b d, e) inv.same

-- by `!=` of two orders
pub equal-told : (o : Ordering) (r : Bool) → r ≡ not (ordering_index o == 1) → r ≡ false → o ≡ Equal
equal-told Less r e f = absurd cc
equal-told Equal r e f = refl
equal-told Greater r e f = absurd cc

pub unequal-told : (o : Ordering) (r : Bool) → r ≡ not (ordering_index o == 1) → r ≡ true → o ≡ Equal → ⊥
unequal-told Less r e f q = cc
unequal-told Equal r e f q = let z : ◌≡◌ {A = ℕ} 0 1 = cc in omega arith
unequal-told Greater r e f q = cc
