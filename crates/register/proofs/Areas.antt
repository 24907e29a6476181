-- The test of an area by its branches, its counts and its last number, and its three parts written.
use Prim.Native.Nat.{ℕ, suc, ◌+◌, ◌-◌, ◌*◌, ◌%◌, ◌^◌, ◌≤◌, ◌<◌}
use mathlib.Core.Path.{◌≡◌, refl, sym, ◌∙◌, ap, ap₂, subst}
use mathlib.Core.Bool.{Bool, true, false, ◌&&◌}
use mathlib.Core.Option.{some}
use Rattle.std.specs.Prelude.{Option, Some, None, SomeIff, Ok, Err}
use mathlib.Core.List.{List, [], ◌++◌, append-nil, append_assoc}
use native.Mathlib.Nat.{mod-eq_of_lt}
use native.Mathlib.Omega.{arith}
use lib.ListN.{length, get_or, take, drop, length-append, length-drop, drop_of_length-le}
use lib.Seq.{take_at, drop_at, take_all, drop-drop, length-take-le}
use borrow.Author.Tests.{eq-eqb, ne_eqb, lt-ltb, le-ltb}
use Rattle.std.specs.Array.{IsWholeChunk}
use Rattle.iscc.specs.Refusals.{not_register}
use Rattle.iscc.specs.Answer.{accept, refuse}
use Rattle.iscc.specs.Lists.{same_bytes}
use Rattle.iscc.specs.Digits.{digits, value, Below}
use Rattle.loans.specs.Loan.{loan_of, one_code}
use Rattle.loans.specs.Place.{place_bytes}
use Rattle.loans.specs.Order.{are_ordered, loans_at}
use Rattle.loans.specs.Counts.{code_type, counts, counts_bytes}
use Rattle.loans.specs.Contents.{counts_part, places_part, number_part, is_register, contents_of, counts_asked}
use Rattle.loans.specs.Moves.{put_in, taken_out, number_at, one_more, one_less}
use Rattle.loans.proofs.Loan.{is_code}
use Rattle.loans.proofs.OrderedPlaces.{loans-few}
use Rattle.loans.proofs.CodesOut.{front-true}
use Rattle.loans.proofs.Contents.{register-known, register-sound}
use Rattle.register.specs.declared.answer.Counts.{Counts}
use Rattle.register.specs.Next.{next_number}
use Rattle.register.specs.Representation.{counts_of, counts_as}

-- ---- 23

pub register-length : (area : List ℕ) → (length area ≡ 12308 → ⊥) → false ≡ is_register area
unfolding is_register
register-length area h = rw (ne_eqb (length area) 12308 h)

-- the same, as the check finds it
pub other_length : (area : List ℕ) → (length area ≡ 12308 → ⊥) → false ≡ is_register area
other_length area n = register-length area n

pub register-is : (area counts : List ℕ) → length area ≡ 12308 → counts ≡ counts_part area → (r : Bool)
    → r ≡ are_ordered (places_part area) && same_bytes counts (counts_bytes (loans_at (places_part area))) → r ≡ is_register area
unfolding is_register
register-is area counts h w r e = e ∙ rw (eq-eqb (length area) 12308 h, w)

-- ---- the numbers in front

module _ (area : List ℕ) where
  pub number-there : (i r : ℕ) → is_register area ≡ true → i < 8 → r ≡ number_at i (take 16 area) → r ≡ get_or (counts (contents_of area).loans) i 0
  number-there i r v h e = e ∙ front-true area v i h

  pub first-there : (r : ℕ) → r ≡ get_or (counts (contents_of area).loans) 0 0 → (r ≡ length (contents_of area).loans) × (r ≤ 256)
  first-there r e = (e, omega (arith, e, loans-few (places_part area)))

-- ---- the last number

pub number-behind : (area part : List ℕ) → length area ≡ 12308 → IsWholeChunk (drop (length area - 4) area) part 4 → part ≡ number_part area
number-behind area part l w =
    let k : length area - 4 ≡ 12304 = omega (arith, l) in
    w.same ∙ ap (λ (j : ℕ). drop j area) k ∙ sym (take_all 4 (drop 12304 area) (omega (arith, l, length-drop 12304 area)))

not-lt : (a b : ℕ) → (a < b → ⊥) → b ≤ a
not-lt a b h = omega arith

pub next-is : (l n : ℕ) (r : Option ℕ) → n ≡ l → SomeIff r (n + 1 < 4294967296) (n + 1) → r ≡ next_number l
unfolding next_number
next-is l n None e h = sym (rw (le-ltb l 4294967295 (omega (arith, e, not-lt (n + 1) 4294967296 h))))
next-is l n (Some k) e h =
    let w : k ≡ suc l = omega (arith, e, h.1) in
    rw (lt-ltb l 4294967295 (omega (arith, e, h.0)), w)

-- ---- the counts, where the area is a register, and where it is not

module _ (area : List ℕ) where
  pub counts-yes : is_register area ≡ true → (r : Counts) → r ≡ counts_of (counts (contents_of area).loans) → Ok r ≡ counts_as (counts_asked area)
  unfolding counts_asked
  counts-yes v r e = ap Ok e ∙ sym (rw v)

  pub counts-no : is_register area ≡ false → Err not_register ≡ counts_as (counts_asked area)
  unfolding counts_asked
  counts-no v = rw v

-- ---- the places written, then the counts

pub code-short : (c : List ℕ) → Below 256 c → one_code c ≡ true → length c ≤ 42
code-short c b o = (is_code c b o).most

module _ (area e : List ℕ) (n : length area ≡ 12308) (m : length e ≡ length (take 12288 (drop 16 area))) where
  -- the area with its places written, as it is handed back
  abbrev between : List ℕ
  between = take 16 area ++ (e ++ drop 12288 (drop 16 area))

  front-size : length (take 16 area) ≡ 16
  front-size = length-take-le 16 area (omega (arith, n))

  front_kept : take 16 between ≡ take 16 area
  front_kept = take_at (take 16 area) (e ++ drop 12288 (drop 16 area)) 16 front-size

  rest-kept : drop 16 between ≡ e ++ number_part area
  rest-kept =
      let z : drop 12304 area ≡ number_part area = sym (take_all 4 (drop 12304 area) (omega (arith, n, length-drop 12304 area))) in
      drop_at (take 16 area) (e ++ drop 12288 (drop 16 area)) 16 front-size ∙ ap (λ (bs : List ℕ). e ++ bs) (drop-drop 12288 16 area ∙ z)

  -- the counts are still those of before, so that one less can be counted
  pub some_left : 0 < number_at 0 (take 16 area) → 0 < number_at 0 (take 16 (take 16 area ++ (e ++ drop 12288 (drop 16 area))))
  some_left h = subst (λ (bs : List ℕ). 0 < number_at 0 bs) (sym front_kept) h

  pub type-left : (c : List ℕ) (t : ℕ) → t ≡ code_type c → 0 < number_at (suc (code_type c)) (take 16 area)
      → 0 < number_at (suc t) (take 16 (take 16 area ++ (e ++ drop 12288 (drop 16 area))))
  type-left c t k h = rw (k, front_kept) h

  both-written : (f : List ℕ → List ℕ) (x p : List ℕ) → x ≡ f (take 16 between) → e ≡ p → x ++ drop 16 between ≡ f (counts_part area) ++ (p ++ number_part area)
  both-written f x p q w = ap₂ (λ (a b : List ℕ). a ++ b) (q ∙ ap f front_kept) (rest-kept ∙ ap (λ (bs : List ℕ). bs ++ number_part area) w)

module _ (area c e : List ℕ) (place used t : ℕ) (n : length area ≡ 12308) (m : length e ≡ length (take 12288 (drop 16 area))) (k : t ≡ code_type c) where
  pub put-done : (b : ℕ) (loan x : List ℕ) → loan ≡ place_bytes (some (loan_of c b)) → e ≡ put_in (48 * place) (48 * used) loan (take 12288 (drop 16 area))
      → x ≡ one_more t (take 16 (take 16 area ++ (e ++ drop 12288 (drop 16 area))))
      → x ++ drop 16 (take 16 area ++ (e ++ drop 12288 (drop 16 area)))
      ≡ one_more (code_type c) (counts_part area) ++ (put_in (48 * place) (48 * used) (place_bytes (some (loan_of c b))) (places_part area) ++ number_part area)
  put-done b loan x l w q =
      both-written area e n m (one_more (code_type c)) x (put_in (48 * place) (48 * used) (place_bytes (some (loan_of c b))) (places_part area))
      (q ∙ ap (λ (j : ℕ). one_more j (take 16 (between area e n m))) k) (w ∙ ap (λ (p : List ℕ). put_in (48 * place) (48 * used) p (places_part area)) l)

  pub take_done : (x : List ℕ) → e ≡ taken_out (48 * place) 48 (48 * used) (take 12288 (drop 16 area))
      → x ≡ one_less t (take 16 (take 16 area ++ (e ++ drop 12288 (drop 16 area))))
      → x ++ drop 16 (take 16 area ++ (e ++ drop 12288 (drop 16 area)))
      ≡ one_less (code_type c) (counts_part area) ++ (taken_out (48 * place) 48 (48 * used) (places_part area) ++ number_part area)
  take_done x w q =
      both-written area e n m (one_less (code_type c)) x (taken_out (48 * place) 48 (48 * used) (places_part area))
      (q ∙ ap (λ (j : ℕ). one_less j (take 16 (between area e n m))) k) w

-- ---- the last number written, behind the two others

pub number-set : (n : ℕ) (area e : List ℕ) → length area ≡ 12308 → e ≡ digits 8 (length (take 4 (drop 12304 area))) n
    → take 12304 area ++ (e ++ drop 4 (drop 12304 area)) ≡ take 12304 area ++ digits 8 4 n
number-set n area e h w =
    let l : length (take 4 (drop 12304 area)) ≡ 4 = length-take-le 4 (drop 12304 area) (omega (arith, h, length-drop 12304 area)) in
    let z : drop 4 (drop 12304 area) ≡ [] = drop_of_length-le (drop 12304 area) {i = 4} (omega (arith, h, length-drop 12304 area)) in
    ap₂ (λ (x y : List ℕ). take 12304 area ++ (x ++ y)) (w ∙ ap (λ (k : ℕ). digits 8 k n) l) z ∙ ap (λ (x : List ℕ). take 12304 area ++ x) (append-nil (digits 8 4 n))

pub number_behind : (area area' x y d : List ℕ) (n : ℕ) → length area ≡ 12308 → length area' ≡ length area → area' ≡ x ++ (y ++ number_part area)
    → d ≡ take 12304 area' ++ digits 8 4 n → d ≡ x ++ (y ++ digits 8 4 n)
number_behind area area' x y d n h l e w =
    let s : area' ≡ (x ++ y) ++ number_part area = e ∙ sym (append_assoc x y (number_part area)) in
    let k : length (number_part area) ≡ 4 = length-take-le 4 (drop 12304 area) (omega (arith, h, length-drop 12304 area)) in
    let m : length (x ++ y) ≡ 12304 = omega (arith, k, h, l, ap length s, length-append (x ++ y) (number_part area)) in
    w ∙ ap (λ (bs : List ℕ). bs ++ digits 8 4 n) (ap (take 12304) s ∙ take_at (x ++ y) (number_part area) 12304 m) ∙ append_assoc x y (digits 8 4 n)
