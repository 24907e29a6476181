-- A place made of its parts: the length, the code over zeros, the borrower; one written over another; and the borrower read.
use Prim.Native.Nat.{ℕ, ◌+◌, ◌-◌, ◌*◌, ◌≤◌, ◌<◌}
use mathlib.Core.Path.{◌≡◌, sym, ◌∙◌, ap}
use mathlib.Core.Option.{some}
use mathlib.Core.List.{List, [], ◌∷◌, ◌++◌, append_assoc, append-nil}
use native.Mathlib.Omega.{arith}
use lib.ListN.{length, take, drop, replicate, length-append, length-drop}
use lib.Seq.{take_all, take_at, drop_at, drop-drop, take-take}
use Rattle.std.specs.Int.{w32, from_be_bytes}
use Rattle.std.specs.Array.{IsWholeChunk}
use Rattle.iscc.specs.Digits.{digits, value}
use Rattle.iscc.proofs.Parts.{drop-take}
use Rattle.loans.specs.Loan.{loan_of}
use Rattle.loans.specs.Place.{zeros, place_bytes}
use Rattle.loans.specs.Moves.{pasted}
use Rattle.loans.proofs.Place.{length-zeros}
use Rattle.loans.proofs.Places.{zeros-more}
use Rattle.places.proofs.OrderTests.{place-size}

-- a byte string that has been written behind the length over 47 zeros: it, zeros up to 43 bytes, and the four of the borrower
module _ (c e : List ℕ) (l : length c ≤ 42) (p : e ≡ c) where
  abbrev last : List ℕ
  last = 0 ∷ 0 ∷ 0 ∷ 0 ∷ []

  abbrev front : List ℕ
  front = c ++ zeros (43 - length c)

  filled : e ++ drop (1 + length c - 1) (replicate 47 0) ≡ front ++ last
  unfolding zeros
  filled =
      let j : 1 + length c - 1 ≡ length c = omega arith in
      let s : length c + (43 - length c + 4) ≡ 47 = omega arith in
      let z : replicate 47 0 ≡ zeros (length c) ++ zeros (43 - length c + 4) = ap zeros (sym s) ∙ sym (zeros-more (length c) (43 - length c + 4)) in
      let d : drop (length c) (replicate 47 0) ≡ zeros (43 - length c + 4) =
      ap (drop (length c)) z ∙ drop_at (zeros (length c)) (zeros (43 - length c + 4)) (length c) (length-zeros (length c)) in
      let t : zeros (43 - length c + 4) ≡ zeros (43 - length c) ++ last = sym (zeros-more (43 - length c) 4) in
      ap (λ (x : List ℕ). x ++ drop (1 + length c - 1) (replicate 47 0)) p ∙ ap (λ (k : ℕ). c ++ drop k (replicate 47 0)) j
      ∙ ap (λ (x : List ℕ). c ++ x) (d ∙ t) ∙ sym (append_assoc c (zeros (43 - length c)) last)

  size : length front ≡ 43
  size = length-append c (zeros (43 - length c)) ∙ omega (arith, length-zeros (43 - length c))

  pub place-made : (b : ℕ) (d : List ℕ) → d ≡ digits 8 (length (take 4 (drop 43 (e ++ drop (1 + length c - 1) (replicate 47 0))))) b
      → length c ∷ (take 43 (e ++ drop (1 + length c - 1) (replicate 47 0)) ++ (d ++ drop 4 (drop 43 (e ++ drop (1 + length c - 1) (replicate 47 0)))))
      ≡ place_bytes (some (loan_of c b))
  unfolding place_bytes
  place-made b d q =
      let t : take 43 (e ++ drop (1 + length c - 1) (replicate 47 0)) ≡ front = ap (take 43) filled ∙ take_at front last 43 size in
      let r : drop 43 (e ++ drop (1 + length c - 1) (replicate 47 0)) ≡ last = ap (drop 43) filled ∙ drop_at front last 43 size in
      let w : d ≡ digits 8 4 b = q ∙ ap (λ (x : List ℕ). digits 8 (length (take 4 x)) b) r in
      rw (t, r, w, append-nil (digits 8 4 b), append_assoc c (zeros (43 - length c)) (digits 8 4 b))

-- ---- one place written

pub put_written : (area place e : List ℕ) (i : ℕ) → length place ≡ 48 → e ≡ place
    → take (48 * i) area ++ (e ++ drop (48 * i + 48 - 48 * i) (drop (48 * i) area)) ≡ pasted (48 * i) place area
unfolding pasted
put_written area place e i n w = let k : 48 * i + 48 - 48 * i ≡ 48 = omega arith in rw (w, k, drop-drop 48 (48 * i) area, n)

-- ---- the number in four bytes

pub number-read : (part : List ℕ) → length part ≡ 4 → from_be_bytes w32 part ≡ value 8 part
unfolding value
number-read (a ∷ b ∷ c ∷ d ∷ []) l = omega arith
number-read [] l = absurd (omega (arith, l))
number-read (a ∷ []) l = absurd (omega (arith, l))
number-read (a ∷ b ∷ []) l = absurd (omega (arith, l))
number-read (a ∷ b ∷ c ∷ []) l = absurd (omega (arith, l))
number-read (a ∷ b ∷ c ∷ d ∷ e ∷ part) l = absurd (omega (arith, l))

-- those of a borrower, in a place
borrower-at : (bs : List ℕ) (i : ℕ) → take 4 (drop 44 (take (48 * i + 48 - 48 * i) (drop (48 * i) bs))) ≡ take 4 (drop (48 * i + 44) bs)
borrower-at bs i =
    let n : 48 * i + 48 - 48 * i ≡ 48 = omega arith in
    rw (n, drop-take 44 48 (drop (48 * i) bs), drop-drop 44 (48 * i) bs, take-take 4 4 (drop (48 * i + 44) bs) (omega arith))

pub borrower-last : (bs : List ℕ) (i : ℕ) (part : List ℕ) → length bs ≡ 12288 → i < 256
    → IsWholeChunk (drop (length (take (48 * i + 48 - 48 * i) (drop (48 * i) bs)) - 4) (take (48 * i + 48 - 48 * i) (drop (48 * i) bs))) part 4
    → part ≡ take 4 (drop (48 * i + 44) bs)
borrower-last bs i part l h w =
    let place : List ℕ = take (48 * i + 48 - 48 * i) (drop (48 * i) bs) in
    let n : length place ≡ 48 = place-size bs i l h in
    let k : length place - 4 ≡ 44 = omega (arith, n) in
    w.same ∙ ap (λ (j : ℕ). drop j place) k ∙ sym (take_all 4 (drop 44 place) (omega (arith, n, length-drop 44 place))) ∙ borrower-at bs i
