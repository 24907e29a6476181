-- A lent area of which the first j bytes are written: the invariant of every loop that writes from the left.
use Prim.Native.Nat.{ℕ, ◌+◌, ◌≤◌, ◌<◌}
use mathlib.Core.Path.{◌≡◌, refl, sym, ◌∙◌, ap}
use mathlib.Core.List.{List, [], ◌∷◌, ◌++◌}
use native.Mathlib.Omega.{arith}
use native.Mathlib.Numerals.{add-one}
use lib.ListN.{length, get_or, take, drop, set, length-append, length-drop}
use lib.Seq.{take-suc, take_all}
use Rattle.iscc.specs.Answer.{accept, area_after}
use Rattle.iscc.proofs.Text.{store-next}

-- `area` is the lent area d with the bytes p in front
pub record WrittenFront (p d area : List ℕ) (j : ℕ) : Type 0 where
  pub count : length p ≡ j
  pub room : j ≤ length d
  pub is : area ≡ p ++ drop j d

pub nothing_written : (d : List ℕ) → WrittenFront [] d d 0
nothing_written d = record { count = refl; room = omega arith; is = refl }

pub one_written : {p d area : List ℕ} {j : ℕ} (c : ℕ) → WrittenFront p d area j → j < length d → WrittenFront (p ++ (c ∷ [])) d (set area j c) (j + 1)
one_written {p} {d} {area} {j} c w l =
    let e : length p ≡ j = w.count in
    record {
      count = simp length-append (omega arith);
      room = omega arith;
      is = ap (λ (a : List ℕ). set a j c) w.is ∙ store-next p d j c e l;
    }

-- the area keeps its length
pub length-written : {p d area : List ℕ} {j : ℕ} → WrittenFront p d area j → length area ≡ length d
length-written {p} {d} {area} {j} w =
    let e : length p ≡ j = w.count in
    let r : j ≤ length d = w.room in
    ap length w.is ∙ simp (length-append, length-drop) (omega arith)

-- what a writer's contract says at the end
pub all-written : {p d area : List ℕ} {j : ℕ} → WrittenFront p d area j → (j ≡ length p) × (area ≡ area_after (accept p) d)
all-written {p} {d} {area} {j} w = (sym w.count, w.is ∙ ap (λ (k : ℕ). p ++ drop k d) (sym w.count))

-- a loop that copies: one byte more, and the end
pub copied_next : (s d area : List ℕ) (i : ℕ) → i < length s → i < length d → WrittenFront (take i s) d area i → WrittenFront (take (i + 1) s) d (set area i (get_or s i 0)) (i + 1)
copied_next s d area i l r w = rw (add-one, take-suc s i 0, ← add-one) (one_written (get_or s i 0) w r)

pub copied_all : (s d area : List ℕ) (i n : ℕ) → i ≡ n → length s ≤ n → WrittenFront (take i s) d area i → area ≡ s ++ drop n d
copied_all s d area i n e l w = w.is ∙ ap (λ (j : ℕ). take j s ++ drop j d) e ∙ ap (λ (p : List ℕ). p ++ drop n d) (take_all n s l)
