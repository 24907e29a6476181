-- Places moved one place on or back, and one written.
use Prim.Native.Nat.{ℕ, ◌+◌, ◌-◌, ◌*◌, ◌≤◌, ◌<◌}
use mathlib.Core.Path.{◌≡◌, sym, ◌∙◌, ap, ap₂}
use mathlib.Core.List.{List, ◌++◌, append_assoc}
use native.Mathlib.Omega.{arith}
use lib.ListN.{length, take, drop, replicate, length-append, length-drop}
use lib.Seq.{paste, length-take-le, take_at, drop_at, drop-drop, take-take, take-append-le}
use Rattle.loans.specs.Place.{zeros}
use Rattle.loans.specs.Moves.{pasted, put_in, taken_out}
use Rattle.loans.proofs.Place.{length-zeros}

pub place-put : (e a d place : List ℕ) (i used : ℕ) → length e ≡ 12288 → i ≤ used → used < 256 → length place ≡ 48
    → a ≡ paste e (48 * i + 48) (drop (48 * i) e) (48 * used - 48 * i) → d ≡ pasted (48 * i) place a → d ≡ put_in (48 * i) (48 * used) place e
unfolding pasted put_in
place-put e a d place i used l h k n p q =
    let t : 48 * i + 48 + (48 * used - 48 * i) ≡ 48 * used + length place = omega arith in
    let u : length (take (48 * i + 48) e) ≡ 48 * i + 48 = length-take-le (48 * i + 48) e (omega arith) in
    let m : List ℕ = take (48 * used - 48 * i) (drop (48 * i) e) ++ drop (48 * used + length place) e in
    let f : a ≡ take (48 * i + 48) e ++ m = p ∙ rw t (append_assoc (take (48 * i + 48) e) (take (48 * used - 48 * i) (drop (48 * i) e)) (drop (48 * used + length place) e)) in
    let x : take (48 * i) a ≡ take (48 * i) e =
    ap (take (48 * i)) f ∙ take-append-le (48 * i) (take (48 * i + 48) e) m (omega arith) ∙ take-take (48 * i) (48 * i + 48) e (omega arith) in
    let y : drop (48 * i + length place) a ≡ m = ap₂ (λ (j : ℕ) (xs : List ℕ). drop (48 * i + j) xs) n f ∙ drop_at (take (48 * i + 48) e) m (48 * i + 48) u in
    q ∙ rw (x, y)

pub place-taken : (e a d : List ℕ) (i used : ℕ) → length e ≡ 12288 → i < used → used ≤ 256
    → a ≡ paste e (48 * i) (drop (48 * i + 48) e) (48 * used - (48 * i + 48)) → d ≡ pasted (48 * (used - 1)) (replicate 48 0) a → d ≡ taken_out (48 * i) 48 (48 * used) e
unfolding pasted taken_out zeros
place-taken e a d i used l h k p q =
    let s : 48 * i + (48 * used - (48 * i + 48)) ≡ 48 * (used - 1) = omega arith in
    let m : List ℕ = take (48 * used - (48 * i + 48)) (drop (48 * i + 48) e) in
    let x : List ℕ = take (48 * i) e ++ m in
    let t : length (take (48 * i) e) ≡ 48 * i = length-take-le (48 * i) e (omega arith) in
    let u : length m ≡ 48 * used - (48 * i + 48) = length-take-le (48 * used - (48 * i + 48)) (drop (48 * i + 48) e) (omega (arith, length-drop (48 * i + 48) e)) in
    let w : length x ≡ 48 * (used - 1) = length-append (take (48 * i) e) m ∙ omega arith in
    let f : a ≡ x ++ drop (48 * (used - 1)) e = p ∙ rw s in
    let z : length (zeros 48) ≡ 48 = length-zeros 48 in
    let r : 48 * (used - 1) + 48 ≡ 48 * used = omega arith in
    let g : take (48 * (used - 1)) a ≡ x = ap (take (48 * (used - 1))) f ∙ take_at x (drop (48 * (used - 1)) e) (48 * (used - 1)) w in
    let b : drop (48 * (used - 1)) a ≡ drop (48 * (used - 1)) e = ap (drop (48 * (used - 1))) f ∙ drop_at x (drop (48 * (used - 1)) e) (48 * (used - 1)) w in
    let y : drop (48 * (used - 1) + length (zeros 48)) a ≡ drop (48 * used) e =
    ap (λ (j : ℕ). drop (48 * (used - 1) + j) a) z ∙ sym (drop-drop 48 (48 * (used - 1)) a) ∙ ap (drop 48) b ∙ drop-drop 48 (48 * (used - 1)) e ∙ ap (λ (j : ℕ). drop j e) r in
    q ∙ rw (g, y) (append_assoc (take (48 * i) e) m (zeros 48 ++ drop (48 * used) e))
