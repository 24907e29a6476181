-- The nibble at an index, and the number that nibbles from an index on stand for.
use Prim.Native.Nat.{ℕ, ◌+◌, ◌*◌, ◌/◌, ◌%◌, ◌^◌, ◌≤◌, ◌<◌}
use mathlib.Core.Path.{◌≡◌, sym, ◌∙◌, ap}
use mathlib.Core.List.{List, [], ◌∷◌, ◌++◌}
use native.Mathlib.Omega.{arith}
use native.Mathlib.Numerals.{add-one}
use native.Mathlib.Nat.{lt_of_lt_of_le, pow-le-pow_right, pow-suc}
use lib.Arith.{digits_lt}
use lib.Dec.{lit<}
use lib.ListN.{length, get_or, take, drop, length-drop, get_or-eq_default}
use lib.Seq.{take-suc, get_or-drop}
use Rattle.iscc.specs.Digits.{value}
use Rattle.iscc.specs.Header.{nibbles}
use Rattle.iscc.proofs.Digits.{value-snoc}
use Rattle.iscc.proofs.Header.{length-nibbles, nibble-high, nibble-low}

module _ (bs : List ℕ) (at : ℕ) where
  pub nibble-past : length bs ≤ at / 2 → 0 ≡ get_or (nibbles bs) at 0
  nibble-past l = sym (get_or-eq_default (nibbles bs) 0 (omega (arith, length-nibbles bs)))

  module _ {b : ℕ} (e : b ≡ get_or bs (at / 2) 0) (l : at / 2 < length bs) where
    pub nibble-even : at % 2 ≡ 0 → b / 16 ≡ get_or (nibbles bs) at 0
    nibble-even p = rw e (sym (nibble-high bs (at / 2) l) ∙ ap (λ (k : ℕ). get_or (nibbles bs) k 0) (omega arith))

    pub nibble-odd : (at % 2 ≡ 0 → ⊥) → b % 16 ≡ get_or (nibbles bs) at 0
    nibble-odd p = rw e (sym (nibble-low bs (at / 2) l) ∙ ap (λ (k : ℕ). get_or (nibbles bs) k 0) (omega arith))

-- one nibble more
pub value-more : (bs : List ℕ) (at i v d : ℕ) → at + i < 2 * length bs → v ≡ value 4 (take i (drop at (nibbles bs))) → d ≡ get_or (nibbles bs) (at + i) 0
    → v * 16 + d ≡ value 4 (take (i + 1) (drop at (nibbles bs)))
value-more bs at i v d l e f =
    let ns : List ℕ = drop at (nibbles bs) in
    let n : length (nibbles bs) ≡ 2 * length bs = length-nibbles bs in
    let k : i < length ns = simp length-drop (omega arith) in
    let g : get_or ns i 0 ≡ d = get_or-drop at (nibbles bs) i 0 ∙ sym f in
    let t : take (i + 1) ns ≡ take i ns ++ (d ∷ []) = rw (add-one, take-suc ns i 0, g) in
    sym (ap (value 4) t ∙ value-snoc 4 (take i ns) d ∙ rw (← e))

-- at most four nibbles stay small
pub value-small : (i v : ℕ) → i ≤ 3 → v < 16 ^ i → v < 4096
value-small i v l h = lt_of_lt_of_le h (pow-le-pow_right (lit< tt) l)

pub value_grows : (i v d : ℕ) → v < 16 ^ i → d < 16 → v * 16 + d < 16 ^ (i + 1)
value_grows i v d h k = rw (add-one, pow-suc 16 i) (digits_lt h k)
