-- The area of a line: its bytes, and zeros behind them. So the bytes alone tell the area and the length.
use Rattle.std.specs.Prelude.{ℕ, ◌-◌, ◌≤◌, ◌≡◌, List, ◌++◌, length, take, drop, replicate}
use Rattle.std.proofs.Common.{sym, ◌∙◌, ap, subst}
use Rattle.std.proofs.lemmas.List.{length-take-le, take-append-drop}

abbrev pub area_of : List ℕ → List ℕ
area_of bytes = bytes ++ replicate (200 - length bytes) 0

abbrev pub length_of : List ℕ → ℕ
length_of bytes = length bytes

pub record IsLine (area : List ℕ) (count : ℕ) : Type 0 where
  pub within : count ≤ 200
  pub size : length area ≡ 200
  pub zeros : drop count area ≡ replicate (200 - count) 0

pub length-back : (area : List ℕ) (count : ℕ) → IsLine area count → length_of (take count area) ≡ count
length-back area count v = length-take-le count area (subst (λ (n : ℕ). count ≤ n) (sym v.size) v.within)

pub area_back : (area : List ℕ) (count : ℕ) → IsLine area count → area_of (take count area) ≡ area
area_back area count v =
    ap (λ (k : ℕ). take count area ++ replicate (200 - k) 0) (length-back area count v)
    ∙ ap (λ (zs : List ℕ). take count area ++ zs) (sym v.zeros) ∙ take-append-drop count area
