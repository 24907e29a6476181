-- A cut between records is no tear, and a last record that is not whole is one.
use Prim.Native.Nat.{ℕ, zero, suc, ◌+◌}
use mathlib.Core.Path.{◌≡◌, refl, ◌∙◌, ap}
use mathlib.Core.Bool.{Bool, true, false}
use mathlib.Core.Option.{none}
use mathlib.Core.List.{List, [], ◌∷◌, append-nil}
use native.Mathlib.Nat.{zero-add}
use native.Mathlib.Omega.{arith}
use lib.ListN.{length, take, drop}
use lib.Seq.{take-add}
use Rattle.loans.specs.Fields.{first_size, first_is_whole, first_field}
use Rattle.loans.specs.Log.{Record, records_from}
use Rattle.loans.specs.Tears.{end_of_all, Tears}
use Rattle.loans.proofs.Fields.{size-body, nil-torn, records-torn, records-whole}
use Rattle.loans.proofs.Tears.{records-append, first_then}

-- the cut behind n records
record Cut (offset : ℕ) (bs : List ℕ) (rs : List Record) (n : ℕ) : Type 0 where
  size : ℕ
  end : end_of_all offset (take n rs) ≡ offset + size
  cut : records_from offset (take size bs) ≡ record { whole = take n rs; tear = none }

abbrev CutBehind : ℕ → ℕ → List ℕ → Type 0
CutBehind n offset bs = Cut offset bs (records_from offset bs).whole n

module _ (offset : ℕ) (bs : List ℕ) where
  cut-none : (n : ℕ) → take n (records_from offset bs).whole ≡ [] → CutBehind n offset bs
  unfolding end_of_all
  cut-none n e = record { size = 0; end = rw e (omega arith); cut = rw e (records-torn offset [] nil-torn) }

  cut-more : (n : ℕ) → first_is_whole bs ≡ true → CutBehind n (offset + first_size bs) (drop (first_size bs) bs) → CutBehind (suc n) offset bs
  unfolding end_of_all
  cut-more n w c =
      let s : offset + (3 + length (first_field bs).body) ≡ offset + first_size bs = omega (arith, size-body bs w) in
      rw (records-whole offset bs w) (record {
        size = first_size bs + c.size;
        end = rw s (c.end ∙ omega arith);
        cut = rw (take-add (first_size bs) c.size bs, first_then offset bs (take c.size (drop (first_size bs) bs)) w, c.cut);
      })

cut-behind : (n offset : ℕ) (bs : List ℕ) → CutBehind n offset bs
cut-behind zero offset bs = cut-none offset bs 0 refl
cut-behind (suc n) offset bs = go (first_is_whole bs) refl (cut-behind n (offset + first_size bs) (drop (first_size bs) bs))
  where
    go : (b : Bool) → first_is_whole bs ≡ b → CutBehind n (offset + first_size bs) (drop (first_size bs) bs) → CutBehind (suc n) offset bs
    go true w c = cut-more offset bs n w c
    go false w c = cut-none offset bs (suc n) (rw (records-torn offset bs w))

pub tears : Tears
tears =
    record {
      between = λ log n.
          let c = cut-behind n 0 log in
          ap (λ (k : ℕ). records_from 0 (take k log)) (c.end ∙ zero-add c.size) ∙ c.cut;
      last_torn = λ log tag rest t w.
          records-append 0 log (tag ∷ rest) t
          ∙ rw (zero-add (length log), records-torn (length log) (tag ∷ rest) w, append-nil (records_from 0 log).whole);
    }
