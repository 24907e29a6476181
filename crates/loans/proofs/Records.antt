-- The change in a record, written and read back; what is read is a good change.
use Prim.Native.Nat.{ℕ, suc, ◌*◌, ◌≤◌, ◌<◌}
use mathlib.Core.Path.{◌≡◌, refl}
use mathlib.Core.Bool.{Bool, true, false, cond, ◌&&◌}
use mathlib.Core.List.{List}
use native.Mathlib.Nat.{lt_of_lt_of_le}
use native.Mathlib.Omega.{arith}
use lib.ListN.{length, take, drop, length-append, length-take}
use lib.Seq.{take_at, drop_at}
use lib.Pow.{pow_mono}
use lib.Dec.{eqb}
use borrow.Author.Tests.{eq-eqb, ne_eqb}
use Rattle.iscc.specs.Digits.{digits, value, Below}
use Rattle.iscc.proofs.Digits.{length_digits, value-lt, below-take, below-drop}
use Rattle.iscc.proofs.Booleans.{both_true}
use Rattle.loans.specs.Loan.{one_code}
use Rattle.loans.specs.Map.{Change, issue_code, return_code}
use Rattle.loans.specs.Fields.{Field}
use Rattle.loans.specs.Records.{body_of, field_of, is_record, change_of}
use Rattle.loans.specs.Good.{GoodChange}
use Rattle.loans.proofs.Loan.{is_code}
use Rattle.loans.proofs.Place.{four-bytes-back}

pub body-length : (ch : Change) → GoodChange ch → length (body_of ch) ≤ 46
body-length (issue_code c b) g =
    let m : length c ≤ 42 = g.code.most in
    let d : length (digits 8 4 b) ≡ 4 = length_digits 8 4 b in
    simp length-append (omega arith)
body-length (return_code c) g = let m : length c ≤ 42 = g.most in omega arith

next-tag : (k : ℕ) → eqb (suc k) k ≡ false
next-tag k = ne_eqb (suc k) k (λ e. omega arith)

pub record_is : (k : ℕ) (ch : Change) → GoodChange ch → is_record k (field_of k ch) ≡ true
unfolding is_record
record_is k (issue_code c b) g = rw (eq-eqb k k refl, drop_at (digits 8 4 b) c 4 (length_digits 8 4 b)) g.code.one
record_is k (return_code c) g = rw (next-tag k, eq-eqb (suc k) (suc k) refl) g.one

pub change-back : (k : ℕ) (ch : Change) → GoodChange ch → change_of k (field_of k ch) ≡ ch
unfolding change_of
change-back k (issue_code c b) g =
    let d : length (digits 8 4 b) ≡ 4 = length_digits 8 4 b in
    rw (eq-eqb k k refl, drop_at (digits 8 4 b) c 4 d, take_at (digits 8 4 b) c 4 d, four-bytes-back b g.borrower)
change-back k (return_code c) g = rw (next-tag k)

pub small-value : (ds : List ℕ) → Below 256 ds → length ds ≤ 4 → value 8 ds < 4294967296
small-value ds k l = lt_of_lt_of_le (value-lt 8 ds k) (pow_mono {i = 8 * length ds} {j = 32} (omega arith))

pub good-change : (k : ℕ) (f : Field) → Below 256 f.body → is_record k f ≡ true → GoodChange (change_of k f)
unfolding is_record change_of
good-change k f b e = go (eqb f.tag k) e
  where
    go : (a : Bool) → cond a (one_code (drop 4 f.body)) (eqb f.tag (suc k) && one_code f.body) ≡ true
        → GoodChange (cond a (issue_code (drop 4 f.body) (value 8 (take 4 f.body))) (return_code f.body))
    go true w =
        record {
          code = is_code (drop 4 f.body) (below-drop 256 4 f.body b) w;
          borrower = small-value (take 4 f.body) (below-take 256 4 f.body b) (simp length-take (omega arith));
        }
    go false w = is_code f.body b (both_true (eqb f.tag (suc k)) (one_code f.body) w).1
