-- Bytes as digits of v bits and back, once over v from 1 to 8.
use Prim.Native.Nat.{ℕ, ◌+◌, ◌-◌, ◌*◌, ◌/◌, ◌%◌, ◌^◌, ◌≤◌, ◌<◌}
use mathlib.Core.Path.{◌≡◌, sym, ◌∙◌, ap}
use mathlib.Core.List.{List}
use native.Mathlib.Nat.{mod-lt, mod-eq_of_lt, mul_comm, div-add-mod, div-add-mod', mul-mod_left}
use native.Mathlib.Omega.{arith}
use lib.ListN.{length}
use lib.Arith.{digits_div}
use lib.Pow.{shl_lt, shl-shr, shr_lt}
use lib.Dec.{ltb, eqb}
use borrow.Author.Tests.{ltb-true, lt-ltb, eq-eqb, eqb-true}
use Rattle.iscc.specs.Answer.{accept, ◌>>◌, ◌otherwise◌}
use Rattle.iscc.specs.Refusals.{spare_bits}
use Rattle.iscc.specs.Digits.{digits, value, Below, digit_count, to_digits, byte_count, spare_count, from_digits}
use Rattle.iscc.proofs.Answer.{passed}
use Rattle.iscc.proofs.Digits.{length_digits, digits-below, value-digits, value-lt, digits_value}

-- n bytes take the fewest digits that hold them
pub record Counts (v n : ℕ) : Type 0 where
  pub enough : 8 * n ≤ v * digit_count v n
  pub tight : v * digit_count v n < 8 * n + v

pub counts : (v n : ℕ) → 0 < v → Counts v n
unfolding digit_count
counts v n h =
    let m : ℕ = 8 * n + (v - 1) in
    let e : v * (m / v) + m % v ≡ m = div-add-mod m v in
    let l : m % v < v = mod-lt m h in
    record { enough = omega arith; tight = omega arith }

-- the spare bits of n bytes' digits
abbrev spare : ℕ → ℕ → ℕ
spare v n = v * digit_count v n - 8 * n

pub length-to_digits : (v : ℕ) (bs : List ℕ) → length (to_digits v bs) ≡ digit_count v (length bs)
unfolding to_digits
length-to_digits v bs = length_digits v (digit_count v (length bs)) (value 8 bs * 2 ^ (v * digit_count v (length bs) - 8 * length bs))

pub to_digits-below : (v : ℕ) (bs : List ℕ) → Below (2 ^ v) (to_digits v bs)
unfolding to_digits
to_digits-below v bs = digits-below v (digit_count v (length bs)) (value 8 bs * 2 ^ (v * digit_count v (length bs) - 8 * length bs))

-- what is read: bytes, as many as the digits hold, and written again they are the same digits
pub record Read (v : ℕ) (ds bs : List ℕ) : Type 0 where
  pub bytes : Below 256 bs
  pub count : length bs ≡ byte_count v (length ds)
  pub again : to_digits v bs ≡ ds

module _ (v : ℕ) (pos : 0 < v) (most : v ≤ 8) where
  spare-is : (n : ℕ) → spare_count v (digit_count v n) ≡ spare v n
  unfolding spare_count
  spare-is n = let c : Counts v n = counts v n pos in omega arith

  bytes-is : (n : ℕ) → byte_count v (digit_count v n) ≡ n
  unfolding byte_count
  bytes-is n = let c : Counts v n = counts v n pos in omega arith

  value-is : (bs : List ℕ) → Below 256 bs → value v (to_digits v bs) ≡ value 8 bs * 2 ^ spare v (length bs)
  unfolding to_digits
  value-is bs h =
      let n : ℕ = length bs in
      let c : Counts v n = counts v n pos in
      let a : value 8 bs < 2 ^ (8 * n) = value-lt 8 bs h in
      let b : value 8 bs * 2 ^ spare v n < 2 ^ (8 * n + spare v n) = shl_lt (8 * n) (spare v n) a in
      let e : 8 * n + spare v n ≡ v * digit_count v n = omega arith in
      value-digits v (digit_count v n) (value 8 bs * 2 ^ spare v n) ∙ mod-eq_of_lt (rw e at b)

  -- what is written reads back
  pub from-to : (bs : List ℕ) → Below 256 bs → from_digits v (to_digits v bs) ≡ accept bs
  unfolding from_digits
  from-to bs h =
      let n : ℕ = length bs in
      let c : Counts v n = counts v n pos in
      let l : spare v n < v = omega arith in
      rw (length-to_digits v bs, spare-is n, bytes-is n, value-is bs h, lt-ltb (spare v n) v l, eq-eqb (value 8 bs * 2 ^ spare v n % 2 ^ spare v n) 0 (mul-mod_left (value 8 bs) (2 ^ spare v n)), shl-shr (value 8 bs) (spare v n), digits_value 8 bs h)

  bits_of : (k : ℕ) → 8 * byte_count v k + spare_count v k ≡ v * k
  unfolding byte_count spare_count
  bits_of k = omega arith

  -- the count of digits comes back from the count of bytes
  count-back : (k : ℕ) → spare_count v k < v → digit_count v (byte_count v k) ≡ k
  unfolding spare_count byte_count digit_count
  count-back k h =
      let r : ℕ = v - 1 - v * k % 8 in
      let l : r < v = omega arith in
      let e : 8 * (v * k / 8) + (v - 1) ≡ k * v + r = let c : v * k ≡ k * v = mul_comm v k in omega arith in
      ap (λ (m : ℕ). m / v) e ∙ digits_div k l

  -- what is read and written again is the same digits
  pub to-from : (ds bs : List ℕ) → Below (2 ^ v) ds → from_digits v ds ≡ accept bs → Read v ds bs
  unfolding from_digits to_digits
  to-from ds bs h e =
      let k : ℕ = length ds in
      let s : ℕ = spare_count v k in
      let n : ℕ = byte_count v k in
      let w : ℕ = value v ds in
      let p = passed (ltb s v) _ (eqb (w % 2 ^ s) 0 otherwise spare_bits >> accept (digits 8 n (w / 2 ^ s))) e in
      let q = passed (eqb (w % 2 ^ s) 0) _ (accept (digits 8 n (w / 2 ^ s))) p.1 in
      let l : s < v = ltb-true s v p.0 in
      let z : w % 2 ^ s ≡ 0 = eqb-true (w % 2 ^ s) 0 q.0 in
      let b : digits 8 n (w / 2 ^ s) ≡ bs = let x = q.1 in cc in
      let len : length bs ≡ n = ap length (sym b) ∙ length_digits 8 n (w / 2 ^ s) in
      let bits : 8 * n + s ≡ v * k = bits_of k in
      let lt : w / 2 ^ s < 2 ^ (8 * n) = shr_lt (8 * n) s (rw bits (value-lt v ds h)) in
      let val : value 8 bs ≡ w / 2 ^ s = ap (value 8) (sym b) ∙ value-digits 8 n (w / 2 ^ s) ∙ mod-eq_of_lt lt in
      let whole : w / 2 ^ s * 2 ^ s ≡ w = let d : w / 2 ^ s * 2 ^ s + w % 2 ^ s ≡ w = div-add-mod' w (2 ^ s) in omega arith in
      let sp : v * k - 8 * n ≡ s = omega arith in
      record {
        bytes = rw b at (digits-below 8 n (w / 2 ^ s));
        count = len;
        again = rw (len, count-back k l, val, sp, whole) (digits_value v ds h);
      }
