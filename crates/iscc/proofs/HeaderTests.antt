-- The three words of 7: the reader accepts where a header is not cut, none of its varnibbles starts with 1111, and its pad nibble
-- is zero, and nowhere else.
use Prim.Native.Nat.{ℕ, ◌+◌, ◌/◌, ◌≤◌}
use mathlib.Core.Path.{◌≡◌, refl, sym, ◌∙◌, ap, subst}
use mathlib.Core.Bool as library
use mathlib.Core.Bool.{Bool, true, false, ◌&&◌, and-false, and_assoc}
use mathlib.Core.List.{List, []}
use native.Mathlib.Nat.{zero-add}
use native.Mathlib.Omega.{arith}
use lib.ListN.{length, get_or, drop}
use borrow.Author.Tests.{le-leb, leb-true}
use Rattle.iscc.specs.Refusals.{bad_header}
use Rattle.iscc.specs.Answer.{Answer, accept, ◌>>◌, ◌otherwise◌}
use Rattle.iscc.specs.Lists.{every}
use Rattle.iscc.specs.Varnibble.{Parsed, row_by, read_varnibble}
use Rattle.iscc.specs.Header.{Header, nibbles, read_header}
use Rattle.iscc.specs.RefusalOrder.{varnibble_start, header_whole, prefixes_mean, pad_is_zero, header_stages}
use Rattle.iscc.proofs.Answer.{both-tests, Tested, tests-join}
use Rattle.iscc.proofs.Varnibble.{is_there, means, varnibble_at, varnibble-test}
use Rattle.iscc.proofs.Steps.{By, step-once, done}

module _ (bs : List ℕ) where
  abbrev ns : List ℕ
  ns = nibbles bs

  abbrev start : ℕ → ℕ
  start j = varnibble_start ns j

  abbrev header_at : Parsed Header
  header_at =
      record {
        result =
            record {
              main_type = (varnibble_at ns (start 0)).result;
              subtype = (varnibble_at ns (start 1)).result;
              version = (varnibble_at ns (start 2)).result;
              length_number = (varnibble_at ns (start 3)).result;
            };
        used = (start 4 + 1) / 2;
      }

  one_by_one : Tested
      ((is_there ns (start 0) && means ns (start 0))
      && ((is_there ns (start 1) && means ns (start 1))
      && ((is_there ns (start 2) && means ns (start 2))
      && ((is_there ns (start 3) && means ns (start 3)) && pad_is_zero bs)))) bad_header header_at (read_header bs)
  unfolding read_header varnibble_start pad_is_zero
  one_by_one =
      let p : ℕ = row_by (get_or ns 0 0) in
      let q : ℕ = p + row_by (get_or ns p 0) in
      let r : ℕ = q + row_by (get_or ns q 0) in
      rw (zero-add p)
      (tests-join (read_varnibble ns) _ (rw (zero-add p) at (varnibble-test ns 0))
      (tests-join (read_varnibble (drop p ns)) _ (varnibble-test ns p)
      (tests-join (read_varnibble (drop q ns)) _ (varnibble-test ns q)
      (tests-join (read_varnibble (drop r ns)) _ (varnibble-test ns r) (record { is = refl })))))

  -- where the last is there, those before it are
  there-before : is_there ns (start 3) ≡ true → (is_there ns (start 0) ≡ true) × (is_there ns (start 1) ≡ true) × (is_there ns (start 2) ≡ true)
  unfolding varnibble_start
  there-before e =
      let l : start 4 ≤ length ns = leb-true (start 4) (length ns) e in
      (le-leb (start 1) (length ns) (omega arith), le-leb (start 2) (length ns) (omega arith), le-leb (start 3) (length ns) (omega arith))

  header_is : read_header bs
      ≡ (header_whole bs otherwise bad_header >> (prefixes_mean bs otherwise bad_header >> (pad_is_zero bs otherwise bad_header >> accept header_at)))
  unfolding header_whole prefixes_mean every varnibble_start
  header_is =
      one_by_one.is
      ∙ ap (λ (b : Bool). b otherwise bad_header >> accept header_at)
      (three _ _ _ (is_there ns (start 3)) (means ns (start 0)) _ _ _ (pad_is_zero bs) there-before)
      ∙ both-tests (header_whole bs) (prefixes_mean bs && pad_is_zero bs) bad_header _
      ∙ ap (λ (x : Answer (Parsed Header)). header_whole bs otherwise bad_header >> x) (both-tests (prefixes_mean bs) (pad_is_zero bs) bad_header _)
    where
      three : (a b c d m n o p z : Bool) → (d ≡ true → (a ≡ true) × (b ≡ true) × (c ≡ true))
          → (a && m) && ((b && n) && ((c && o) && ((d && p) && z))) ≡ d && ((m && (n && (o && (p && true)))) && z)
      three a b c false m n o p z f = simp and-false
      three a b c true m n o p z f = let h = f refl in rw (h.0, h.1, h.2) (simp (library.and-true, and_assoc))

pub header-by : (bs : List ℕ) → By (header_stages bs) (read_header bs)
unfolding header_stages
header-by bs =
    subst (By (header_stages bs)) (sym (header_is bs))
    (step-once (header_whole bs) bad_header _ _
    (step-once (prefixes_mean bs) bad_header _ _ (step-once (pad_is_zero bs) bad_header _ [] (done (header_at bs)))))
