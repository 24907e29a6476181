-- `digit` meets its contract: antt computes it for every byte.
use Prim.Native.Nat.{ℕ, ◌+◌, ◌-◌, ◌*◌, ◌/◌, ◌%◌, ◌≤◌, ◌<◌}
use mathlib.Core.Path.{◌≡◌, refl, ◌∙◌}
use mathlib.Core.Bool.{Bool, true, not, ◌&&◌, ◌||◌}
use lib.Dec.{ltb, leb, eqb}
use borrow.Author.Tests.{lt-ltb, leb-true, eqb-true}
use Rattle.iscc.specs.Alphabet.{upper, index_of, digit_in}
use Rattle.iscc.specs.Base32.{base32}
use Rattle.iscc.proofs.Booleans.{both_true}
use Rattle.iscc.proofs.Table.{up_to, at}
use Rattle.base32.proofs.reader.digit.Goals as goal

-- of a byte that has a digit
agrees : ℕ → Bool
agrees c = not (ltb (digit_in base32 c) 32) || (leb (c / 64 * 9) (c % 32 + 8) && eqb (c % 32 + 8 - c / 64 * 9) (digit_in base32 c))

computed : up_to 256 agrees ≡ true
unfolding up_to agrees upper index_of digit_in base32
computed = refl

by_bits : (c : ℕ) → c < 256 → digit_in base32 c < 32 → (c / 64 * 9 ≤ c % 32 + 8) × (c % 32 + 8 - c / 64 * 9 ≡ digit_in base32 c)
unfolding agrees
by_bits c h d =
    let p = both_true (leb (c / 64 * 9) (c % 32 + 8)) (eqb (c % 32 + 8 - c / 64 * 9) (digit_in base32 c)) (rw (lt-ltb (digit_in base32 c) 32 d) at (at 256 agrees computed c h)) in
    (leb-true (c / 64 * 9) (c % 32 + 8) p.0, eqb-true (c % 32 + 8 - c / 64 * 9) (digit_in base32 c) p.1)

pub overflow_sub-c : goal.overflow_sub-c
overflow_sub-c c = (by_bits c.args.c c.ranges.c.fits c.requires).0

pub returns : goal.returns
returns c = let e = c.from.ensures ∙ (by_bits c.args.c c.ranges.c.fits c.requires).1 in (e, rw e c.requires)
