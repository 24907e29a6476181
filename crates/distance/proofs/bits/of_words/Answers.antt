-- `of_words` meets its contract: the ones of the exclusive or of both numbers.
use Rattle.std.proofs.Common.{rules, ◌≡◌, List, ℕ, length}
use lib.Bits.{bit_xor}
use lib.Count.{ones}
use Rattle.std.specs.Int.{from_le_bytes, w32}
use Rattle.iscc.specs.Digits.{Below}
use Rattle.iscc.specs.Distance.{differing_bits}
use Rattle.iscc.proofs.Bits.{ones-reverse, ones-most}
use Rattle.iscc.proofs.Digits.{below_all}
use Rattle.distance.proofs.LowFirst.{by_low_first}
use Rattle.distance.proofs.bits.of_words.Goals as goal

counted : (x y : List ℕ) (m n : ℕ) → length x ≡ 4 → length y ≡ 4 → Below 256 x → Below 256 y → m ≡ from_le_bytes w32 x → n ≡ from_le_bytes w32 y
    → ones (bit_xor m n) ≡ differing_bits x y
counted x y m n l k hx hy e f = rw (e, f, by_low_first x l, by_low_first y k) (ones-reverse x y (search rules) hx hy)

pub returns : goal.returns
returns c =
    (counted c.args.x c.args.y _ _ (search rules) (search rules) (below_all 256 c.args.x (λ k _. search rules)) (below_all 256 c.args.y (λ k _. search rules)) c.from_le_bytes.ensures c.from_le_bytes-2.ensures, ones-most 32 _ _ c.from_le_bytes.type_inv c.from_le_bytes-2.type_inv)
