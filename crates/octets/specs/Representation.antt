-- The order of two byte strings in the code.
use Rattle.std.specs.Prelude.{ℕ, cond, ◌&&◌, List, length, take, leb}
use Rattle.iscc.specs.Lists.{same_bytes}
use Rattle.octets.specs.Order.{before}
use Rattle.std.specs.declared.cmp.Ordering.{Ordering}
use Rattle.std.specs.declared.cmp.Ordering.TheVariants.{Less, Equal, Greater}

unfoldable pub order_as : List ℕ → List ℕ → Ordering
order_as a b = cond (same_bytes a b) Equal (cond (before a b) Less Greater)

-- by the first four bytes, where both have as many
unfoldable pub front_as : List ℕ → List ℕ → Ordering
front_as a b = cond (leb 4 (length a) && leb 4 (length b)) (order_as (take 4 a) (take 4 b)) Equal
