-- The next number, where one is left.
use Rattle.std.specs.Prelude.{ℕ, suc, cond, ltb, Option, Some, None}

unfoldable pub next_number : ℕ → Option ℕ
next_number last = cond (ltb last 4294967295) (Some (suc last)) None
