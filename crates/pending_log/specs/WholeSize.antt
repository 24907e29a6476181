-- The size of the field that bytes begin with, and none where it is not whole.
use Rattle.std.specs.Prelude.{ℕ, cond, List, Option, Some, None}
use Rattle.loans.specs.Fields.{first_size, first_is_whole}

unfoldable pub whole_size : List ℕ → Option ℕ
whole_size bs = cond (first_is_whole bs) (Some (first_size bs)) None
