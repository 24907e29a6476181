-- What the list reader answers.
use Rattle.iscc.specs.Detailed.{with_detail}
use Rattle.std.specs.Prelude.{Ok, Err}
use Rattle.std.specs.Prelude.{ℕ, zero, suc, List, [], ◌∷◌, length, drop}
use Rattle.iscc.specs.Answer.{Answer, accept, refuse}
use Rattle.iscc.specs.Varnibble.{Parsed}
use Rattle.iscc.specs.Item.{Item, read_item}
use Rattle.iscc.specs.declared.refusal.DetailedRefusal.{DetailedRefusal}
use Rattle.std.specs.Prelude.{Result}

-- an item that was read, and those behind it
abbrev pub and_behind : (List ℕ → List Item) → List ℕ → Answer (Parsed Item) → List Item
and_behind f bs (accept g) = g.result ∷ f (drop g.used bs)
and_behind f bs (refuse q) = []

-- the count n is a bound, as in `read_up_to`
unfoldable pub leading_up_to : ℕ → List ℕ → List Item
leading_up_to zero bs = []
leading_up_to (suc n) bs = and_behind (λ cs. leading_up_to n cs) bs (read_item bs)

-- the items before the first that is refused; all of them where none is
unfoldable pub leading_items : List ℕ → List Item
leading_items bs = leading_up_to (suc (length bs)) bs

unfoldable pub refused_index : List ℕ → ℕ
refused_index bs = length (leading_items bs)

abbrev pub Reading : Type 0
Reading = Result (Unit {0}) DetailedRefusal

abbrev pub reading_as : ℕ → Answer (List Item) → Reading
reading_as k (accept is) = Ok tt
reading_as k (refuse q) = Err (with_detail k q)
