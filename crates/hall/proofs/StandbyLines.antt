-- The standby's lines, as the code makes them.
use Prim.Native.Nat.{ℕ}
use mathlib.Core.Path.{◌≡◌, sym, ◌∙◌}
use mathlib.Core.Bool.{Bool, true, false}
use mathlib.Core.List.{List}
use Rattle.iscc.specs.Answer.{Answer}
use Rattle.iscc.specs.Refusals.{not_register}
use Rattle.loans.specs.Replay.{End}
use Rattle.loans.specs.Contents.{is_register, contents_of}
use Rattle.answers.specs.Answers.{refused_line}
use Rattle.hall.specs.Standby.{line_by, replay_line}

module _ (x : Answer End) (area : List ℕ) (b : Bool) (tested : b ≡ is_register area) where
  pub replay-yes : b ≡ true → (r : List ℕ) → r ≡ line_by x (contents_of area) → r ≡ replay_line x area
  unfolding replay_line
  replay-yes y r e = let v : is_register area ≡ true = sym tested ∙ y in rw v e

  pub replay-no : b ≡ false → refused_line not_register ≡ replay_line x area
  unfolding replay_line
  replay-no f = let v : is_register area ≡ false = sym tested ∙ f in rw v
