-- `command::only_word`: by its two tests.
use Rattle.std.proofs.Common.{◌≡◌, refl, ℕ, List, Bool, true, false, cond, Bor, Some, None, length}
use Rattle.std.specs.Bool.{then_some, ◌==◌}
use Rattle.commands.specs.Representation.{word_in}
use Rattle.commands.proofs.WordOffsets.{empty-is}
use Rattle.commands.proofs.command.only_word.Goals.{then-not-is_empty, else-not-is_empty}
use Rattle.commands.proofs.command.only_word.Goals as goal

shown : (b : Bool) (w : Bor (List ℕ)) → word_in (then_some b w) ≡ cond b (Some w.now) None
shown true w = refl
shown false w = refl

pub returns : goal.returns
returns c =
    rw (← c.next.ensures.word, ← c.next.ensures.behind, ← c.next-2.ensures.word, ← empty-is c.next.result.0.now, ← empty-is c.next-2.result.0.now, ← c.is_empty.ensures, c.then_some.ensures)
    (elim c.if-not-is_empty.branch [
      | then-not-is_empty w ↦ rw (w.then_some-is, w.is_empty-then-not-is_empty.ensures, w.if-not-is_empty.true) (shown (length c.next-2.result.0.now == 0) c.next.result.0)
      | else-not-is_empty w ↦ rw (w.then_some-is, w.if-not-is_empty.false) refl
    ])
