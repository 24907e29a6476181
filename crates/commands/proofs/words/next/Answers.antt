-- `words::next`: the blanks, then the bytes up to the next one.
use Rattle.std.proofs.Common.{◌≡◌, ◌∙◌, refl, ap, rules, tests, drop}
use Rattle.std.proofs.lemmas.Iterator.{YieldsList-from_slice}
use Rattle.std.proofs.lemmas.Iterator.Search.{position_from_yields_List}
use Rattle.iscc.specs.Lists.{first_not}
use Rattle.iscc.specs.Doors.{is_blank}
use Rattle.commands.specs.Commands.{not_blank}
use Rattle.commands.specs.Reading.{behind_word}
use Rattle.commands.proofs.WordOffsets.{unless, first-failing, word-by, behind-by}
use Rattle.commands.proofs.words.next.Goals as goal

-- where the word starts and how long it is
found : (c : goal.After-split_at-2) → (c.unwrap_or-start.result ≡ first_not is_blank c.args.text.now) × (c.unwrap_or-end.result ≡ first_not not_blank (drop c.unwrap_or-start.result c.args.text.now))
found c =
    let p = position_from_yields_List not_blank _ _ c.position.result c.position.ensures.ran (YieldsList-from_slice _ c.iter.ensures.rest) (λ x b q k. search (rules, tests)) in
    let q = position_from_yields_List is_blank _ _ c.position-2.result c.position-2.ensures.ran (YieldsList-from_slice _ c.iter-2.ensures.rest) (λ x b q k. search (rules, tests)) in (
      c.unwrap_or-start.ensures ∙ first-failing is_blank not_blank (λ b. refl) c.args.text.now _ p,
      c.unwrap_or-end.ensures ∙ first-failing not_blank is_blank unless c.split_at.result.1.now _ q ∙ ap (first_not not_blank) c.split_at.ensures.back,
    )

pub returns-clause-word : goal.returns-clause-word
returns-clause-word c =
    let f = found c in
    c.split_at-2.ensures.front ∙ rw c.split_at.ensures.back (word-by c.args.text.now 0 _ _ f.0 f.1)

pub returns-clause-behind : goal.returns-clause-behind
unfolding behind_word
returns-clause-behind c =
    let f = found c in
    c.split_at-2.ensures.back ∙ rw c.split_at.ensures.back (behind-by c.args.text.now 0 _ _ f.0 f.1)
