-- `first_bad` meets its contract: what `position` gives is the first character outside the alphabet.
use Rattle.std.proofs.Common.{rules, tests, ◌≡◌, length, Some, None}
use Rattle.std.proofs.lemmas.Iterator.{YieldsList-from_slice}
use Rattle.std.proofs.lemmas.Iterator.Search.{position_from_yields_List}
use Rattle.std.specs.List.{position_or_len}
use mathlib.Core.Path.{sym, ◌∙◌}
use mathlib.Core.Bool.{cond}
use lib.Dec.{leb, ltb}
use Rattle.iscc.specs.Alphabet.{digit_in}
use Rattle.iscc.specs.Base32.{base32}
use Rattle.iscc.proofs.Digits.{below_of}
use Rattle.iscc.proofs.FirstNot.{none-bad}
use Rattle.base32.proofs.Characters.{position-is}
use Rattle.base32.proofs.reader.first_bad.Goals as goal

pub returns-then-all_digits : goal.returns-then-all_digits
unfolding base32
returns-then-all_digits c = none-bad base32 _ (below_of 32 _ (sym c.all_digits.ensures ∙ c.if-all_digits.true))

pub returns : goal.returns
returns c =
    let p : c.position.result ≡ cond (ltb (position_or_len (λ d. leb 32 (digit_in base32 d)) c.args.text.now) (length c.args.text.now)) (Some (position_or_len (λ d. leb 32 (digit_in base32 d)) c.args.text.now)) None =
    position_from_yields_List (λ d. leb 32 (digit_in base32 d)) _ _ c.position.result c.position.ensures.ran (YieldsList-from_slice c.args.text.now cc) (λ x b q k. search (rules, tests)) in
    c.unwrap_or.ensures ∙ position-is c.args.text.now c.position.result p
