-- `replies::issued`: its parts one behind another.
use Rattle.std.proofs.Common.{[], ◌++◌, append_assoc, refl, ◌∙◌}
use lib.Seq.{take_all}
use Rattle.iscc.specs.Ascii.{ascii}
use Rattle.answers.specs.Answers.{in_decimal, issued_line}
use Rattle.answers.proofs.Parts.{put_then, put_last, put_on}
use Rattle.answers.proofs.Lengths.{length-issued}
use Rattle.answers.proofs.replies.issued.Goals as goal

pub returns : goal.returns
unfolding issued_line
returns c =
    let lent = ascii "issued " ++ (c.args.text.now ++ (ascii " to " ++ in_decimal c.args.borrower)) in
    simp append_assoc at
    (put_on {r = []} refl
    (put_then lent c.lent-line.ensures
    (put_then (ascii " as record ") c.push.ensures
    (put_last (in_decimal c.args.number) (rw c.from.ensures at c.push_number.ensures)))))
    ∙ take_all 200 (issued_line c.args.text.now c.args.borrower c.args.number) (length-issued c.args.text.now c.requires c.args.borrower c.args.number)
