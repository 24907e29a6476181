-- `sheet::counts`: the eight counts one behind another.
use Rattle.std.proofs.Common.{◌++◌, ◌∙◌, arith}
use Rattle.iscc.specs.Ascii.{ascii}
use Rattle.loans.specs.Counts as tallies
use Rattle.loans.specs.Contents.{contents_of}
use Rattle.answers.specs.Answers.{in_decimal, counts_line}
use Rattle.answers.proofs.Parts.{put_both, put_last, put_all}
use Rattle.answers.proofs.Lengths.{length-counts}
use Rattle.hall.proofs.SheetLines.{numbers_in, counts-told}
use Rattle.hall.proofs.sheet.counts.Goals as goal

pub returns : goal.returns
unfolding counts_line
returns c =
    let n = c.counts-n.result in
    put_all c.new-line.ensures
    (put_both (in_decimal n.out) (ascii " out: ") c.push_count.ensures
    (put_both (in_decimal n.meta) (ascii " META, ") c.push_count-2.ensures
    (put_both (in_decimal n.semantic) (ascii " SEMANTIC, ") c.push_count-3.ensures
    (put_both (in_decimal n.content) (ascii " CONTENT, ") c.push_count-4.ensures
    (put_both (in_decimal n.«data») (ascii " DATA, ") c.push_count-5.ensures
    (put_both (in_decimal n.instance) (ascii " INSTANCE, ") c.push_count-6.ensures
    (put_both (in_decimal n.iscc) (ascii " ISCC, ") c.push_count-7.ensures
    (put_last (in_decimal n.id ++ ascii " ID") c.push_count-8.ensures))))))))
    (length-counts (numbers_in n) (omega arith, (omega arith, (omega arith, (omega arith, (omega arith, (omega arith, (omega arith, (omega arith, tt)))))))))
    ∙ counts-told n (tallies.counts (contents_of c.args.register.area.now).loans) c.counts-n.ensures
