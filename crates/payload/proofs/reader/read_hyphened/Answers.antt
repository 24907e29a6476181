-- What is too long, and the characters that are left.
use Rattle.std.proofs.Common.{rules}
use Rattle.payload.proofs.Payloads.{code-dropped, front-over, hyphened-over, characters}
use Rattle.payload.proofs.reader.read_hyphened.Goals as goal

pub returns-then-front-gt-LONGEST_RUN : goal.returns-then-front-gt-LONGEST_RUN
returns-then-front-gt-LONGEST_RUN c =
    let t = c.args.typed in
    let a = front-over t.text.now t.code.now t.short (code-dropped _ _ t.stands) c.args.out.now _ (record { within = c.requires.within; none = c.requires.plain }) c.if-front-gt-LONGEST_RUN.true in
    record { answer = rw c.with_detail.ensures a.0; area = a.1 }

pub returns-then-count-gt-LONGEST_RUN : goal.returns-then-count-gt-LONGEST_RUN
returns-then-count-gt-LONGEST_RUN c =
    let t = c.args.typed in
    let a = hyphened-over t.text.now t.code.now t.short (code-dropped _ _ t.stands) c.args.out.now _ _ c.without_hyphens-count.ensures c.if-count-gt-LONGEST_RUN.true in
    record { answer = rw c.with_detail-then-count-gt-LONGEST_RUN.ensures a.0; area = a.1 }

pub invariant_of-read_run : goal.invariant_of-read_run
invariant_of-read_run c =
    let t = c.args.typed in
    record { cleaned = characters t.text.now t.code.now t.short (code-dropped _ _ t.stands) _ _ c.without_hyphens-count.ensures (search rules) }
