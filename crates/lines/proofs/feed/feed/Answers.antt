-- A line is answered, or what is left of the piece is added to the line begun.
use Rattle.std.proofs.Common.{refl}
use Rattle.lines.proofs.Fed.{sofar-none, ended-short, ended-full, ended-begun, next-line}
use Rattle.lines.proofs.feed.feed.Goals as goal

pub returns-then-line-lt-LONGEST_LINE : goal.returns-then-line-lt-LONGEST_LINE
returns-then-line-lt-LONGEST_LINE c =
    let e = ended-short c.args.out.now c.args.piece.now _ _ _ c.count-kept.ensures c.if-line-lt-LONGEST_LINE.true in
    record { answer = e.0; begun = e.1.0; area = e.1.1 }

pub loop-out-init : goal.loop-out-init
loop-out-init c = sofar-none _ _ _ _ _ c.if-line-lt-LONGEST_LINE.false c.count-kept.ensures

pub loop-out-preserved : goal.loop-out-preserved
loop-out-preserved c =
    next-line _ _ _ _ _ _ _ _ _ c.loop-out.invariant _ refl c.loop-out-test.true _ c.line_length-n.ensures.found c.line_length-n.ensures.within c.if-n-rest.false _ _
    c.joined-written.ensures.answer c.joined-written.ensures.area

pub returns-after-loop-out : goal.returns-after-loop-out
returns-after-loop-out c = let e = ended-full _ _ _ _ _ _ _ _ _ c.loop-out.invariant c.loop-out-test.false in record { answer = e.0; begun = e.1.0; area = e.1.1 }

pub returns-then-n-rest : goal.returns-then-n-rest
returns-then-n-rest c =
    let e = ended-begun _ _ _ _ _ _ _ _ _ c.loop-out.invariant _ refl c.loop-out-test.true _ c.line_length-n.ensures.found _ _ c.if-n-rest.true c.add-kept.ensures.count c.add-kept.ensures.area in
    record { answer = e.0; begun = e.1.0; area = e.1.1 }
