use Rattle.payload.proofs.Payloads.{bad-there, bad-nowhere}
use Rattle.payload.proofs.reader.bad_offset.Goals as goal

pub returns-then-bad-run : goal.returns-then-bad-run
returns-then-bad-run c = bad-there _ _ _ c.args.run.cleaned c.first_bad-bad.ensures c.if-bad-run.true _ c.offset.ensures

pub returns : goal.returns
returns c = bad-nowhere _ _ _ c.args.run.cleaned c.first_bad-bad.ensures c.if-bad-run.false
