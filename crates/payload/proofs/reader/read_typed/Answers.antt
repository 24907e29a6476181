-- A code without hyphens is its run.
use Rattle.payload.proofs.Payloads.{plain-cleaned}
use Rattle.payload.proofs.reader.read_typed.Goals as goal

pub invariant_of-read_run : goal.invariant_of-read_run
invariant_of-read_run c =
    record { cleaned = plain-cleaned c.args.typed.text.now c.args.typed.code.now _ c.args.typed.stands c.plain_front-front.ensures.plain c.if-front-typed.true }
