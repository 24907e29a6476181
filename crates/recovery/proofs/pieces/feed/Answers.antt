-- `pieces::feed` meets its contract.
use Rattle.pending_log.specs.declared.replay.Replayed.TheVariants as ends
use Rattle.recovery.proofs.Ends.{fed-told}
use Rattle.recovery.proofs.pieces.feed.Goals as goal

pub returns-in-Ended-clause-answer : goal.returns-in-Ended-clause-answer
returns-in-Ended-clause-answer c = fed-told c.args.bytes.now c.args.area.now _ ends.Ended c.replay.ensures.answer c.in-Ended.is

pub returns-in-Torn-clause-answer : goal.returns-in-Torn-clause-answer
returns-in-Torn-clause-answer c = fed-told c.args.bytes.now c.args.area.now _ (ends.Torn _) c.replay.ensures.answer c.in-Torn.is

pub returns-in-Stopped-clause-answer : goal.returns-in-Stopped-clause-answer
returns-in-Stopped-clause-answer c = fed-told c.args.bytes.now c.args.area.now _ (ends.Stopped _ _) c.replay.ensures.answer c.in-Stopped.is

pub returns-in-Refused-clause-answer : goal.returns-in-Refused-clause-answer
returns-in-Refused-clause-answer c = fed-told c.args.bytes.now c.args.area.now _ (ends.Refused _) c.replay.ensures.answer c.in-Refused.is
