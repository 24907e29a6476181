-- A writer, and what it is once a record is appended.
use Rattle.std.specs.Prelude.{Result, Ok, Err}
use Rattle.iscc.specs.Answer.{Answer, accept, refuse}
use Rattle.iscc.specs.Refusals.{Refusal}
use denote.Ref.{at_last}
use Rattle.loans.specs.Writer.{Written, written_after}
use Rattle.loans.specs.PendingLog.{NumberedChange, write_record}
use Rattle.pending_log.specs.declared.writer.LogWriter.{LogWriter}

-- a change with its number, written to the log that a writer holds, at its position
abbrev pub written : LogWriter → NumberedChange → Answer Written
written w n = write_record n w.log.now w.position

-- its answer in the code
abbrev pub done_as : Answer Written → Result (Unit {0}) Refusal
done_as (accept w) = Ok tt
done_as (refuse q) = Err q

-- the same borrow, with the log and the position after it
abbrev pub writer_after : LogWriter → NumberedChange → LogWriter
writer_after w n =
    record {
      log = at_last w.log (written_after w.log.now w.position (written w n)).log;
      position = (written_after w.log.now w.position (written w n)).position;
    }
