-- The answers in the code.
use Rattle.iscc.specs.Refusals.{Refusal, refusal_number}
use Rattle.std.specs.Prelude.{ℕ, List, Result, Ok, Err}
use Rattle.iscc.specs.Answer.{Answer, accept, refuse}
use Rattle.loans.specs.Writer.{Written}
use Rattle.loans.specs.Replay.{End, ended, torn, stopped}
use Rattle.loans.specs.Replay as replays
use Rattle.loans.specs.Map as map
use Rattle.loans.specs.Fields as fields
use Rattle.pending_log.specs.declared.field.Change.{Change}
use Rattle.pending_log.specs.declared.field.Change.TheVariants.{Issue, Return}
use Rattle.pending_log.specs.declared.field.Field.{Field}
use Rattle.pending_log.specs.declared.replay.Replayed.{Replayed}
use Rattle.pending_log.specs.declared.replay.Replayed.TheVariants as ends

-- a field, and the change of the record in it, as the code has them
abbrev pub field_in : Field → fields.Field
field_in f = record { tag = f.tag; body = f.body.now }

abbrev pub change_in : Change → map.Change
change_in (Issue code borrower) = map.issue_code code.now borrower
change_in (Return code) = map.return_code code.now

-- the answer of an append: the position behind the record; with a refusal the caller's stays
abbrev pub appended_as : Answer Written → Result ℕ Refusal
appended_as (accept w) = Ok w.position
appended_as (refuse q) = Err q

abbrev pub end_as : End → Replayed
end_as ended = ends.Ended
end_as (torn offset) = ends.Torn offset
end_as (stopped q offset) = ends.Stopped q offset

-- the answer of a replay
abbrev pub replayed_as : Answer (replays.Replayed (List ℕ)) → Replayed
replayed_as (accept x) = end_as x.end
replayed_as (refuse q) = ends.Refused q

-- its number and offset by the specification
abbrev pub replayed_number : Replayed → ℕ
replayed_number ends.Ended = 0
replayed_number (ends.Torn offset) = 0
replayed_number (ends.Stopped q offset) = (refusal_number q)
replayed_number (ends.Refused q) = (refusal_number q)

abbrev pub replayed_offset : Replayed → ℕ
replayed_offset ends.Ended = 0
replayed_offset (ends.Torn offset) = offset
replayed_offset (ends.Stopped q offset) = offset
replayed_offset (ends.Refused q) = 0
