-- Replay of a log over any state, and over a register's area: "Records are applied from the left". What a record does is a parameter.
use Rattle.iscc.specs.Refusals.{refusal_number}
use Rattle.std.specs.Prelude.{ℕ, List, [], ◌∷◌}
use Rattle.std.proofs.Math.Option.{Option, none, some}
use Rattle.iscc.specs.Answer.{Answer, accept, refuse, ◌>>◌, ◌otherwise◌}
use Rattle.iscc.specs.Refusals.{Refusal, not_register}
use Rattle.loans.specs.Register.{Register}
use Rattle.loans.specs.Fields.{Field}
use Rattle.loans.specs.Log.{Record, records_from}

-- how a replay ended: the log ran to its end, is torn at an offset, or a record that starts at an offset stopped it
pub data End : Type 0 where
  ended : End
  torn : (offset : ℕ) → End
  stopped : (refusal : Refusal) (offset : ℕ) → End

pub record Replayed (S : Type 0) : Type 0 where
  pub state : S
  pub end : End

abbrev pub end_number : End → ℕ
end_number ended = 0
end_number (torn offset) = 0
end_number (stopped q offset) = (refusal_number q)

abbrev pub end_offset : End → ℕ
end_offset ended = 0
end_offset (torn offset) = offset
end_offset (stopped q offset) = offset

abbrev pub end_of : Option ℕ → End
end_of none = ended
end_of (some offset) = torn offset

module _ {S : Type 0} (apply : Field → S → Answer S) where
  -- one record applied, and then the others; or "A record that stops the replay stays unapplied, and what is behind it is not read.
  -- The records before it stay applied."
  abbrev pub go_on : S → ℕ → Answer S → (S → Replayed S) → Replayed S
  go_on s offset (accept s') more = more s'
  go_on s offset (refuse q) more = record { state = s; end = stopped q offset }

  unfoldable pub replay_all : List Record → Option ℕ → S → Replayed S
  replay_all [] tear s = record { state = s; end = end_of tear }
  replay_all (r ∷ rs) tear s = go_on s r.offset (apply r.field s) (λ s'. replay_all rs tear s')

  abbrev pub replay_from : ℕ → List ℕ → S → Replayed S
  replay_from offset log s = replay_all (records_from offset log).whole (records_from offset log).tear s

module _ {S : Type 0} (r : Register S) (apply : Field → S → Answer S) where
  abbrev pub in_bytes : Replayed S → Replayed (List ℕ)
  in_bytes x = record { state = r.bytes x.state; end = x.end }

  -- "23 comes before anything is read of the log"; the area afterwards, also where a record stops the replay
  unfoldable pub replayed : List ℕ → List ℕ → Answer (Replayed (List ℕ))
  replayed log area = do
    r.valid area otherwise not_register
    accept (in_bytes (replay_from apply 0 log (r.contents area)))

-- the area after a replay: 23 "changes no byte"
abbrev pub area_replayed : List ℕ → Answer (Replayed (List ℕ)) → List ℕ
area_replayed area (accept x) = x.state
area_replayed area (refuse q) = area

-- the number and the offset of a replay, as the specification's table has them
abbrev pub replay_number : Answer (Replayed (List ℕ)) → ℕ
replay_number (accept x) = end_number x.end
replay_number (refuse q) = (refusal_number q)

abbrev pub replay_offset : Answer (Replayed (List ℕ)) → ℕ
replay_offset (accept x) = end_offset x.end
replay_offset (refuse q) = 0
