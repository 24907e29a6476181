-- "Wherever a log is torn off": the whole records before the cut, and where the torn one starts.
use Rattle.std.specs.Prelude.{ℕ, ◌+◌, ◌≡◌, false, cond, List, [], ◌∷◌, ◌++◌, length, take, drop, eqb, leb}
use Rattle.std.proofs.Math.Option.{Option, none, some}
use Rattle.iscc.specs.Answer.{Answer, accept}
use Rattle.iscc.specs.Refusals.{Refusal}
use Rattle.loans.specs.Register.{Register}
use Rattle.loans.specs.Fields.{Field, first_size, first_is_whole}
use Rattle.loans.specs.Log.{Record, records_from}
use Rattle.loans.specs.Replay.{End, ended, torn, stopped, Replayed, end_of, replay_all, replay_from, replayed}

abbrev pub end_of_record : Record → ℕ
end_of_record r = r.offset + (3 + length r.field.body)

-- the records that end by byte k
unfoldable pub ending_by : ℕ → List Record → List Record
ending_by k [] = []
ending_by k (r ∷ rs) = cond (leb (end_of_record r) k) (r ∷ ending_by k rs) []

-- where the next one starts
unfoldable pub end_of_all : ℕ → List Record → ℕ
end_of_all offset [] = offset
end_of_all offset (r ∷ rs) = end_of_all (end_of_record r) rs

abbrev pub whole_before : ℕ → List ℕ → List Record
whole_before k log = ending_by k (records_from 0 log).whole

-- a tear where the next one starts, unless the cut is there
abbrev pub tear_behind : ℕ → ℕ → Option ℕ
tear_behind offset cut = cond (eqb cut offset) none (some offset)

-- a tear is told "unless a record before it stops the replay"
abbrev pub at_tear : Option ℕ → End → End
at_tear tear ended = end_of tear
at_tear tear (torn offset) = torn offset
at_tear tear (stopped q offset) = stopped q offset

-- "the register afterwards is the one that the whole records before the tear give, and the offset where the torn record starts is
-- told, unless a record before it stops the replay"
pub record TornOff {S : Type 0} (r : Register S) (apply : Field → S → Answer S) (log area : List ℕ) (k : ℕ) : Type 0 where
  pub result : Replayed (List ℕ)
  pub accepted : replayed r apply (take k log) area ≡ accept result
  pub state : result.state ≡ r.bytes (replay_all apply (whole_before k log) none (r.contents area)).state
  pub end : result.end ≡ at_tear (tear_behind (end_of_all 0 (whole_before k log)) k) (replay_all apply (whole_before k log) none (r.contents area)).end

pub record Tears : Type 0 where
  -- "A cut between records is no tear.": behind any count of whole records
  pub between : (log : List ℕ) (n : ℕ) → let whole = (records_from 0 log).whole in
      records_from 0 (take (end_of_all 0 (take n whole)) log) ≡ record { whole = take n whole; tear = none }
  -- "A last record that is not whole is a tear, whatever its tag."
  pub last_torn : (log : List ℕ) (tag : ℕ) (rest : List ℕ) → (records_from 0 log).tear ≡ none → first_is_whole (tag ∷ rest) ≡ false
      → records_from 0 (log ++ tag ∷ rest) ≡ record { whole = (records_from 0 log).whole; tear = some (length log) }

-- "what is behind it is not read": with any other bytes there the replay is the same
abbrev pub RestUnread : {S : Type 0} → (Field → S → Answer S) → Type 0
RestUnread {S} apply = (log rest : List ℕ) (s : S) (q : Refusal) (offset : ℕ) → (replay_from apply 0 log s).end ≡ stopped q offset
    → replay_from apply 0 (take (offset + first_size (drop offset log)) log ++ rest) s ≡ replay_from apply 0 log s

-- what was applied, by the answer: "The log up to the offset that is told, or all of it where it ran to its end"
abbrev pub applied_log : List ℕ → End → List ℕ
applied_log log ended = log
applied_log log (torn offset) = take offset log
applied_log log (stopped q offset) = take offset log

-- it "replayed by itself runs to its end and gives the same register"
abbrev pub Settled : {S : Type 0} → (Field → S → Answer S) → Type 0
Settled {S} apply = (log : List ℕ) (s : S) → let x = replay_from apply 0 log s in
    replay_from apply 0 (applied_log log x.end) s ≡ record { state = x.state; end = ended }
