-- The tests of the log's writer, and of replay at each record, in their order.
use Rattle.iscc.specs.Refusals.{refusal_number}
use Rattle.std.specs.Prelude.{ℕ, zero, suc, ◌+◌, ◌<◌, ◌≡◌, Bool, true, not, ◌&&◌, ◌||◌, List, [], ◌∷◌, length, take, eqb, leb, ltb}
use Rattle.std.proofs.Math.Option.{none}
use Rattle.iscc.specs.Refusals.{Refusal, area_too_short, already_out, all_out, not_out, not_record, number_gap}
use Rattle.iscc.specs.Answer.{Answer, accept, refuse}
use Rattle.iscc.specs.Exactly.{Rule, HoldAt, BrokenAt, once, RuleOn, rule_on, together, after}
use Rattle.loans.specs.Loan.{Loan, one_code, is_out}
use Rattle.loans.specs.Map.{Change, issue_code, return_code}
use Rattle.loans.specs.Fields.{Field, field_bytes}
use Rattle.loans.specs.Log.{Record}
use Rattle.loans.specs.Replay.{End, ended, torn, stopped, replay_all}
use Rattle.loans.specs.Records.{code_of}
use Rattle.loans.specs.Numbered.{Contents}
use Rattle.loans.specs.PendingLog.{NumberedChange, record_of, number_in, is_numbered, numbered_of}

-- ---- the writer: 24, then 15

unfoldable pub write_stages : NumberedChange → List ℕ → ℕ → List (List Rule)
write_stages n log position =
    once not_record (one_code (code_of n.change) && not (eqb n.number 0))
    ∷ once area_too_short (leb (position + length (field_bytes (record_of n))) (length log))
    ∷ []

-- ---- replay: the tests at record j, all of one record before the next

-- a record, and the state that it meets
pub record Meeting (S : Type 0) : Type 0 where
  pub field : Field
  pub state : S

-- 20 and 21 concern an issue alone, 22 a return
abbrev pub not_yet_out : Change → List Loan → Bool
not_yet_out (issue_code c b) ls = not (is_out c ls)
not_yet_out (return_code c) ls = true

abbrev pub has_room : Change → List Loan → Bool
has_room (issue_code c b) ls = ltb (length ls) 256
has_room (return_code c) ls = true

abbrev pub is_there : Change → List Loan → Bool
is_there (issue_code c b) ls = true
is_there (return_code c) ls = is_out c ls

-- a record whose number is not above the last breaks none of the rules behind 24
abbrev pub was_applied : Meeting Contents → Bool
was_applied m = leb (number_in m.field) m.state.last

abbrev pub unless : (Change → List Loan → Bool) → Meeting Contents → Bool
unless p m = was_applied m || p (numbered_of m.field).change m.state.loans

-- "24, then 25, then 20 and 21 for an issue, 22 for a return"
abbrev pub record_rules : List (RuleOn (Meeting Contents))
record_rules =
    rule_on not_record (λ m. is_numbered m.field)
    ∷ rule_on number_gap (λ m. was_applied m || eqb (number_in m.field) (suc m.state.last))
    ∷ rule_on already_out (unless not_yet_out)
    ∷ rule_on all_out (unless has_room)
    ∷ rule_on not_out (unless is_there)
    ∷ []

module _ {S : Type 0} (apply : Field → S → Answer S) where
  -- a test of record j and the state that the records before it give; it holds where that record is not reached
  unfoldable pub record_test : List Record → S → (Meeting S → Bool) → ℕ → Bool
  record_test [] s p j = true
  record_test (r ∷ rs) s p zero = p (record { field = r.field; state = s })
  record_test (r ∷ rs) s p (suc j) = after (apply r.field s) (λ s'. record_test rs s' p j)

  abbrev pub record_stage : List (RuleOn (Meeting S)) → List Record → S → List Rule
  record_stage rules rs s = together (record_test rs s) rules

-- where record j starts
abbrev pub offset_at : List Record → ℕ → ℕ
offset_at [] j = 0
offset_at (r ∷ rs) zero = r.offset
offset_at (r ∷ rs) (suc j) = offset_at rs j

-- a replay's number: a tear has none
abbrev pub stop_of : End → Answer (Unit {0})
stop_of ended = accept tt
stop_of (torn offset) = accept tt
stop_of (stopped q offset) = refuse q

-- a stop: all rules hold at the records before it, and those before the broken one hold there; the record's offset is told; "The
-- records before it stay applied."
pub record StopTold {S : Type 0} (apply : Field → S → Answer S) (rules : List (RuleOn (Meeting S))) (rs : List Record) (s s' : S) (q : Refusal) (offset : ℕ) : Type 0 where
  pub index : ℕ
  pub earlier : (j : ℕ) → j < index → HoldAt (record_stage apply rules rs s) j
  pub broken : BrokenAt (record_stage apply rules rs s) (refusal_number q) index
  pub told : offset ≡ offset_at rs index
  pub stay : replay_all apply (take index rs) none s ≡ record { state = s'; end = ended }
