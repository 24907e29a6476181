-- What a start finds: over a log that ran to its end, over the same log with one more record or a part of it, and over a snapshot.
use Prim.Native.Nat.{ℕ, ◌+◌, ◌≤◌, ◌<◌}
use mathlib.Core.Path.{◌≡◌, refl, sym, ◌∙◌, ap, subst}
use mathlib.Core.Logic.{◌⊎◌, inl, inr}
use mathlib.Core.Bool.{Bool, true, false}
use mathlib.Core.Option.{none}
use mathlib.Core.List.{List, [], ◌∷◌, ◌++◌, append-nil}
use native.Mathlib.Omega.{arith}
use lib.ListN.{length, take}
use lib.Seq.{take_all, take-append_seam}
use lib.Dec.{leb}
use borrow.Author.Tests.{leb-true, leb-false}
use Rattle.iscc.specs.Answer.{accept}
use Rattle.iscc.specs.Refusals.{not_register}
use Rattle.iscc.proofs.Answer.{passed, accept-inj}
use Rattle.iscc.proofs.Digits.{below-append}
use Rattle.loans.specs.Numbered.{Contents}
use Rattle.loans.specs.Numbered as numbered
use Rattle.loans.specs.Calls.{Call}
use Rattle.loans.specs.Register.{call_area}
use Rattle.loans.specs.Contents.{is_register, contents_of, bytes_of, register, empty_register}
use Rattle.loans.specs.Good.{GoodContents, GoodCall}
use Rattle.loans.specs.Fields.{Field, field_bytes, first_size, first_is_whole}
use Rattle.loans.specs.Log.{Record, Records, records_from}
use Rattle.loans.specs.Replay.{End, ended, torn, Replayed, replay_all, replay_from, replayed}
use Rattle.loans.specs.PendingLog.{NumberedChange, record_of, number_in, apply_record, replay_log}
use Rattle.loans.specs.Operations.{records_made, with_last}
use Rattle.loans.proofs.Contents.{register-sound, no-loans}
use Rattle.loans.proofs.Fields.{size_of, whole-cut, nil-torn, records-torn}
use Rattle.loans.proofs.Tears.{records-append, records-one}
use Rattle.loans.proofs.Replay.{replay-tear, ended-only, replay-append, replay-one, replay-end, replay-torn}
use Rattle.loans.proofs.PendingLog.{GoodNumbered, record-short, number-back, replay-good}
use Rattle.loans.proofs.LiveRun.{made-good, made-applies}
use Rattle.loans.proofs.Made.{nothing, change, call-made}
use Rattle.loans.proofs.NumberPromises.{record-numbers}
use Rattle.loans.proofs.Promotion.{empty-valid, empty_holds}
use Rattle.recovery.specs.Pieces.{last_number, number_reached}
use Rattle.recovery.specs.Recovery.{Finds, Found}
use Rattle.recovery.proofs.Bytes.{zeros-below, register-below, record-below}

-- ---- the register that a start finds

-- it is good, and the replay of the log over the file's contents makes its contents
pub record Runs (log file area : List ℕ) : Type 0 where
  pub valid : is_register file ≡ true
  pub good : GoodContents (contents_of area)
  pub bytes : area ≡ bytes_of (contents_of area)
  pub runs : replay_from apply_record 0 log (contents_of file) ≡ record { state = contents_of area; end = ended }

pub runs_of : (log file area : List ℕ) → Finds log file area → Runs log file area
unfolding replayed
runs_of log file area f =
    let x : Replayed Contents = replay_from apply_record 0 log (contents_of file) in
    let p = passed (is_register file) not_register _ f.replayed in
    let g : GoodContents x.state = replay-good log (contents_of file) f.log_bytes (register-sound.good file f.file_bytes p.0) in
    let b : bytes_of x.state ≡ area = ap (λ (y : Replayed (List ℕ)). y.state) (accept-inj p.1) in
    let c : x.state ≡ contents_of area = sym (register-sound.back x.state g) ∙ ap contents_of b in
    let e : x.end ≡ ended = ap (λ (y : Replayed (List ℕ)). y.end) (accept-inj p.1) in
    record {
      valid = p.0;
      good = subst GoodContents c g;
      bytes = sym b ∙ ap bytes_of c;
      runs = λ i. record { state = c i; end = e i };
    }

ran : (log file : List ℕ) (s : Contents) (end : End) → is_register file ≡ true
    → replay_from apply_record 0 log (contents_of file) ≡ record { state = s; end = end }
    → replay_log log file ≡ accept (record { state = bytes_of s; end = end })
unfolding replayed
ran log file s end v e = rw (v, e)

pub found-whole : (log file area : List ℕ) → Finds log file area → Found log file area
found-whole log file area f = record { end = ended; replayed = f.replayed; goes_on = inl refl; finds = f }

pub finds-empty : Finds [] empty_register empty_register
unfolding number_reached last_number
finds-empty =
    record {
      log_bytes = tt;
      file_bytes = zeros-below 12308;
      replayed = ran [] empty_register numbered.nothing ended empty-valid
          (ap (replay_from apply_record 0 []) empty_holds ∙ replay-end apply_record 0 numbered.nothing)
          ∙ ap (λ (a : List ℕ). accept (record { state = a; end = ended })) no-loans;
      reached = rw (records-torn 0 [] nil-torn) (sym (ap (λ (s : Contents). s.last) empty_holds));
    }

-- "a snapshot": the register that is found is as good a file as the one that it was found from
pub finds-itself : (log file area : List ℕ) → Finds log file area → Finds log area area
finds-itself log file area f =
    let r : Runs log file area = runs_of log file area f in
    record {
      log_bytes = f.log_bytes;
      file_bytes = rw r.bytes (register-below (contents_of area) r.good);
      replayed = record-numbers.second log file area f.log_bytes f.file_bytes f.replayed;
      reached = f.reached;
    }

-- ---- one more record

-- no whole record stands at the end of the log: nothing, or a torn one
pub found-torn : (log file area rest : List ℕ) → Finds log file area → first_is_whole rest ≡ false → Found (log ++ rest) file area
found-torn log file area [] f w = rw append-nil (found-whole log file area f)
found-torn log file area (b ∷ bs) f w =
    let r : Runs log file area = runs_of log file area f in
    record {
      end = torn (length log);
      replayed = ran (log ++ b ∷ bs) file (contents_of area) (torn (length log)) r.valid
          (replay-append apply_record log (b ∷ bs) (contents_of file) (contents_of area) r.runs
          ∙ replay-torn apply_record (length log) b bs (contents_of area) w)
          ∙ ap (λ (a : List ℕ). accept (record { state = a; end = torn (length log) })) (sym r.bytes);
      goes_on = inr (length log, refl);
      finds = rw (take-append_seam log (b ∷ bs)) f;
    }

-- a part of a record is torn, or is the whole of it
abbrev TornOrWhole : List ℕ → List ℕ → Type 0
TornOrWhole part bytes = (first_is_whole part ≡ false) ⊎ (part ≡ bytes)

part-torn : (f : Field) (k : ℕ) → length f.body < 65536 → TornOrWhole (take k (field_bytes f)) (field_bytes f)
part-torn f k h = go (leb (length (field_bytes f)) k) refl
  where
    size : first_size (field_bytes f) ≡ length (field_bytes f)
    size = rw append-nil at (size_of f [] h)

    go : (b : Bool) → leb (length (field_bytes f)) k ≡ b → TornOrWhole (take k (field_bytes f)) (field_bytes f)
    go true w = inr (take_all k (field_bytes f) (leb-true (length (field_bytes f)) k w))
    go false w =
        let h : k ≤ length (field_bytes f) = omega (arith, leb-false (length (field_bytes f)) k w) in
        inl (whole-cut (field_bytes f) k h ∙ ap (λ (n : ℕ). leb n k) size ∙ w)

pub found_part : (log file area : List ℕ) (n : NumberedChange) (k : ℕ) → GoodNumbered n → Finds log file area
    → Found (log ++ take k (field_bytes (record_of n))) file area ⊎ (take k (field_bytes (record_of n)) ≡ field_bytes (record_of n))
found_part log file area n k g f =
    elim (part-torn (record_of n) k (record-short n g)) [ inl w ↦ inl (found-torn log file area _ f w) | inr e ↦ inr e ]

-- the number of the last record
last-is : (n : ℕ) (rs : List Record) (r : Record) → last_number n (rs ++ (r ∷ [])) ≡ number_in r.field
unfolding last_number
last-is n [] r = refl
last-is n (s ∷ rs) r = last-is (number_in s.field) rs r

no-tear : (log : List ℕ) (s : Contents) → (replay_from apply_record 0 log s).end ≡ ended → (records_from 0 log).tear ≡ none
no-tear log s e =
    let rs : List Record = (records_from 0 log).whole in
    (ended-only apply_record (records_from 0 log).tear (replay_all apply_record rs none s).end
    (sym (ap (λ (x : Replayed Contents). x.end) (replay-tear apply_record rs (records_from 0 log).tear s)) ∙ e)).0

reached-more : (log : List ℕ) (n : NumberedChange) → GoodNumbered n → (records_from 0 log).tear ≡ none
    → number_reached 0 (log ++ field_bytes (record_of n)) ≡ n.number
unfolding number_reached
reached-more log n g t =
    ap (λ (x : Records). last_number 0 x.whole) (records-append 0 log (field_bytes (record_of n)) t)
    ∙ rw (records-one (0 + length log) (record_of n) (record-short n g)) (last-is 0 (records_from 0 log).whole _ ∙ number-back n g)

-- ---- a call

-- what a call writes behind the log: nothing, and the register is as it was; or the record of its change
pub data Served (k : Call) (area : List ℕ) : Type 0 where
  unchanged : records_made (k ∷ []) area ≡ [] → (call_area register k area).state ≡ area → Served k area
  changed : (n : NumberedChange) → GoodNumbered n → records_made (k ∷ []) area ≡ n ∷ []
      → ((log file : List ℕ) → Finds log file area → Finds (log ++ field_bytes (record_of n)) file (call_area register k area).state)
      → Served k area

finds-more : (log file area area' : List ℕ) (n : NumberedChange) (s' : Contents) → GoodNumbered n → n.number ≡ (contents_of area').last
    → area' ≡ bytes_of s' → apply_record (record_of n) (contents_of area) ≡ accept s'
    → Finds log file area → Finds (log ++ field_bytes (record_of n)) file area'
finds-more log file area area' n s' g t a p f =
    let r : Runs log file area = runs_of log file area f in
    record {
      log_bytes = below-append 256 log (field_bytes (record_of n)) f.log_bytes (record-below n g);
      file_bytes = f.file_bytes;
      replayed = ran (log ++ field_bytes (record_of n)) file s' ended r.valid
          (replay-append apply_record log (field_bytes (record_of n)) (contents_of file) (contents_of area) r.runs
          ∙ replay-one apply_record (length log) (record_of n) (contents_of area) (record-short n g) ∙ rw p)
          ∙ ap (λ (x : List ℕ). accept (record { state = x; end = ended })) (sym a);
      reached = reached-more log n g (no-tear log (contents_of file) (ap (λ (x : Replayed Contents). x.end) r.runs)) ∙ t;
    }

pub served : (k : Call) (log file area : List ℕ) → GoodCall k → Finds log file area → Served k area
served k log file area g f =
    let s : Contents = contents_of area in
    let after : List ℕ = (call_area register k area).state in
    let r : Runs log file area = runs_of log file area f in
    elim (call-made register GoodContents register-sound area s r.bytes r.good k g) [
      | nothing c a ↦ unchanged (rw c) (a ∙ sym r.bytes)
      | change ch s' gc p c a ↦
          let gn : GoodNumbered (with_last after ch) = made-good ch s s' after gc r.good p a in
          changed (with_last after ch) gn (rw c)
          (λ log file. finds-more log file area after (with_last after ch) s' gn refl a (made-applies ch s s' after gc r.good p a))
    ]
