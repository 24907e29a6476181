-- A log of the changes that calls made gives from the register before them the register after them.
use Prim.Native.Nat.{ℕ, suc}
use mathlib.Core.Path.{◌≡◌, sym, ◌∙◌, ap}
use mathlib.Core.Bool.{true}
use mathlib.Core.List.{List, [], ◌∷◌}
use native.Mathlib.Omega.{arith}
use lib.ListN.{take}
use Rattle.iscc.specs.Answer.{accept}
use Rattle.iscc.specs.Digits.{Below}
use Rattle.iscc.proofs.Answer.{answered, accept-inj}
use Rattle.loans.specs.Map.{Change}
use Rattle.loans.specs.Calls.{Call, state_after}
use Rattle.loans.specs.Register.{changed_area, asked_area, call_area}
use Rattle.loans.specs.Numbered.{Contents}
use Rattle.loans.specs.Contents.{contents_of, is_register, bytes_of, changed_loans, applied, register}
use Rattle.loans.specs.Good.{GoodChange, GoodContents, GoodCalls}
use Rattle.loans.specs.Replay.{ended, replay_from, replayed}
use Rattle.loans.specs.Writer.{Written}
use Rattle.loans.specs.PendingLog.{NumberedChange, record_of, write_record, write_all, apply_record, replay_log}
use Rattle.loans.specs.Operations.{records_made, with_last}
use Rattle.loans.proofs.Numbered.{taken}
use Rattle.loans.proofs.Contents.{register-sound, applied-good}
use Rattle.loans.proofs.Made.{nothing, change, call-made}
use Rattle.loans.proofs.Replay.{replay-end, append-replay}
use Rattle.loans.proofs.PendingLog.{GoodNumbered, record-short, number-back, numbered_is, numbered-back, is-record, next-in-turn, next-is-applied, written}

-- ---- a change that a call made, with the number that it took

module _ (ch : Change) (s s' : Contents) (area : List ℕ)
    (gc : GoodChange ch) (h : GoodContents s) (p : applied ch s ≡ accept s') (a : area ≡ bytes_of s') where
  abbrev n : NumberedChange
  n = with_last area ch

  s-good : GoodContents s'
  s-good = applied-good ch s s' gc h p

  took-last : n.number ≡ s'.last
  took-last = ap (λ (x : List ℕ). (contents_of x).last) a ∙ ap (λ (x : Contents). x.last) (register-sound.back s' s-good)

  took-next : n.number ≡ suc s.last
  took-next = took-last ∙ (taken changed_loans ch s s' p).last

  pub made-good : GoodNumbered n
  made-good = record { change = gc; some = omega (arith, took-next); most = omega (arith, took-last, s-good.last) }

  -- its record does what it did
  pub made-applies : apply_record (record_of n) s ≡ accept s'
  made-applies =
      is-record changed_loans (record_of n) s (numbered_is n made-good)
      ∙ rw (numbered-back n made-good, number-back n made-good, next-in-turn n.number s.last s _ took-next)
      (next-is-applied n s took-next made-good.most ∙ p)

-- ---- calls, with their changes written behind a log that ran to its end

abbrev after : List Call → List ℕ → List ℕ
after ks area = state_after (changed_area register) (asked_area register) ks area

-- the area holds what replay of the log gives
pub record Follows (start : Contents) (log area : List ℕ) : Type 0 where
  pub contents : Contents
  pub bytes : area ≡ bytes_of contents
  pub runs : replay_from apply_record 0 log start ≡ record { state = contents; end = ended }

pub run-follows : (start : Contents) (ks : List Call) (area : List ℕ) (s : Contents) (log : List ℕ) (position : ℕ) (w : Written)
    → area ≡ bytes_of s → GoodContents s → GoodCalls ks
    → replay_from apply_record 0 (take position log) start ≡ record { state = s; end = ended }
    → write_all (records_made ks area) (record { log = log; position = position }) ≡ accept w
    → Follows start (take w.position w.log) (after ks area)
run-follows start [] area s log position w b h g r e =
    record { contents = s; bytes = b; runs = ap (λ (v : Written). replay_from apply_record 0 (take v.position v.log) start) (sym (accept-inj e)) ∙ r }
run-follows start (k ∷ ks) area s log position w b h g r e =
    elim (call-made register GoodContents register-sound area s b h k g.0) [
      | nothing c a ↦ run-follows start ks _ s log position w a h g.1 r (rw c at e)
      | change ch s' gc p c a ↦
          let n : NumberedChange = with_last (call_area register k area).state ch in
          let x = answered (write_record n log position) (λ v. write_all (records_made ks (call_area register k area).state) v) (rw c at e) in
          run-follows start ks _ s' x.0.log x.0.position w a (applied-good ch s s' gc h p) g.1
          (append-replay apply_record (record_of n) (record-short n (made-good ch s s' _ gc h p a)) log position x.0
          (written n log position x.0 x.1).1 start s r ∙ rw (made-applies ch s s' _ gc h p a)) x.2
    ]

pub live-run : (ks : List Call) (area log : List ℕ) (w : Written) → GoodCalls ks → Below 256 area → is_register area ≡ true
    → write_all (records_made ks area) (record { log = log; position = 0 }) ≡ accept w
    → replay_log (take w.position w.log) area ≡ accept (record { state = after ks area; end = ended })
unfolding replayed
live-run ks area log w g k v e =
    let s : Contents = contents_of area in
    let f : Follows s (take w.position w.log) (after ks area) =
    run-follows s ks area s log 0 w (sym (register-sound.again area k v)) (register-sound.good area k v) g (replay-end apply_record 0 s) e in
    rw (v, f.runs, f.bytes)
