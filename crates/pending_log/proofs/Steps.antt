-- Replay of a log by the loop's steps: what a record makes of an area is what it makes of the contents.
use Rattle.std.specs.Prelude.{Ok, Err}
use Prim.Native.Nat.{ℕ, suc, ◌+◌, ◌≤◌, ◌<◌}
use mathlib.Core.Path.{◌≡◌, refl, sym, ◌∙◌, ap, subst}
use mathlib.Core.Bool.{Bool, true, false, cond}
use mathlib.Core.Logic.{◌⊎◌, inl, inr}
use mathlib.Core.List.{List}
use native.Mathlib.Omega.{arith}
use lib.ListN.{length, get_or, drop, drop_of_length-le}
use lib.Seq.{drop-cons, drop-drop}
use lib.Dec.{eqb, leb}
use borrow.Author.Tests.{eqb-true}
use Rattle.iscc.specs.Answer.{Answer, accept, refuse, ◌>>=◌, ◌>>◌, ◌otherwise◌}
use Rattle.iscc.specs.Refusals.{Refusal, not_register, not_record, number_gap}
use Rattle.iscc.specs.Digits.{Below}
use Rattle.iscc.proofs.Answer.{answered, bind-refused, accept-inj, never}
use Rattle.iscc.proofs.Digits.{below-drop, below_all}
use Rattle.loans.specs.Register.{changed_area}
use Rattle.loans.specs.Numbered.{Contents}
use Rattle.loans.specs.Contents.{contents_of, is_register, bytes_of, changed_loans, applied, register}
use Rattle.loans.specs.Good.{GoodContents}
use Rattle.loans.specs.Fields.{Field, first_size, first_is_whole, first_field}
use Rattle.loans.specs.Replay.{End, ended, torn, stopped, end_number, end_offset, go_on, replay_from, in_bytes, replayed, area_replayed, replay_number, replay_offset}
use Rattle.loans.specs.Replay as replays
use Rattle.loans.specs.PendingLog.{NumberedChange, number_in, is_numbered, numbered_of, in_turn, numbering, apply_with, apply_record, replay_log}
use Rattle.loans.proofs.Contents.{register-known, register-sound}
use Rattle.loans.proofs.Fields.{body_bytes}
use Rattle.loans.proofs.PendingLog.{good-numbered, next-is-applied, record-good}
use Rattle.loans.proofs.Replay.{replay-end, replay-torn, replay-step}
use Rattle.register.specs.Representation.{Changed}
use Rattle.register.proofs.Changes.{Told}
use Rattle.pending_log.specs.AppliedArea.{applied_area}
use Rattle.pending_log.specs.Representation.{end_as, replayed_as, replayed_number, replayed_offset}
use Rattle.pending_log.specs.declared.replay.Replayed.{Replayed}
use Rattle.pending_log.specs.declared.replay.Replayed.TheVariants as ends
use Rattle.pending_log.proofs.Sizes.{FieldThere}

-- ---- one record on an area, and on its contents

pub record StepDone (f : Field) (area area' : List ℕ) : Type 0 where
  pub contents : apply_record f (contents_of area) ≡ accept (contents_of area')
  pub valid : is_register area' ≡ true

module _ (f : Field) (area : List ℕ) (v : is_register area ≡ true) (fb : Below 256 f.body) (ab : Below 256 area) where
  abbrev s : Contents
  s = contents_of area

  abbrev n : NumberedChange
  n = numbered_of f

  -- the bytes of what a record gives
  abbrev as_bytes : Answer Contents → Answer (List ℕ)
  as_bytes x = x >>= λ s'. accept (bytes_of s')

  area-is : applied_area f area ≡ as_bytes (apply_record f s)
  unfolding applied_area apply_with in_turn changed_area numbered_of
  area-is = rw v (go (is_numbered f) (leb (number_in f) s.last) (eqb (number_in f) (suc s.last)) refl refl)
    where
      go : (a b c : Bool) → is_numbered f ≡ a → eqb (number_in f) (suc s.last) ≡ c
          → (a otherwise not_record >> cond b (accept area) (c otherwise number_gap >> as_bytes (applied n.change s)))
          ≡ as_bytes (a otherwise not_record >> cond b (accept s) (c otherwise number_gap >> numbering changed_loans n s))
      go false b c p q = refl
      go true true c p q = ap accept (sym (register-sound.again area ab v))
      go true false false p q = refl
      go true false true p q = ap as_bytes (sym (next-is-applied n s (eqb-true (number_in f) (suc s.last) q) (good-numbered f fb p).most))

  pub step-stop : (q : Refusal) → applied_area f area ≡ refuse q → apply_record f s ≡ refuse q
  step-stop q e = go (bind-refused (apply_record f s) (λ s'. accept (bytes_of s')) (sym area-is ∙ e))
    where
      go : (apply_record f s ≡ refuse q) ⊎ ((s' : Contents) × (apply_record f s ≡ accept s') × (accept (bytes_of s') ≡ refuse q)) → apply_record f s ≡ refuse q
      go (inl w) = w
      go (inr w) = absurd (never (sym w.2))

  pub step-done : (area' : List ℕ) → applied_area f area ≡ accept area' → StepDone f area area'
  step-done area' e =
      let w = answered (apply_record f s) (λ s'. accept (bytes_of s')) (sym area-is ∙ e) in
      let g : GoodContents w.0 = record-good f s w.0 fb (register-sound.good area ab v) w.1 in
      let k : bytes_of w.0 ≡ area' = accept-inj w.2 in
      record {
        contents = w.1 ∙ ap accept (sym (register-sound.back w.0 g) ∙ ap contents_of k);
        valid = subst (λ (a : List ℕ). is_register a ≡ true) k (register-sound.valid w.0 g);
      }

-- ---- the answer by the specification's number and offset

number-told : (x : Answer (replays.Replayed (List ℕ))) → (replayed_number (replayed_as x) ≡ replay_number x) × (replayed_offset (replayed_as x) ≡ replay_offset x)
number-told (refuse q) = (refl, refl)
number-told (accept x) = go x.end
  where
    go : (e : End) → (replayed_number (end_as e) ≡ end_number e) × (replayed_offset (end_as e) ≡ end_offset e)
    go ended = (refl, refl)
    go (torn offset) = (refl, refl)
    go (stopped q offset) = (refl, refl)

pub all_told-is : (log area : List ℕ) (r : Replayed) (d : List ℕ) → (r ≡ replayed_as (replay_log log area)) × (d ≡ area_replayed area (replay_log log area))
    → (r ≡ replayed_as (replay_log log area)) × ((replayed_number r ≡ replay_number (replay_log log area))
    × ((replayed_offset r ≡ replay_offset (replay_log log area)) × (d ≡ area_replayed area (replay_log log area))))
all_told-is log area r d t =
    let n = number-told (replay_log log area) in
    (t.0, (ap replayed_number t.0 ∙ n.0, (ap replayed_offset t.0 ∙ n.1, t.1)))

-- ---- what the code was told

told-stop : (x : Answer (List ℕ)) (area : List ℕ) (y : Changed) (d : List ℕ) (q : Refusal) → Told x area y d → y ≡ Err q → (x ≡ refuse q) × (d ≡ area)
told-stop (accept a) area y d q t e = let k = sym t.0 ∙ e in let z : ◌≡◌ {A = ℕ} 0 1 = cc in absurd (omega arith)
told-stop (refuse p) area y d q t e = (ap (λ (c : Changed). refuse (refusal_in c)) (sym t.0 ∙ e), t.1)
  where
    refusal_in : Changed → Refusal
    refusal_in (Ok k) = q
    refusal_in (Err r) = r

told-done : (x : Answer (List ℕ)) (area : List ℕ) (y : Changed) (d : List ℕ) (k : ℕ) → Told x area y d → y ≡ Ok k → x ≡ accept d
told-done (accept a) area y d k t e = ap accept (sym t.1)
told-done (refuse p) area y d k t e = let k = sym t.0 ∙ e in let z : ◌≡◌ {A = ℕ} 0 1 = cc in absurd (omega arith)

-- ---- the loop

-- the records before an offset are applied: the whole replay is that of the log from there on, over the area as it is now
pub record Running (log area₀ area : List ℕ) (offset : ℕ) : Type 0 where
  pub within : offset ≤ length log
  pub bytes : Below 256 area
  pub valid : is_register area ≡ true
  pub size : length area ≡ length area₀
  pub same : replay_log log area₀ ≡ accept (in_bytes register apply_record (replay_from apply_record offset (drop offset log) (contents_of area)))

pub at-start : (log area : List ℕ) → Below 256 area → is_register area ≡ true → Running log area area 0
unfolding replayed
at-start log area b v = record { within = omega arith; bytes = b; valid = v; size = refl; same = rw v }

module _ (log area₀ area : List ℕ) (offset : ℕ) (inv : Running log area₀ area offset) where
  abbrev rest : List ℕ
  rest = drop offset log

  abbrev replay_rest : List ℕ → replays.Replayed Contents
  replay_rest bs = replay_from apply_record offset bs (contents_of area)

  -- what the code tells of the whole replay, and what it leaves of the area
  abbrev Ends : Replayed → List ℕ → Type 0
  Ends x d = (x ≡ replayed_as (replay_log log area₀)) × (d ≡ area_replayed area₀ (replay_log log area₀))

  ends_as : (end : End) → replay_rest rest ≡ record { state = contents_of area; end = end } → Ends (end_as end) area
  ends_as end e =
      let k : replay_log log area₀ ≡ accept (record { state = area; end = end }) =
      inv.same ∙ ap (λ (x : replays.Replayed Contents). accept (in_bytes register apply_record x)) e
      ∙ ap (λ (a : List ℕ). accept (record { state = a; end = end })) (register-sound.again area inv.bytes inv.valid) in
      (sym (ap replayed_as k), sym (ap (area_replayed area₀) k))

  pub ran_out : length log ≤ offset → Ends ends.Ended area
  ran_out h =
      ends_as ended
      (ap replay_rest (drop_of_length-le log {i = offset} h) ∙ replay-end apply_record offset (contents_of area))

  pub torn-there : offset < length log → false ≡ first_is_whole rest → Ends (ends.Torn offset) area
  torn-there h z =
      let d = drop-cons log offset 0 h in
      ends_as (torn offset)
      (ap replay_rest d
      ∙ replay-torn apply_record offset (get_or log offset 0) (drop (suc offset) log) (contents_of area) (ap first_is_whole (sym d) ∙ sym z))

  module _ (f : Field) (there : FieldThere log offset f) where
    -- the replay from here on, by what its first record gives
    abbrev goes_on : Answer Contents → replays.Replayed Contents
    goes_on x = go_on apply_record (contents_of area) offset x (λ ps. replay_from apply_record (offset + first_size rest) (drop (first_size rest) rest) ps)

    first-applied : (x : Answer Contents) → apply_record (first_field rest) (contents_of area) ≡ x → replay_rest rest ≡ goes_on x
    first-applied x e = replay-step apply_record offset rest (contents_of area) there.whole ∙ ap goes_on e

    module _ (y : Changed) (d : List ℕ) (t : Told (applied_area (f) area) area y d) (lb : Below 256 log) where
      told : Told (applied_area (first_field rest) area) area y d
      told = subst (λ (x : Field). Told (applied_area x area) area y d) there.field t

      bytes : Below 256 (first_field rest).body
      bytes = body_bytes rest (below-drop 256 offset log lb)

      pub stopped-there : (q : Refusal) → y ≡ Err q → Ends (ends.Stopped q offset) d
      stopped-there q k =
          let s = told-stop (applied_area (first_field rest) area) area y d q told k in
          let r : apply_record (first_field rest) (contents_of area) ≡ refuse q = step-stop (first_field rest) area inv.valid bytes inv.bytes q s.0 in
          subst (Ends (ends.Stopped q offset)) (sym s.1) (ends_as (stopped q offset) (first-applied (refuse q) r))

      applied-there : ((k : ℕ) → get_or d k 0 < 256) → (m : ℕ) → y ≡ Ok m → Running log area₀ d (offset + (3 + length f.body))
      applied-there db m k =
          let s = told-done (applied_area (first_field rest) area) area y d m told k in
          let g : StepDone (first_field rest) area d = step-done (first_field rest) area inv.valid bytes inv.bytes d s in
          let r =
          first-applied (accept (contents_of d)) g.contents
          ∙ ap (λ (bs : List ℕ). replay_from apply_record (offset + first_size rest) bs (contents_of d)) (drop-drop (first_size rest) offset log)
          ∙ ap (λ (j : ℕ). replay_from apply_record (offset + j) (drop (offset + j) log) (contents_of d)) (sym there.size_is) in
          record {
            within = there.fits;
            bytes = below_all 256 d (λ k _. db k);
            valid = g.valid;
            size = (register-known d g.valid).size ∙ sym (register-known area inv.valid).size ∙ inv.size;
            same = inv.same ∙ ap (λ (x : replays.Replayed Contents). accept (in_bytes register apply_record x)) r;
          }

      pub one_more : ((k : ℕ) → get_or d k 0 < 256) → (m : ℕ) → y ≡ Ok m → (n : ℕ) → n ≡ offset + (3 + length f.body) → Running log area₀ d n
      one_more db m k n e = subst (Running log area₀ d) (sym e) (applied-there db m k)

-- ---- 23 before all else

pub not_register-is : (log area : List ℕ) (r : Bool) → r ≡ is_register area → r ≡ false
    → (ends.Refused not_register ≡ replayed_as (replay_log log area)) × (area ≡ area_replayed area (replay_log log area))
unfolding replayed
not_register-is log area r e f = let v : is_register area ≡ false = sym e ∙ f in rw v (refl, refl)
