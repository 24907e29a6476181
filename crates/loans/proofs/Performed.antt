-- Over any calls and replays an area tells what the map tells that it holds.
use Prim.Native.Nat.{ℕ}
use mathlib.Core.Path.{◌≡◌, refl, ap, ap₂}
use mathlib.Core.List.{List, [], ◌∷◌}
use Rattle.iscc.specs.Answer.{Answer, accept}
use Rattle.iscc.specs.Digits.{Below}
use Rattle.loans.specs.Map.{Change}
use Rattle.loans.specs.Register.{Register, changed_area, asked_area}
use Rattle.loans.specs.Fields.{Field}
use Rattle.loans.specs.Replay.{End, replay_from, replayed}
use Rattle.loans.specs.Good.{GoodChange, Sound}
use Rattle.loans.specs.Operations.{Operation, live, replay, answered, ran, GoodOperation, GoodOperations, Told, Performed, perform, all_told}
use Rattle.loans.proofs.Map.{Both}
use Rattle.loans.proofs.Calls.{call-alike, InArea, area-changes, area-asks}
use Rattle.loans.proofs.Replay.{ReplayHolds, replay-holds}

-- what is told is the same, and the states are still alike
record PerformedAlike {S M : Type 0} (Rel : S → M → Type 0) (x : Performed S) (y : Performed M) : Type 0 where
  told : x.told ≡ y.told
  state : Rel x.state y.state

module _ {S M : Type 0} (r : Register S) (Good : S → Type 0) (sound : Sound r Good) (Rel : S → M → Type 0) (good : (s : S) (m : M) → Rel s m → Good s)
    (change : Change → M → Answer M) (ask : List ℕ → M → Answer ℕ)
    (changes : (ch : Change) (s : S) (m : M) → GoodChange ch → Rel s m → Both Rel (r.changes ch s) (change ch m))
    (asks : (c : List ℕ) (s : S) (m : M) → Rel s m → r.asks c s ≡ ask c m)
    (apply : Field → S → Answer S) (apply_m : Field → M → Answer M)
    (records : (f : Field) (s : S) (m : M) → Below 256 f.body → Rel s m → Both Rel (apply f s) (apply_m f m)) where
  perform-alike : (w : Operation) (area : List ℕ) (m : M) → GoodOperation w → InArea r Rel area m
      → PerformedAlike (InArea r Rel) (perform (changed_area r) (asked_area r) (replayed r apply) w area) (perform change ask (λ log m. accept (replay_from apply_m 0 log m)) w m)
  perform-alike (live k) area m g h =
      let a = call-alike (changed_area r) (asked_area r) change ask (InArea r Rel) (area-changes r Good sound Rel good change ask changes asks) (area-asks r Good sound Rel good change ask changes asks) area m h k g in
      record { told = ap (λ (x : Answer ℕ). answered x) a.answer; state = a.state }
  perform-alike (replay log) area m g h =
      let a : ReplayHolds r apply apply_m Rel log area m = replay-holds apply apply_m Rel records r Good sound good log area m g h in
      rw a.accepted (record { told = ap (λ (x : End). ran (accept x)) a.alike.end; state = a.alike.state })

  pub all_told-is : (ws : List Operation) (area : List ℕ) (m : M) → GoodOperations ws → InArea r Rel area m
      → all_told (changed_area r) (asked_area r) (replayed r apply) ws area ≡ all_told change ask (λ log m. accept (replay_from apply_m 0 log m)) ws m
  all_told-is [] area m g h = refl
  all_told-is (w ∷ ws) area m g h =
      let a = perform-alike w area m g.0 h in
      ap₂ (λ (x : Told) (xs : List Told). x ∷ xs) a.told (all_told-is ws _ _ g.1 a.state)
