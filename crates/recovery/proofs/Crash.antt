-- A crash behind any step of the counter's works, and inside a start.
use Prim.Native.Nat.{ℕ, zero, suc, ◌+◌, ◌-◌, ◌≤◌, ◌<◌}
use mathlib.Core.Path.{◌≡◌, refl, sym, ◌∙◌, ap, subst}
use mathlib.Core.Logic.{◌⊎◌, inl, inr}
use mathlib.Core.Bool.{Bool, true, false}
use mathlib.Core.List.{List, [], ◌∷◌, ◌++◌, append-nil}
use native.Mathlib.Nat.{le_refl}
use native.Mathlib.Omega.{arith}
use lib.ListN.{length, take, drop}
use lib.Seq.{take_all, take-append-le, drop-append-le, take-append-add, drop-append-add}
use lib.Dec.{leb}
use borrow.Author.Tests.{leb-true, leb-false}
use Rattle.iscc.specs.Refusals.{Refusal}
use Rattle.loans.specs.Register.{call_area}
use Rattle.loans.specs.Contents.{register}
use Rattle.loans.specs.Fields.{field_bytes}
use Rattle.loans.specs.Replay.{End, ended, torn, stopped}
use Rattle.loans.specs.Tears.{applied_log}
use Rattle.loans.specs.Operations.{records_made}
use Rattle.loans.specs.PendingLog.{NumberedChange, record_of}
use Rattle.loans.proofs.PendingLog.{GoodNumbered}
use Rattle.recovery.specs.Disk.{append, cut, Folder, newest, LogLeft, dropped, partly, kept, OneOf, Left}
use Rattle.recovery.specs.Disk.{Step, writes, sync, rename, sync_folder, acknowledge, stepped, after}
use Rattle.recovery.specs.Disk.{Work, serve, snapshot, acknowledged, steps_of, area_after_work, all_steps}
use Rattle.recovery.specs.Disk.{start_steps, last_acknowledged, next_acknowledged}
use Rattle.recovery.specs.Recovery.{Finds, AllFind, AtRest, Found, GoodWork, GoodWorks, Recovery}
use Rattle.recovery.proofs.Found.{found-whole, finds-empty, finds-itself, found_part, unchanged, changed, served}

-- ---- what a crash leaves of the log

left-none : {log left : List ℕ} → LogLeft log [] left → left ≡ log
left-none dropped = refl

left-part : {log left bytes : List ℕ} → LogLeft log (append bytes ∷ []) left → (k : ℕ) × (left ≡ log ++ take k bytes)
left-part {log = log} dropped = (0, sym (append-nil log))
left-part (partly bytes k) = (k, refl)
left-part {log = log} (kept (append bytes) l) =
    (length bytes, left-none l ∙ ap (λ (l : List ℕ). log ++ l) (sym (take_all (length bytes) bytes (le_refl (length bytes)))))

left_cut : {log left : List ℕ} {n : ℕ} → LogLeft log (cut n ∷ []) left → (left ≡ log) ⊎ (left ≡ take n log)
left_cut dropped = inl refl
left_cut (kept (cut n) l) = inr (left-none l)

-- ---- the register files

all_one : (log area : List ℕ) (fs : List (List ℕ)) (file : List ℕ) → AllFind log fs area → OneOf file fs → Finds log file area
all_one log area [] file a o = absurd o
all_one log area (f ∷ fs) file a (inl e) = rw e a.0
all_one log area (f ∷ fs) file a (inr o) = all_one log area fs file a.1 o

all_map : (log log' area area' : List ℕ) → ((f : List ℕ) → Finds log f area → Finds log' f area')
    → (fs : List (List ℕ)) → AllFind log fs area → AllFind log' fs area'
all_map log log' area area' h [] a = tt
all_map log log' area area' h (f ∷ fs) a = (h f a.0, all_map log log' area area' h fs a.1)

all_more : (log area : List ℕ) (fs : List (List ℕ)) (f : List ℕ) → AllFind log fs area → Finds log f area
    → AllFind log (fs ++ (f ∷ [])) area
all_more log area [] f a h = (h, tt)
all_more log area (g ∷ fs) f a h = (a.0, all_more log area fs f a.1 h)

newest-last : (f : List ℕ) (fs : List (List ℕ)) (g : List ℕ) → newest f (fs ++ (g ∷ [])) ≡ g
newest-last f [] g = refl
newest-last f (h ∷ fs) g = newest-last h fs g

-- ---- steps behind steps

after_more : (xs ys : List Step) (d : Folder) → after (xs ++ ys) d ≡ after ys (after xs d)
after_more [] ys d = refl
after_more (x ∷ xs) ys d = after_more xs ys (stepped x d)

last_more : (xs ys : List Step) (area : List ℕ) → last_acknowledged area (xs ++ ys) ≡ last_acknowledged (last_acknowledged area xs) ys
last_more [] ys area = refl
last_more (writes w ∷ xs) ys area = last_more xs ys area
last_more (sync ∷ xs) ys area = last_more xs ys area
last_more (rename f ∷ xs) ys area = last_more xs ys area
last_more (sync_folder ∷ xs) ys area = last_more xs ys area
last_more (acknowledge next ∷ xs) ys area = last_more xs ys next

no_steps : (n : ℕ) → take {A = Step} n [] ≡ []
no_steps n = take_all n [] (omega arith)

-- ---- one work on a folder at rest

abbrev resting : List ℕ → List ℕ → List (List ℕ) → Folder
resting log file renamed = record { log = log; unsynced = []; register = file; renamed = renamed }

-- a folder in which some steps are done: after a crash a start finds the register that was acknowledged last, or the one that would be
-- next; and where only the counter ended, one of them is there once the log is synced
record Survives (d : Folder) (last next : List ℕ) : Type 0 where
  crash : (log file : List ℕ) → Left d log file → Found log file last ⊎ Found log file next
  ends : AtRest (after (start_steps ended) d) last ⊎ AtRest (after (start_steps ended) d) next

abbrev SurvivesAt : List ℕ → Folder → List Step → List Step → Type 0
SurvivesAt area d steps more = Survives (after steps d) (last_acknowledged area steps) (next_acknowledged (last_acknowledged area steps) more)

last-work : (w : Work) (area : List ℕ) → last_acknowledged area (steps_of w area) ≡ area_after_work w area
last-work snapshot area = refl
last-work (serve k) area = go (records_made (k ∷ []) area)
  where
    go : (ns : List NumberedChange) → let x = (call_area register k area).state in last_acknowledged area (acknowledged ns x) ≡ x
    go [] = refl
    go (n ∷ ns) = refl

-- nothing is unsynced, and so nothing is lost
module _ (log file : List ℕ) (renamed : List (List ℕ)) (area : List ℕ) (a : AllFind log (file ∷ renamed) area) where
  rested : AtRest (resting log file renamed) area
  rested = record { synced = refl; finds = a }

  found-resting : (log' file' : List ℕ) → Left (resting log file renamed) log' file' → Found log' file' area
  found-resting log' file' l =
      rw (left-none l.of_log) (found-whole log file' area (all_one log area (file ∷ renamed) file' a l.of_register))

  as-last : (next : List ℕ) → Survives (resting log file renamed) area next
  as-last next = record { crash = λ log' file' l. inl (found-resting log' file' l); ends = inl rested }

  as-next : (last : List ℕ) → Survives (resting log file renamed) last area
  as-next last = record { crash = λ log' file' l. inr (found-resting log' file' l); ends = inr rested }

module _ (log file : List ℕ) (renamed : List (List ℕ)) (area : List ℕ) (a : AllFind log (file ∷ renamed) area) where
  abbrev Inside : List Step → ℕ → List Step → Type 0
  Inside steps n more = n < length steps → SurvivesAt area (resting log file renamed) (take n steps) (drop n steps ++ more)

  in-snapshot : (n : ℕ) (more : List Step) → Inside (steps_of snapshot area) n more
  in-snapshot zero more h = as-last log file renamed area a _
  in-snapshot (suc zero) more h =
      as-last log file (renamed ++ (area ∷ [])) area (all_more log area (file ∷ renamed) area a (finds-itself log file area a.0)) _
  in-snapshot (suc (suc n)) more h = absurd (omega arith)

  in-answer : (area' : List ℕ) (n : ℕ) (more : List Step) → Inside (acknowledged [] area') n more
  in-answer area' zero more h = as-last log file renamed area a _
  in-answer area' (suc n) more h = absurd (omega arith)

  module _ (area' : List ℕ) (r : NumberedChange) (g : GoodNumbered r)
      (grows : (f : List ℕ) → Finds log f area → Finds (log ++ field_bytes (record_of r)) f area') where
    all_grown : AllFind (log ++ field_bytes (record_of r)) (file ∷ renamed) area'
    all_grown = all_map log (log ++ field_bytes (record_of r)) area area' grows (file ∷ renamed) a

    -- the record is written and not synced: any part of it may be left
    unsynced : (log' file' : List ℕ) → LogLeft log (append (field_bytes (record_of r)) ∷ []) log' → OneOf file' (file ∷ renamed)
        → Found log' file' area ⊎ Found log' file' area'
    unsynced log' file' l o =
        let f : Finds log file' area = all_one log area (file ∷ renamed) file' a o in
        let p = left-part l in
        elim (found_part log file' area r p.0 g f) [
          | inl x ↦ inl (rw p.1 x)
          | inr e ↦ inr (rw (p.1, e) (found-whole (log ++ field_bytes (record_of r)) file' area' (grows file' f)))
        ]

    in-record : (n : ℕ) (more : List Step) → Inside (acknowledged (r ∷ []) area') n more
    in-record zero more h = as-last log file renamed area a _
    in-record (suc zero) more h =
        record {
          crash = λ log' file' l. unsynced log' file' l.of_log l.of_register;
          ends = inr (rested (log ++ field_bytes (record_of r)) file renamed area' all_grown);
        }
    in-record (suc (suc zero)) more h = as-next (log ++ field_bytes (record_of r)) file renamed area' all_grown area
    in-record (suc (suc (suc n))) more h = absurd (omega arith)

  in-work : (w : Work) → GoodWork w → (n : ℕ) (more : List Step) → Inside (steps_of w area) n more
  in-work snapshot g n more = in-snapshot n more
  in-work (serve k) g n more =
      elim (served k log file area g a.0) [
        | unchanged e q ↦ rw e (in-answer (call_area register k area).state n more)
        | changed r gr e grows ↦ rw e (in-record (call_area register k area).state r gr (grows log) n more)
      ]

  rest-work : (w : Work) → GoodWork w → AtRest (after (steps_of w area) (resting log file renamed)) (area_after_work w area)
  rest-work snapshot g = record { synced = refl; finds = rw (newest-last file renamed area) (finds-itself log file area a.0, tt) }
  rest-work (serve k) g =
      elim (served k log file area g a.0) [
        | unchanged e q ↦ rw (e, q) (rested log file renamed area a)
        | changed r gr e grows ↦ rw e (record { synced = refl; finds = all_grown (call_area register k area).state r gr (grows log) })
      ]

-- ---- any works

rest-is : (d : Folder) (area : List ℕ) → AtRest d area → resting d.log d.register d.renamed ≡ d
rest-is d area a = λ i. record { log = d.log; unsynced = sym a.synced i; register = d.register; renamed = d.renamed }

module _ (d : Folder) (area : List ℕ) (a : AtRest d area) where
  from-resting : (P : Folder → Type 0) → P (resting d.log d.register d.renamed) → P d
  from-resting P p = subst P (rest-is d area a) p

  at_rest : (n : ℕ) → SurvivesAt area d (take n []) (drop n [])
  at_rest n =
      rw (no_steps n) (from-resting (λ e. Survives e area (next_acknowledged area (drop n [])))
      (as-last d.log d.register d.renamed area a.finds _))

  module _ (w : Work) (g : GoodWork w) where
    rests-one : AtRest (after (steps_of w area) d) (area_after_work w area)
    rests-one =
        from-resting (λ e. AtRest (after (steps_of w area) e) (area_after_work w area))
        (rest-work d.log d.register d.renamed area a.finds w g)

    inside : (n : ℕ) (more : List Step) → n < length (steps_of w area)
        → SurvivesAt area d (take n (steps_of w area)) (drop n (steps_of w area) ++ more)
    inside n more h =
        from-resting (λ e. SurvivesAt area e (take n (steps_of w area)) (drop n (steps_of w area) ++ more))
        (in-work d.log d.register d.renamed area a.finds w g n more h)

    behind : (steps more : List Step) → SurvivesAt (area_after_work w area) (after (steps_of w area) d) steps more
        → SurvivesAt area d (steps_of w area ++ steps) more
    behind steps more c = rw (after_more (steps_of w area) steps d, last_more (steps_of w area) steps area, last-work w area) c

survives : (ws : List Work) (d : Folder) (area : List ℕ) (n : ℕ) → AtRest d area → GoodWorks ws
    → SurvivesAt area d (take n (all_steps ws area)) (drop n (all_steps ws area))
survives [] d area n a g = at_rest d area a n
survives (w ∷ ws) d area n a g =
    go (leb (length steps) n) refl (λ m. survives ws (after steps d) (area_after_work w area) m (rests-one d area a w g.0) g.1)
  where
    steps : List Step
    steps = steps_of w area

    more : List Step
    more = all_steps ws (area_after_work w area)

    go : (b : Bool) → leb (length steps) n ≡ b → ((m : ℕ) → SurvivesAt (area_after_work w area) (after steps d) (take m more) (drop m more))
        → SurvivesAt area d (take n (steps ++ more)) (drop n (steps ++ more))
    go false e ih =
        let h : n < length steps = leb-false (length steps) n e in
        let l : n ≤ length steps = omega arith in
        rw (take-append-le n steps more l, drop-append-le n steps more l) (inside d area a w g.0 n more h)
    go true e ih =
        let m : ℕ = n - length steps in
        let h : length steps ≤ n = leb-true (length steps) n e in
        let z : n ≡ length steps + m = omega arith in
        rw (z, take-append-add steps more m, drop-append-add steps more m) (behind d area a w g.0 (take m more) (drop m more) (ih m))

all_rest : (ws : List Work) (d : Folder) (area : List ℕ) → AtRest d area → GoodWorks ws
    → AtRest (after (all_steps ws area) d) (last_acknowledged area (all_steps ws area))
all_rest [] d area a g = a
all_rest (w ∷ ws) d area a g =
    let steps : List Step = steps_of w area in
    let more : List Step = all_steps ws (area_after_work w area) in
    rw (after_more steps more d, last_more steps more area, last-work w area)
    (all_rest ws (after steps d) (area_after_work w area) (rests-one d area a w g.0) g.1)

-- ---- a start

abbrev GoesOn : End → Type 0
GoesOn end = (end ≡ ended) ⊎ ((offset : ℕ) × (end ≡ torn offset))

not_stopped : (q : Refusal) (offset : ℕ) → GoesOn (stopped q offset) → ⊥
not_stopped q offset (inl e) = let z : ◌≡◌ {A = ℕ} 0 1 = cc in omega arith
not_stopped q offset (inr p) = let e = p.1 in let z : ◌≡◌ {A = ℕ} 0 1 = cc in omega arith

module _ (log file area : List ℕ) where
  start-rests : (end : End) → GoesOn end → Finds (applied_log log end) file area → AtRest (after (start_steps end) (resting log file [])) area
  start-rests ended g f = record { synced = refl; finds = (f, tt) }
  start-rests (torn offset) g f = record { synced = refl; finds = (f, tt) }
  start-rests (stopped q offset) g f = absurd (not_stopped q offset g)

  module _ (found : Found log file area) (log' file' : List ℕ) where
    as_it_was : Left (resting log file []) log' file' → Found log' file' area
    as_it_was l = rw (left-none l.of_log) (elim l.of_register [ inl e ↦ rw e found | inr o ↦ absurd o ])

    cut_off : (offset : ℕ) → Finds (take offset log) file area → Left (resting (take offset log) file []) log' file' → Found log' file' area
    cut_off offset f l = found-resting (take offset log) file [] area (f, tt) log' file' l

    start-again : (end : End) → GoesOn end → Finds (applied_log log end) file area → (n : ℕ)
        → Left (after (take n (start_steps end)) (resting log file [])) log' file' → Found log' file' area
    start-again ended g f zero l = as_it_was l
    start-again ended g f (suc n) l = as_it_was (rw (no_steps n) at l)
    start-again (torn offset) g f zero l = as_it_was l
    start-again (torn offset) g f (suc zero) l = as_it_was l
    start-again (torn offset) g f (suc (suc zero)) l =
        elim (left_cut l.of_log) [
          | inl e ↦ as_it_was (record { of_log = rw e dropped; of_register = l.of_register })
          | inr e ↦ cut_off offset f (record { of_log = rw e dropped; of_register = l.of_register })
        ]
    start-again (torn offset) g f (suc (suc (suc n))) l = cut_off offset f (rw (no_steps n) at l)
    start-again (stopped q offset) g f n l = absurd (not_stopped q offset g)

pub recovery : Recovery
recovery =
    record {
      begins = record { synced = refl; finds = (finds-empty, tt) };
      crash = λ d area ws n log file a g l. (survives ws d area n a g).crash log file l;
      ends = λ d area ws n a g. (survives ws d area n a g).ends;
      rests = λ d area ws a g. all_rest ws d area a g;
      starts = λ log file area f. start-rests log file area f.end f.goes_on f.finds;
      again = λ log file area f n log' file' l. start-again log file area f log' file' f.end f.goes_on f.finds n l;
    }
