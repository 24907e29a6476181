-- A small model of the disk: a folder with the log and the register file, the operations that the counter makes on them, and what a crash
-- may leave. "Synced bytes stay; of the unsynced ones any prefix may."
use Rattle.std.specs.Prelude.{ℕ, ◌≡◌, ◌⊎◌, List, [], ◌∷◌, ◌++◌, take}
use Rattle.loans.specs.Calls.{Call}
use Rattle.loans.specs.Register.{call_area}
use Rattle.loans.specs.Contents.{register}
use Rattle.loans.specs.Fields.{field_bytes}
use Rattle.loans.specs.Replay.{End, ended, torn, stopped}
use Rattle.loans.specs.PendingLog.{NumberedChange, record_of}
use Rattle.loans.specs.Operations.{records_made}

-- ---- the folder

pub data LogWrite : Type 0 where
  append : (bytes : List ℕ) → LogWrite
  cut : (length : ℕ) → LogWrite

-- The log as it was when it was synced last, and what was written to it since, in this order. The register file as it was when the folder
-- was synced last, and the files that were renamed to it since: each is whole and synced before it is renamed.
pub record Folder : Type 0 where
  pub log : List ℕ
  pub unsynced : List LogWrite
  pub register : List ℕ
  pub renamed : List (List ℕ)

abbrev pub written_to : List ℕ → LogWrite → List ℕ
written_to log (append bytes) = log ++ bytes
written_to log (cut n) = take n log

abbrev pub all_written : List ℕ → List LogWrite → List ℕ
all_written log [] = log
all_written log (w ∷ ws) = all_written (written_to log w) ws

abbrev pub newest : List ℕ → List (List ℕ) → List ℕ
newest file [] = file
newest file (f ∷ fs) = newest f fs

-- ---- what is done to it

-- a step of the counter: an operation on the folder, or an answer, with the register of all changes that are acknowledged then
pub data Step : Type 0 where
  writes : LogWrite → Step
  sync : Step
  rename : (area : List ℕ) → Step
  sync_folder : Step
  acknowledge : (area : List ℕ) → Step

abbrev pub stepped : Step → Folder → Folder
stepped (writes w) d = record { log = d.log; unsynced = d.unsynced ++ (w ∷ []); register = d.register; renamed = d.renamed }
stepped sync d = record { log = all_written d.log d.unsynced; unsynced = []; register = d.register; renamed = d.renamed }
stepped (rename area) d = record { log = d.log; unsynced = d.unsynced; register = d.register; renamed = d.renamed ++ (area ∷ []) }
stepped sync_folder d = record { log = d.log; unsynced = d.unsynced; register = newest d.register d.renamed; renamed = [] }
stepped (acknowledge area) d = d

abbrev pub after : List Step → Folder → Folder
after [] d = d
after (s ∷ ss) d = after ss (stepped s d)

-- ---- what a crash leaves

-- of the log: the writes up to some one, and of an append a part of its bytes
pub data LogLeft : List ℕ → List LogWrite → List ℕ → Type 0 where
  dropped : {log : List ℕ} {ws : List LogWrite} → LogLeft log ws log
  partly : {log : List ℕ} (bytes : List ℕ) {ws : List LogWrite} (k : ℕ) → LogLeft log (append bytes ∷ ws) (log ++ take k bytes)
  kept : {log : List ℕ} (w : LogWrite) {ws : List LogWrite} {left : List ℕ} → LogLeft (written_to log w) ws left → LogLeft log (w ∷ ws) left

-- of the register file: the one that was synced, or any that was renamed since
abbrev pub OneOf : List ℕ → List (List ℕ) → Type 0
OneOf x [] = ⊥
OneOf x (y ∷ ys) = (x ≡ y) ⊎ OneOf x ys

pub record Left (d : Folder) (log file : List ℕ) : Type 0 where
  pub of_log : LogLeft d.log d.unsynced log
  pub of_register : OneOf file (d.register ∷ d.renamed)

-- ---- the counter's steps

-- a command, or a snapshot of the register
pub data Work : Type 0 where
  serve : Call → Work
  snapshot : Work

-- "A record is appended and synced before it is acknowledged"; what changes nothing is answered at once
abbrev pub acknowledged : List NumberedChange → List ℕ → List Step
acknowledged [] area = acknowledge area ∷ []
acknowledged (n ∷ ns) area = writes (append (field_bytes (record_of n))) ∷ sync ∷ acknowledge area ∷ []

-- on the register in memory: the steps, and the register afterwards
abbrev pub steps_of : Work → List ℕ → List Step
steps_of (serve k) area = acknowledged (records_made (k ∷ []) area) (call_area register k area).state
steps_of snapshot area = rename area ∷ sync_folder ∷ []

abbrev pub area_after_work : Work → List ℕ → List ℕ
area_after_work (serve k) area = (call_area register k area).state
area_after_work snapshot area = area

abbrev pub all_steps : List Work → List ℕ → List Step
all_steps [] area = []
all_steps (w ∷ ws) area = steps_of w area ++ all_steps ws (area_after_work w area)

-- at a start, once the log is replayed: it is synced as it was found, and "a torn last record is told and cut off"
abbrev pub start_steps : End → List Step
start_steps ended = sync ∷ []
start_steps (torn offset) = sync ∷ writes (cut offset) ∷ sync ∷ []
start_steps (stopped q offset) = []

-- the register of all acknowledged changes, and the next one that would be
abbrev pub last_acknowledged : List ℕ → List Step → List ℕ
last_acknowledged area [] = area
last_acknowledged area (acknowledge next ∷ ss) = last_acknowledged next ss
last_acknowledged area (writes w ∷ ss) = last_acknowledged area ss
last_acknowledged area (sync ∷ ss) = last_acknowledged area ss
last_acknowledged area (rename f ∷ ss) = last_acknowledged area ss
last_acknowledged area (sync_folder ∷ ss) = last_acknowledged area ss

abbrev pub next_acknowledged : List ℕ → List Step → List ℕ
next_acknowledged area [] = area
next_acknowledged area (acknowledge next ∷ ss) = next
next_acknowledged area (writes w ∷ ss) = next_acknowledged area ss
next_acknowledged area (sync ∷ ss) = next_acknowledged area ss
next_acknowledged area (rename f ∷ ss) = next_acknowledged area ss
next_acknowledged area (sync_folder ∷ ss) = next_acknowledged area ss
