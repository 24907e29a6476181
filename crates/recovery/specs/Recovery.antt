-- What is promised of the counter's folder after a crash at any step, a field for each sentence; the file of this name in proofs/ proves
-- it. And of a promotion whose log came in pieces.
use Rattle.std.specs.Prelude.{ℕ, ◌≤◌, ◌≡◌, ◌⊎◌, length, take, drop}
use mathlib.Core.List.{List, [], ◌∷◌, flatten}
use Rattle.iscc.specs.Answer.{accept}
use Rattle.iscc.specs.Digits.{Below}
use Rattle.loans.specs.Numbered.{nothing}
use Rattle.loans.specs.Contents.{contents_of, bytes_of, empty_register}
use Rattle.loans.specs.Good.{GoodCall}
use Rattle.loans.specs.Replay.{End, ended, torn}
use Rattle.loans.specs.Tears.{applied_log}
use Rattle.loans.specs.PendingLog.{apply_record, replay_log}
use Rattle.loans.specs.Promotion.{promotion}
use Rattle.recovery.specs.Pieces.{number_reached, going, fed_all, finished, InPieces}
use Rattle.recovery.specs.Concluded.{concluded}
use Rattle.recovery.specs.Disk.{Folder, Left, Work, serve, snapshot, after, all_steps, start_steps, last_acknowledged, next_acknowledged}

-- a log and a register file from which a start finds a register: the log runs to its end over the file, and reaches its last number
pub record Finds (log file area : List ℕ) : Type 0 where
  pub log_bytes : Below 256 log
  pub file_bytes : Below 256 file
  pub replayed : replay_log log file ≡ accept (record { state = area; end = ended })
  pub reached : number_reached 0 log ≡ (contents_of area).last

abbrev pub AllFind : List ℕ → List (List ℕ) → List ℕ → Type 0
AllFind log [] area = Unit {0}
AllFind log (f ∷ fs) area = Finds log f area × AllFind log fs area

-- a folder at rest: nothing of the log is unsynced, and from each register file that may be found a start finds this register
pub record AtRest (d : Folder) (area : List ℕ) : Type 0 where
  pub synced : d.unsynced ≡ []
  pub finds : AllFind d.log (d.register ∷ d.renamed) area

-- a folder as it was left, of which a start makes a register: the log ran to its end or is torn, and no record stops it; once the tear
-- is cut off the folder is at rest with that register
pub record Found (log file area : List ℕ) : Type 0 where
  pub end : End
  pub replayed : replay_log log file ≡ accept (record { state = area; end = end })
  pub goes_on : (end ≡ ended) ⊎ ((offset : ℕ) × (end ≡ torn offset))
  pub finds : Finds (applied_log log end) file area

abbrev pub GoodWork : Work → Type 0
GoodWork (serve k) = GoodCall k
GoodWork snapshot = Unit {0}

abbrev pub GoodWorks : List Work → Type 0
GoodWorks [] = Unit {0}
GoodWorks (w ∷ ws) = GoodWork w × GoodWorks ws

pub record Recovery : Type 1 where
  -- "An empty register is an area of zeros": with it and an empty log a folder begins
  pub begins : AtRest (record { log = []; unsynced = []; register = empty_register; renamed = [] }) empty_register
  -- a crash behind any step of any works: "the next start finds the register of all acknowledged changes, or of these and the one in
  -- flight", whose steps are not all done
  pub crash : (d : Folder) (area : List ℕ) (ws : List Work) (n : ℕ) (log file : List ℕ) → AtRest d area → GoodWorks ws
      → Left (after (take n (all_steps ws area)) d) log file
      → Found log file (last_acknowledged area (take n (all_steps ws area)))
      ⊎ Found log file (next_acknowledged (last_acknowledged area (take n (all_steps ws area))) (drop n (all_steps ws area)))
  -- the counter itself may end behind any step while the machine goes on: once a start has synced the log as it found it, the folder is
  -- at rest with one of these two registers
  pub ends : (d : Folder) (area : List ℕ) (ws : List Work) (n : ℕ) → AtRest d area → GoodWorks ws
      → let started = after (start_steps ended) (after (take n (all_steps ws area)) d) in
      AtRest started (last_acknowledged area (take n (all_steps ws area)))
      ⊎ AtRest started (next_acknowledged (last_acknowledged area (take n (all_steps ws area))) (drop n (all_steps ws area)))
  -- works that are all done leave the folder at rest
  pub rests : (d : Folder) (area : List ℕ) (ws : List Work) → AtRest d area → GoodWorks ws
      → AtRest (after (all_steps ws area) d) (last_acknowledged area (all_steps ws area))
  -- what a crash left, once the start's own steps are done, is at rest with the register that it found: so all this holds again
  pub starts : (log file area : List ℕ) (f : Found log file area)
      → AtRest (after (start_steps f.end) (record { log = log; unsynced = []; register = file; renamed = [] })) area
  -- and a crash inside the start leaves what the next one finds the same register from
  pub again : (log file area : List ℕ) (f : Found log file area) (n : ℕ) (log' file' : List ℕ)
      → Left (after (take n (start_steps f.end)) (record { log = log; unsynced = []; register = file; renamed = [] })) log' file'
      → Found log' file' area

pub record HallPromises : Type 1 where
  pub pieces : InPieces apply_record
  pub recovery : Recovery
  -- the verdict over a register that was replayed in pieces is the checker's over the whole log
  pub promoted : (ps : List (List ℕ)) (replica work : List ℕ) → Below 256 (flatten ps) → 12308 ≤ length work
      → let x = finished (fed_all apply_record ps (going nothing 0 [])) in
      concluded (accept x.end) (bytes_of x.state) replica ≡ promotion (flatten ps) replica work
