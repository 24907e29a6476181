-- What is promised of the record numbers, a field for each sentence; the file of this name in proofs/ proves it. That live calls and
-- the replay of their log give one register is in LogPromises.antt, and so is what a tear leaves; 26 is in Promises.antt.
use Rattle.std.specs.Prelude.{ℕ, suc, ◌≤◌, ◌<◌, ◌≡◌, true, List, take}
use Rattle.iscc.specs.Answer.{accept}
use Rattle.iscc.specs.Digits.{Below}
use Rattle.loans.specs.Contents.{is_register, contents_of, issue_text, return_text}
use Rattle.loans.specs.Replay.{Replayed, ended}
use Rattle.loans.specs.PendingLog.{replay_log}

pub record RecordNumbers : Type 0 where
  -- "Replaying a log that ran to its end changes nothing the second time", and runs to its end again;
  pub second : (log area after : List ℕ) → Below 256 log → Below 256 area → replay_log log area ≡ accept (record { state = after; end = ended })
      → replay_log log after ≡ accept (record { state = after; end = ended })
  -- nor does it later, on any register that has got as far, whatever calls and logs there were since
  pub later : (log area after now : List ℕ) → Below 256 log → Below 256 area → Below 256 now
      → replay_log log area ≡ accept (record { state = after; end = ended }) → is_register now ≡ true → (contents_of after).last ≤ (contents_of now).last
      → replay_log log now ≡ accept (record { state = now; end = ended })
  -- "Replaying any part of a log from its start, and then the whole, is replaying the whole.": any log, cut behind any of its bytes
  pub prefix_then_whole : (log area : List ℕ) (k : ℕ) (x : Replayed (List ℕ)) → Below 256 log → Below 256 area → replay_log (take k log) area ≡ accept x
      → replay_log log x.state ≡ replay_log log area
  -- "An issue and a return take the next number", which stands in the area then
  pub issue_takes : (t : List ℕ) (b : ℕ) (area area' : List ℕ) → Below 256 area → b < 4294967296 → issue_text t b area ≡ accept area'
      → (contents_of area').last ≡ suc (contents_of area).last
  pub return_takes : (t area area' : List ℕ) → Below 256 area → return_text t area ≡ accept area'
      → (contents_of area').last ≡ suc (contents_of area).last
