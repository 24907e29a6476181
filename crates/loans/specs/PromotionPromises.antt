-- What is promised of a promotion, a field for each sentence; the file of this name in proofs/ proves it.
use Rattle.iscc.specs.Refusals.{refusal_number}
use Rattle.std.specs.Prelude.{ℕ, ◌≤◌, ◌<◌, ◌≡◌, ◌⊎◌, ◌↔◌, true, false, List, [], ◌∷◌, ◌++◌, length, take, drop}
use Rattle.iscc.specs.Refusals.{Refusal, not_out, not_register, area_too_short, last_numbers_differ, log_torn, loans_differ}
use Rattle.iscc.specs.Answer.{accept, refuse, Accepted}
use Rattle.iscc.specs.Digits.{Below}
use Rattle.iscc.specs.Doors.{code_bytes}
use Rattle.iscc.specs.Exactly.{Exactly}
use Rattle.octets.specs.Order.{before}
use Rattle.loans.specs.Loan.{Loan, find}
use Rattle.loans.specs.Map.{Change, issue_code}
use Rattle.loans.specs.Calls.{Call, state_after}
use Rattle.loans.specs.Register.{changed_area, asked_area}
use Rattle.loans.specs.Numbered.{nothing}
use Rattle.loans.specs.Contents.{is_register, contents_of, register, empty_register, issue_text, ask_text}
use Rattle.loans.specs.Good.{GoodCalls}
use Rattle.loans.specs.Log.{records_from}
use Rattle.loans.specs.Replay.{ended, torn, stopped, area_replayed}
use Rattle.loans.specs.Records.{code_of}
use Rattle.loans.specs.Writer.{Written}
use Rattle.loans.specs.PendingLog.{apply_record, write_all, replay_log}
use Rattle.loans.specs.Operations.{records_made}
use Rattle.loans.specs.CodesOut.{applied_in, takes_record}
use Rattle.loans.specs.Promotion.{granted, refused, refused_at, refused_for, from_empty, promotion, work_after}
use Rattle.loans.specs.PromotionOrder.{verdict_answer, promotion_stages}

-- ---- what the two registers hold

abbrev pub made_loans : List ℕ → List Loan
made_loans log = (from_empty log).state.loans

abbrev pub held_loans : List ℕ → List Loan
held_loans replica = (contents_of replica).loans

-- the same codes and borrowers, in whatever order
abbrev pub SameLoans : List Loan → List Loan → Type 0
SameLoans ls ks = (c : List ℕ) → find c ls ≡ find c ks

-- c is "held by one register only or with another borrower", and "No code before it is."
pub record Least (c : List ℕ) (ls ks : List Loan) : Type 0 where
  pub differs : find c ls ≡ find c ks → ⊥
  pub least : (d : List ℕ) → before d c ≡ true → find d ls ≡ find d ks

-- ---- each answer, exactly when

-- "neither 23 nor 15 applies"
pub record Admitted (replica work : List ℕ) : Type 0 where
  pub valid : is_register replica ≡ true
  pub room : 12308 ≤ length work

-- "replay from empty runs to the log's end without refusal or tear"
pub record Ran (log replica work : List ℕ) : Type 0 where
  pub admitted : Admitted replica work
  pub ran : (from_empty log).end ≡ ended

-- "and both registers hold the same codes, borrowers and last number"
pub record May (log replica work : List ℕ) : Type 0 where
  pub end : Ran log replica work
  pub same : SameLoans (made_loans log) (held_loans replica)
  pub last : (from_empty log).state.last ≡ (contents_of replica).last

-- "only the last numbers differ"
pub record LastAlone (log replica work : List ℕ) : Type 0 where
  pub end : Ran log replica work
  pub same : SameLoans (made_loans log) (held_loans replica)
  pub last : (from_empty log).state.last ≡ (contents_of replica).last → ⊥

-- the loans differ, and c is the least that does
pub record LoansApart (log replica work c : List ℕ) : Type 0 where
  pub end : Ran log replica work
  pub code : Least c (made_loans log) (held_loans replica)

-- the replay did not run to the log's end, and this is its own number and offset, or 36 and the tear's
pub record NotRan (log replica work : List ℕ) (q : Refusal) (offset : ℕ) : Type 0 where
  pub admitted : Admitted replica work
  pub told : ((from_empty log).end ≡ stopped q offset) ⊎ (((from_empty log).end ≡ torn offset) × (q ≡ log_torn))

-- ---- the night

-- "the log's records that replay applies", as changes: "A record that is skipped is not one of them."
abbrev pub changes_in : List ℕ → List Change
changes_in log = applied_in register apply_record takes_record (records_from 0 log).whole nothing

abbrev pub NoneAbout : List ℕ → List Change → Type 0
NoneAbout c [] = Unit {0}
NoneAbout c (ch ∷ chs) = (code_of ch ≡ c → ⊥) × NoneAbout c chs

-- "the last one about it is an issue, with that borrower"
pub record LastIsIssue (c : List ℕ) (b : ℕ) (chs : List Change) : Type 0 where
  pub earlier : List Change
  pub later : List Change
  pub parts : chs ≡ earlier ++ issue_code c b ∷ later
  pub none : NoneAbout c later

pub record MayBePromoted : Type 0 where
  -- "The answer is yes, number 0, exactly if"; a byte string is a list with `Below 256`
  pub yes : (log replica work : List ℕ) → Below 256 log → (promotion log replica work ≡ granted) ↔ May log replica work
  -- each number exactly when its test is the first that fails
  pub tests : (log replica work : List ℕ) → Exactly (promotion_stages log replica work) (verdict_answer (promotion log replica work))
  -- "where that record starts", "where the torn record starts"
  pub offset : (log replica work : List ℕ) (q : Refusal) (offset : ℕ) → (promotion log replica work ≡ refused_at q offset) ↔ NotRan log replica work q offset
  -- "37 tells the least code"
  pub code : (log replica work c : List ℕ) → Below 256 log
      → (promotion log replica work ≡ refused_for loans_differ c) ↔ LoansApart log replica work c
  -- "only the last numbers differ"
  pub last_alone : (log replica work : List ℕ) → Below 256 log
      → (promotion log replica work ≡ refused last_numbers_differ) ↔ LastAlone log replica work
  -- "what it held before changes no answer"
  pub any_work : (log replica work work' : List ℕ) → Admitted replica work → Admitted replica work' → promotion log replica work ≡ promotion log replica work'
  -- "Replay from empty is a replay of the log over an empty register", and the register that it left, by its own definition
  pub replays : (log replica work : List ℕ) → Below 256 log → Admitted replica work
      → take 12308 (work_after log replica work) ≡ area_replayed empty_register (replay_log log empty_register)
  -- "the rest is as it was", and no byte is more or less
  pub rest : (log replica work : List ℕ) → Below 256 log → drop 12308 (work_after log replica work) ≡ drop 12308 work
  pub size : (log replica work : List ℕ) → Below 256 log → length (work_after log replica work) ≡ length work
  -- "The work area keeps its bytes on 23 and 15."
  pub kept23 : (log replica work : List ℕ) → is_register replica ≡ false → (promotion log replica work ≡ refused not_register) × (work_after log replica work ≡ work)
  pub kept15 : (log replica work : List ℕ) → is_register replica ≡ true → length work < 12308
      → (promotion log replica work ≡ refused area_too_short) × (work_after log replica work ≡ work)
  -- "A replica that was made from an empty register by replay of the log, to its end, may be promoted."
  pub of_replay : (log work : List ℕ) → Below 256 log → (from_empty log).end ≡ ended → 12308 ≤ length work
      → promotion log (area_replayed empty_register (replay_log log empty_register)) work ≡ granted
  -- "Where the answer is yes, the register that the replay left and the replica are the same bytes."
  pub same_bytes : (log replica work : List ℕ) → Below 256 replica → promotion log replica work ≡ granted
      → take 12308 (work_after log replica work) ≡ replica
  -- "a code shows as out in the replica exactly when, of the log's records that replay applies, the last one about it is an issue, with
  -- that borrower", however it is typed
  pub shows : (log replica work t c : List ℕ) (b : ℕ) → Below 256 log → promotion log replica work ≡ granted → code_bytes t ≡ accept c
      → (ask_text t replica ≡ accept b) ↔ LastIsIssue c b (changes_in log)
  -- "So none that is out shows as on the shelf,"
  pub not_on_shelf : (log replica work t c : List ℕ) (b : ℕ) → Below 256 log → promotion log replica work ≡ granted → code_bytes t ≡ accept c
      → LastIsIssue c b (changes_in log) → ask_text t replica ≡ refuse not_out → ⊥
  -- "and none can be lent twice."
  pub not_twice : (log replica work t c : List ℕ) (b b' : ℕ) → Below 256 log → promotion log replica work ≡ granted → code_bytes t ≡ accept c
      → LastIsIssue c b (changes_in log) → Accepted (issue_text t b' replica) → ⊥
  -- "what the counter did is what the replica shows": a live run from an empty register, and its log
  pub as_counter : (ks : List Call) (log : List ℕ) (w : Written) (replica work : List ℕ) → GoodCalls ks → Below 256 replica
      → write_all (records_made ks empty_register) (record { log = log; position = 0 }) ≡ accept w
      → promotion (take w.position w.log) replica work ≡ granted
      → replica ≡ state_after (changed_area register) (asked_area register) ks empty_register
  -- the numbers that it gives
  pub numbers : (log replica work : List ℕ) (q : Refusal) → verdict_answer (promotion log replica work) ≡ refuse q → (1 ≤ (refusal_number q)) × ((refusal_number q) ≤ 37)
