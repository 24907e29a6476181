-- What a promotion promises, over what `loans_promote` tells C and leaves in the work area, as its contract has it, and over what the
-- entries of the register then tell of the replica. proofs/Promotion.antt proves it.
use Rattle.std.specs.Prelude.{ℕ, ◌≡◌, ◌↔◌, List, take}
use Rattle.iscc.specs.Answer.{accept}
use Rattle.iscc.specs.Digits.{Below}
use Rattle.iscc.specs.Doors.{code_bytes}
use Rattle.loans.specs.Contents.{issue_text, ask_text, looks_text}
use Rattle.loans.specs.Replay.{torn}
use Rattle.loans.specs.Promotion.{from_empty, promotion, work_after}
use Rattle.loans.specs.PromotionPromises.{May, LoansApart, LastAlone, Admitted, LastIsIssue, changes_in}
use Rattle.console.specs.declared.promoting.PromotionAnswer.{PromotionAnswer}
use Rattle.console.specs.Representation.{change_answer_as, holder_answer_as, promotion_answer_as}

abbrev pub told : List ℕ → List ℕ → List ℕ → PromotionAnswer
told log replica work = promotion_answer_as (promotion log replica work)

-- the code that is told: as many bytes as its length says
abbrev pub code_in : PromotionAnswer → List ℕ
code_in a = take a.code_length a.code

pub record ConsolePromotion : Type 0 where
  -- "The answer is yes, number 0, exactly if"
  pub yes : (log replica work : List ℕ) → Below 256 log → ((told log replica work).number ≡ 0) ↔ May log replica work
  -- "37 tells the least code, in byte order, that is held by one register only or with another borrower."
  pub code : (log replica work : List ℕ) → Below 256 log → (told log replica work).number ≡ 37 → LoansApart log replica work (code_in (told log replica work))
  -- 36 tells "where the torn record starts"
  pub torn : (log replica work : List ℕ) → (told log replica work).number ≡ 36 → Admitted replica work × ((from_empty log).end ≡ torn (told log replica work).offset)
  -- 27: "only the last numbers differ"
  pub last_alone : (log replica work : List ℕ) → (told log replica work).number ≡ 27 → LastAlone log replica work
  -- "Where the answer is yes, the register that the replay left and the replica are the same bytes."
  pub same_bytes : (log replica work : List ℕ) → Below 256 replica → (told log replica work).number ≡ 0 → take 12308 (work_after log replica work) ≡ replica
  -- "a code shows as out in the replica exactly when, of the log's records that replay applies, the last one about it is an issue, with
  -- that borrower"
  pub shows : (log replica work t c : List ℕ) (b : ℕ) → Below 256 log → (told log replica work).number ≡ 0 → code_bytes t ≡ accept c
      → let a = holder_answer_as (ask_text t replica) (looks_text t replica) in ((a.number ≡ 0) × (a.borrower ≡ b)) ↔ LastIsIssue c b (changes_in log)
  -- "and none can be lent twice."
  pub not_twice : (log replica work t c : List ℕ) (b b' : ℕ) → Below 256 log → (told log replica work).number ≡ 0 → code_bytes t ≡ accept c
      → LastIsIssue c b (changes_in log) → (change_answer_as (issue_text t b' replica)).number ≡ 0 → ⊥
