-- What is promised of the loans register, a field for each sentence; the file of this name in proofs/ proves it. A byte string is a
-- list with `Below 256`.
use Rattle.iscc.specs.Refusals.{refusal_number}
use Rattle.std.specs.Prelude.{ℕ, ◌≤◌, ◌<◌, ◌≡◌, ◌↔◌, true, List, [], length}
use Rattle.iscc.specs.Refusals.{Refusal, not_out, not_register}
use Rattle.iscc.specs.Answer.{accept, refuse, Accepted}
use Rattle.iscc.specs.Digits.{Below}
use Rattle.iscc.specs.Exactly.{Rule, Exactly}
use Rattle.iscc.specs.Doors.{meaning_of_text, code_bytes, intake}
use Rattle.loans.specs.Loan.{Loan, one_code}
use Rattle.loans.specs.Map.{Change, issue_code, return_code, map_changed, map_asked}
use Rattle.loans.specs.Calls.{Call, answers, state_after, issued, returned, borrower_of}
use Rattle.loans.specs.Register.{Register, changed_area, asked_area, call_area}
use Rattle.loans.specs.Numbered.{Contents, loans_of, nothing, map_numbered, map_numbered_asked}
use Rattle.loans.specs.Contents.{register, empty_register}
use Rattle.loans.specs.Good.{Distinct, GoodContents, GoodCalls, Sound}
use Rattle.loans.specs.RefusalOrder.{live_stages, change_call_stages, ask_stages}

-- ---- of any register

-- "Over any calls from an empty register, written by them alone, the answers are those of a plain map of at most 256 codes": of the map
-- with the number of its last change, whose 26 is the register's; so, as long as there are no more calls than numbers, of the map alone
pub record AsPlainMap {S : Type 0} (r : Register S) (empty : List ℕ) : Type 0 where
  pub numbered : (ks : List Call) → GoodCalls ks → answers (changed_area r) (asked_area r) ks empty ≡ answers map_numbered map_numbered_asked ks nothing
  pub plain : (ks : List Call) → GoodCalls ks → length ks ≤ 4294967295 → answers (changed_area r) (asked_area r) ks empty ≡ answers map_changed map_asked ks []

-- "An area that only these calls have written since it was an empty register stays one: none of them answers 23."
pub record StaysRegister {S : Type 0} (r : Register S) (empty : List ℕ) : Type 0 where
  pub valid : (ks : List Call) → GoodCalls ks → r.valid (state_after (changed_area r) (asked_area r) ks empty) ≡ true
  pub never : (ks : List Call) (k : Call) → GoodCalls ks
      → (call_area r k (state_after (changed_area r) (asked_area r) ks empty)).answer ≡ refuse not_register → ⊥

-- "Codes that mean the same are one entry, however they are typed."
pub record OneEntry {S : Type 0} (r : Register S) : Type 0 where
  -- two texts that mean the same are the same text to each call
  pub issues : (t u : List ℕ) (b : ℕ) (area : List ℕ) → meaning_of_text t ≡ meaning_of_text u → issued (changed_area r) t b area ≡ issued (changed_area r) u b area
  pub returns : (t u area : List ℕ) → meaning_of_text t ≡ meaning_of_text u → returned (changed_area r) t area ≡ returned (changed_area r) u area
  pub questions : (t u area : List ℕ) → meaning_of_text t ≡ meaning_of_text u → borrower_of (asked_area r) t area ≡ borrower_of (asked_area r) u area
  -- what one of them issued, the other finds,
  pub found : (t u : List ℕ) (b : ℕ) (area area' : List ℕ) → Below 256 area → b < 4294967296 → issued (changed_area r) t b area ≡ accept area'
      → meaning_of_text t ≡ meaning_of_text u → borrower_of (asked_area r) u area' ≡ accept b
  -- and so does the text that intake writes for it;
  pub as_written : (t out : List ℕ) (b : ℕ) (area area' : List ℕ) → Below 256 area → b < 4294967296 → issued (changed_area r) t b area ≡ accept area'
      → intake t 73 ≡ accept out → borrower_of (asked_area r) out area' ≡ accept b
  -- what one of them took back, the other does not find;
  pub gone : (t u area area' : List ℕ) → Below 256 area → returned (changed_area r) t area ≡ accept area'
      → meaning_of_text t ≡ meaning_of_text u → borrower_of (asked_area r) u area' ≡ refuse not_out
  -- a question about another meaning is answered as before
  pub issue_keeps : (t u : List ℕ) (b : ℕ) (area area' : List ℕ) → Below 256 area → b < 4294967296 → issued (changed_area r) t b area ≡ accept area'
      → (meaning_of_text t ≡ meaning_of_text u → ⊥) → borrower_of (asked_area r) u area' ≡ borrower_of (asked_area r) u area
  pub return_keeps : (t u area area' : List ℕ) → Below 256 area → returned (changed_area r) t area ≡ accept area'
      → (meaning_of_text t ≡ meaning_of_text u → ⊥) → borrower_of (asked_area r) u area' ≡ borrower_of (asked_area r) u area

-- "A refusal changes no byte of the register."
abbrev pub KeptWhereRefused : {S : Type 0} → Register S → Type 0
KeptWhereRefused r = (k : Call) (area : List ℕ) (q : Refusal) → (call_area r k area).answer ≡ refuse q → (call_area r k area).state ≡ area

-- each number is given exactly when its rule is the first that is broken, in the order of the call's tests (RefusalOrder.antt)
pub record CallTests {S : Type 0} (r : Register S) (own : Change → S → List (List Rule)) (loans : S → List Loan) : Type 0 where
  pub issues : (t : List ℕ) (b : ℕ) (area : List ℕ) → Exactly (change_call_stages r own (λ c. issue_code c b) t area) (issued (changed_area r) t b area)
  pub returns : (t area : List ℕ) → Exactly (change_call_stages r own return_code t area) (returned (changed_area r) t area)
  pub questions : (t area : List ℕ) → Exactly (ask_stages r loans t area) (borrower_of (asked_area r) t area)

-- a refusal bears a number from 1 to 26, a question's one to 23, and so none is taken for success
pub record CallNumbers {S : Type 0} (r : Register S) : Type 0 where
  pub issue_number : (t : List ℕ) (b : ℕ) (area : List ℕ) (q : Refusal) → issued (changed_area r) t b area ≡ refuse q → (1 ≤ (refusal_number q)) × ((refusal_number q) ≤ 26)
  pub return_number : (t area : List ℕ) (q : Refusal) → returned (changed_area r) t area ≡ refuse q → (1 ≤ (refusal_number q)) × ((refusal_number q) ≤ 26)
  pub ask_number : (t area : List ℕ) (q : Refusal) → borrower_of (asked_area r) t area ≡ refuse q → (1 ≤ (refusal_number q)) × ((refusal_number q) ≤ 23)

-- "Room that was given back is used again.", where a number is left to take
abbrev pub RoomAgain : {S : Type 0} → Register S → (S → ℕ) → Type 0
RoomAgain r last = (t u : List ℕ) (b : ℕ) (area area' : List ℕ) → Below 256 area → returned (changed_area r) t area ≡ accept area'
    → borrower_of (asked_area r) u area' ≡ refuse not_out → last (r.contents area') < 4294967295 → Accepted (issued (changed_area r) u b area')

-- ---- of this one

pub record LoansRegister : Type 1 where
  pub as_plain_map : AsPlainMap register empty_register
  -- "a plain map of at most 256 codes": none of which it has twice
  pub at_most : (ks : List Call) → GoodCalls ks → length (state_after map_changed map_asked ks []) ≤ 256
  pub a_map : (ks : List Call) → GoodCalls ks → Distinct (state_after map_changed map_asked ks [])
  pub stays : StaysRegister register empty_register
  pub one_entry : OneEntry register
  pub room_again : RoomAgain register (λ (s : Contents). s.last)
  -- 23: what may stand in a place is exactly the code of some text,
  pub codes : (c : List ℕ) → Below 256 c → (one_code c ≡ true) ↔ ((t : List ℕ) × (code_bytes t ≡ accept c))
  -- and the areas that get none are exactly the bytes of good contents
  pub areas : Sound register GoodContents
  pub tests : CallTests register live_stages loans_of
  pub numbers : CallNumbers register
  pub kept : KeptWhereRefused register
