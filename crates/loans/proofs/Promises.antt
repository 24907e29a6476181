-- What is promised of the loans register holds.
use Prim.Native.Nat.{ℕ, suc, ◌≤◌, ◌<◌}
use mathlib.Core.Path.{◌≡◌, refl, sym, ◌∙◌, ap}
use mathlib.Core.Logic.{◌↔◌, inl, inr}
use mathlib.Core.Bool.{true, false}
use mathlib.Core.Option.{Option, none, some}
use mathlib.Core.List.{List, []}
use native.Mathlib.Omega.{arith}
use lib.ListN.{length}
use lib.Dec.{ltb}
use borrow.Author.Tests.{lt-ltb}
use Rattle.iscc.specs.Refusals.{Refusal, not_out, not_register}
use Rattle.iscc.specs.Answer.{Answer, accept, refuse, Accepted}
use Rattle.iscc.specs.Digits.{Below}
use Rattle.iscc.specs.Exactly.{Rule}
use Rattle.iscc.specs.Doors.{code_bytes}
use Rattle.iscc.proofs.Answer.{passed, answered, accept-inj, never, bind-refused}
use Rattle.iscc.proofs.Steps.{By}
use Rattle.iscc.proofs.Exactly.{exactly}
use Rattle.loans.specs.Loan.{Loan, is_out, is_some, without, find, one_code}
use Rattle.loans.specs.Map.{Change, return_code, change_with, map_changed, map_asked, holder_of, issue_code}
use Rattle.loans.specs.Calls.{Call, issue, take_back, ask, state_after, result_of, issued, returned, borrower_of}
use Rattle.loans.specs.Halving.{searched, borrower_found, asked_loans}
use Rattle.loans.specs.Register.{Register, changed_area, asked_area}
use Rattle.loans.specs.Numbered.{Contents, loans_of, nothing, taking_next}
use Rattle.loans.specs.Contents.{places_part, contents_of, is_register, bytes_of, changed_loans, applied, register, empty_register}
use Rattle.loans.specs.Good.{IsCode, GoodContents, GoodCalls}
use Rattle.loans.specs.RefusalOrder.{live_stages}
use Rattle.loans.specs.Promises.{LoansRegister, AsPlainMap, StaysRegister, KeptWhereRefused, CallTests, CallNumbers, RoomAgain}
use Rattle.loans.proofs.Loan.{code_in, code-text, length_without}
use Rattle.loans.proofs.Numbered.{taken, plain-answers}
use Rattle.loans.proofs.Contents.{HeldList, HeldContents, held-good, contents-rising, register-sound, nothing-held, empty-held, register-alike, register-changes, list-changes, applied-good, asks-find, list-asks, register-asks}
use Rattle.loans.proofs.RefusalOrder.{live-by, issue-by, return-by, question-by}
use Rattle.loans.proofs.Calls.{AllAlike, all_alike, is-valid}
use Rattle.loans.proofs.Entries.{one_entry}
use Rattle.loans.proofs.Numbers.{Within, text-numbers, own-numbers, answer-numbers, issue-numbers, return-numbers, ask-numbers, never-23}
use Rattle.loans.proofs.OrderedPlaces.{loans-few}

-- ---- of any register

kept_result : {S : Type 0} (s : S) (x : Answer S) (q : Refusal) → (result_of s x).answer ≡ refuse q → (result_of s x).state ≡ s
kept_result s (accept a) q e = absurd (never (sym e))
kept_result s (refuse p) q e = refl

pub kept : {S : Type 0} (r : Register S) → KeptWhereRefused r
kept r (issue t b) area q e = kept_result area (issued (changed_area r) t b area) q e
kept r (take_back t) area q e = kept_result area (returned (changed_area r) t area) q e
kept r (ask t) area q e = refl

pub call-tests : {S : Type 0} (r : Register S) (own : Change → S → List (List Rule)) (loans : S → List Loan)
    → ((ch : Change) (s : S) → By (own ch s) (r.changes ch s))
    → ((c area : List ℕ) → r.valid area ≡ true → r.asks c (r.contents area) ≡ holder_of (find c (loans (r.contents area))))
    → CallTests r own loans
call-tests r own loans f g =
    record {
      issues = λ t b area. exactly _ _ (issue-by r own f t b area);
      returns = λ t area. exactly _ _ (return-by r own f t area);
      questions = λ t area. exactly _ _ (question-by r loans t area (λ c v. g c area v));
    }

-- ---- of this one

-- the map alone, beside lists in order
map-alike : (ks : List Call) → GoodCalls ks → AllAlike changed_loans asked_loans map_changed map_asked HeldList ks [] []
map-alike ks g = all_alike changed_loans asked_loans map_changed map_asked HeldList list-changes list-asks ks [] [] g nothing-held.list

at-most : (ks : List Call) → GoodCalls ks → length (state_after map_changed map_asked ks []) ≤ 256
at-most ks g = let h = (map-alike ks g).state in omega (arith, h.good.count, h.same.sizes)

-- what may stand in a place
codes : (c : List ℕ) → Below 256 c → (one_code c ≡ true) ↔ ((t : List ℕ) × (code_bytes t ≡ accept c))
codes c k = (code-text c k, λ w. (code_in w.0 c w.1).one)

asks : (c : List ℕ) (s : Contents) (q : Refusal) → asked_loans c s.loans ≡ refuse q → Within 20 22 q
asks c s = answer-numbers (borrower_found (searched c s.loans) s.loans)

stays : StaysRegister register empty_register
stays =
    let v : (ks : List Call) → GoodCalls ks → is_register (state_after (changed_area register) (asked_area register) ks empty_register) ≡ true =
    λ ks g. is-valid register GoodContents register-sound HeldContents held-good _ _ (register-alike ks empty_register nothing g empty-held).state in
    record {
      valid = v;
      never =
          λ ks k g. never-23 register own-numbers asks
          (state_after (changed_area register) (asked_area register) ks empty_register) (v ks g) k;
    }

-- a return leaves a place, so that an issue of a code that is not out is accepted
code-room : (c d : List ℕ) (b : ℕ) (area area' : List ℕ) → IsCode c → Below 256 area → changed_area register (return_code c) area ≡ accept area'
    → asked_area register d area' ≡ refuse not_out → (contents_of area').last < 4294967295 → Accepted (changed_area register (issue_code d b) area')
unfolding changed_area change_with taking_next asked_area
code-room c d b area area' j k e n u =
    let ls : List Loan = (contents_of area).loans in
    let ms : List Loan = (contents_of area').loans in
    let p = passed (is_register area) not_register _ e in
    let a = answered (applied (return_code c) (contents_of area)) (λ s. accept (bytes_of s)) p.1 in
    let l = taken changed_loans (return_code c) (contents_of area) a.0 a.1 in
    let q = passed (is_out c ls) not_out _ l.loans in
    let g = applied-good (return_code c) (contents_of area) a.0 j (register-sound.good area k p.0) a.1 in
    let v : is_register area' ≡ true = ap is_register (sym (accept-inj a.2)) ∙ register-sound.valid a.0 g in
    let h : ms ≡ without c ls = ap (λ (x : List ℕ). (contents_of x).loans) (sym (accept-inj a.2)) ∙ ap loans_of (register-sound.back a.0 g) ∙ sym (accept-inj q.1) in
    let w : suc (length (without c ls)) ≡ length ls = length_without c ls q.0 in
    let m : length ls ≤ 256 = loans-few (places_part area) in
    let i : length ms ≡ length (without c ls) = ap length h in
    let r : ltb (length ms) 256 ≡ true = lt-ltb (length ms) 256 (omega arith) in
    let x : holder_of (find d ms) ≡ refuse not_out = sym (asks-find d ms (contents-rising area' v)) ∙ (rw v at n) in
    let o : is_out d ms ≡ false = ap is_some (none-by (find d ms) x) in
    rw (v, lt-ltb (contents_of area').last 4294967295 u, o, r) tt
  where
    none-by : (o : Option ℕ) → holder_of o ≡ refuse not_out → o ≡ none
    none-by none e = refl
    none-by (some b) e = absurd (never (sym e))

room-again : RoomAgain register (λ (s : Contents). s.last)
unfolding returned borrower_of issued
room-again t u b area area' k e n l =
    let w = answered (code_bytes t) (λ c. changed_area register (return_code c) area) e in
    elim (bind-refused (code_bytes u) (λ d. asked_area register d area') n) [
      | inl x ↦ absurd (omega (arith, (text-numbers u not_out x).1))
      | inr x ↦ rw x.1 (code-room w.0 x.0 b area area' (code_in t w.0 w.1) k w.2 x.2 l)
    ]

as-plain-map : AsPlainMap register empty_register
as-plain-map =
    record {
      numbered = λ ks g. (register-alike ks empty_register nothing g empty-held).given;
      plain = λ ks g l. (register-alike ks empty_register nothing g empty-held).given ∙ plain-answers ks nothing (omega (arith, l));
    }

numbers : CallNumbers register
numbers =
    record {
      issue_number = λ t b area q e. issue-numbers register own-numbers asks area t b q e;
      return_number = λ t area q e. return-numbers register own-numbers asks area t q e;
      ask_number = λ t area q e. ask-numbers register own-numbers asks area t q e;
    }

pub loans-register : LoansRegister
loans-register =
    record {
      as_plain_map = as-plain-map;
      at_most = at-most;
      a_map = λ ks g. (map-alike ks g).state.distinct;
      stays = stays;
      one_entry = one_entry register register-sound register-changes register-asks;
      room_again = room-again;
      codes = codes;
      areas = register-sound;
      tests = call-tests register live_stages loans_of live-by (λ c area v. asks-find c (contents_of area).loans (contents-rising area v));
      numbers = numbers;
      kept = kept register;
    }
