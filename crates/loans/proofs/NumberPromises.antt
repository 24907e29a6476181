-- What is promised of the record numbers holds.
use Prim.Native.Nat.{ℕ, suc}
use mathlib.Core.Path.{◌≡◌, refl, sym, ◌∙◌, ap}
use mathlib.Core.List.{List, [], append-nil}
use lib.ListN.{take, drop, take-append-drop}
use Rattle.iscc.specs.Refusals.{not_register}
use Rattle.iscc.specs.Answer.{accept, ◌>>=◌}
use Rattle.iscc.specs.Digits.{Below}
use Rattle.iscc.specs.Doors.{code_bytes}
use Rattle.iscc.proofs.Digits.{below-take}
use Rattle.iscc.proofs.Answer.{passed, answered, accept-inj}
use Rattle.loans.specs.Map.{Change, issue_code, return_code}
use Rattle.loans.specs.Calls.{issued, returned}
use Rattle.loans.specs.Register.{changed_area}
use Rattle.loans.specs.Contents.{contents_of, is_register, bytes_of, changed_loans, applied, register}
use Rattle.loans.specs.Good.{IsCode, GoodChange}
use Rattle.loans.specs.Numbered.{Contents}
use Rattle.loans.specs.NumberPromises.{RecordNumbers}
use Rattle.loans.proofs.Loan.{code_in}
use Rattle.loans.proofs.Contents.{register-sound, applied-good}
use Rattle.loans.proofs.Numbered.{taken}
use Rattle.loans.proofs.Again.{part-then-whole, again-later}

takes : (of : List ℕ → Change) → ((c : List ℕ) → IsCode c → GoodChange (of c)) → (t area area' : List ℕ) → Below 256 area
    → (code_bytes t >>= λ c. changed_area register (of c) area) ≡ accept area' → (contents_of area').last ≡ suc (contents_of area).last
unfolding changed_area
takes of f t area area' k e =
    let w = answered (code_bytes t) (λ c. changed_area register (of c) area) e in
    let p = passed (is_register area) not_register _ w.2 in
    let a = answered (applied (of w.0) (contents_of area)) (λ s. accept (bytes_of s)) p.1 in
    let g = applied-good (of w.0) (contents_of area) a.0 (f w.0 (code_in t w.0 w.1)) (register-sound.good area k p.0) a.1 in
    ap (λ (d : List ℕ). (contents_of d).last) (sym (accept-inj a.2)) ∙ ap (λ (s : Contents). s.last) (register-sound.back a.0 g)
    ∙ (taken changed_loans (of w.0) (contents_of area) a.0 a.1).last

pub record-numbers : RecordNumbers
unfolding issued returned
record-numbers =
    record {
      second = λ log area after k l e. rw (append-nil log) at (part-then-whole log area _ k l e []) ∙ e;
      later = λ log area after now k l m e v h. again-later log area _ k l e refl now m v h;
      prefix_then_whole = λ log area j x k l e. rw (take-append-drop j log) at (part-then-whole (take j log) area x (below-take 256 j log k) l e (drop j log));
      issue_takes = λ t b area area' k h e. takes (λ c. issue_code c b) (λ c i. record { code = i; borrower = h }) t area area' k e;
      return_takes = λ t area area' k e. takes (λ c. return_code c) (λ c i. i) t area area' k e;
    }
