-- A record that is always written: its code is one, its number is not 0, and 53 bytes are enough for it.
use Prim.Native.Nat.{ℕ, ◌+◌, ◌-◌, ◌≤◌, ◌<◌}
use mathlib.Core.Path.{◌≡◌, sym, ◌∙◌, ap, subst}
use mathlib.Core.Bool.{true, false}
use mathlib.Core.List.{List, ◌++◌}
use native.Mathlib.Omega.{arith}
use lib.ListN.{length, take, drop, length-append}
use lib.Dec.{eqb, leb}
use borrow.Author.Tests.{ne_eqb, le-leb}
use Rattle.iscc.specs.Answer.{Answer, accept, is_accepted}
use Rattle.iscc.specs.Digits.{digits}
use Rattle.iscc.specs.Doors.{code_bytes}
use Rattle.std.specs.Prelude.{Result, Ok, is_ok}
use Rattle.iscc.specs.Refusals.{Refusal}
use Rattle.iscc.specs.Representation.{CodeRead, code_as, code_read_as}
use Rattle.iscc.specs.declared.code.Code.{Code}
use Rattle.iscc.proofs.Answer.{accept-inj}
use Rattle.iscc.proofs.Digits.{length_digits}
use Rattle.door.proofs.Answers.{Held, code-held}
use Rattle.loans.specs.Map.{Change, issue_code, return_code}
use Rattle.loans.specs.Moves.{pasted}
use Rattle.loans.specs.Writer.{Written, appended, written_after}
use Rattle.loans.specs.Loan.{one_code}
use Rattle.loans.specs.Good.{IsCode, GoodChange}
use Rattle.loans.specs.Records.{code_of, body_of}
use Rattle.loans.specs.PendingLog.{record_of, write_record}
use Rattle.loans.proofs.Loan.{accepted-by, code_in}
use Rattle.loans.proofs.Records.{body-length}
use Rattle.loans.proofs.Fields.{length-field}
use Rattle.pending_log.specs.Representation.{appended_as}
use Rattle.answers.specs.Answers.{value_of}
use Rattle.hall.specs.Serving.{code_of_typed}
use Rattle.hall.specs.Said.{record_bytes}

-- ---- a record in front of an area of 53 bytes

-- what the code tells of it, and what its contract says
abbrev Appends : ℕ → Change → List ℕ → Result ℕ Refusal → List ℕ → Type 0
Appends number ch log a d =
    (a ≡ appended_as (write_record (record { number = number; change = ch }) log 0))
    × (d ≡ (written_after log 0 (write_record (record { number = number; change = ch }) log 0)).log)

abbrev Put : ℕ → Change → List ℕ → ℕ → List ℕ → Type 0
Put number ch log n d = (n ≡ length (record_bytes ch number)) × (d ≡ record_bytes ch number ++ drop n log)

module _ (number : ℕ) (some : 0 < number) (ch : Change) (good : GoodChange ch) (one : one_code (code_of ch) ≡ true)
    (log : List ℕ) (room : length log ≡ 53) where
  abbrev bytes : List ℕ
  bytes = record_bytes ch number

  fits : length bytes ≤ 53
  fits =
      let h = length-append (digits 8 4 number) (body_of ch) in
      omega (arith, length-field (record_of (record { number = number; change = ch })), h, length_digits 8 4 number, body-length ch good)

  written :
      write_record (record { number = number; change = ch }) log 0
      ≡ accept (record { log = bytes ++ drop (length bytes) log; position = length bytes })
  unfolding write_record appended pasted
  written =
      let z : eqb number 0 ≡ false = ne_eqb number 0 (λ e. omega (arith, e, some)) in
      let p : 0 + length bytes ≡ length bytes = omega arith in
      let f : leb (length bytes) (length log) ≡ true = le-leb (length bytes) (length log) (omega (arith, fits, room)) in
      rw (one, z, p, f)

  accepted-there : (a : Result ℕ Refusal) (d : List ℕ) → Appends number ch log a d → a ≡ Ok (length bytes)
  accepted-there a d t = t.0 ∙ ap appended_as written

  put : (a : Result ℕ Refusal) (d : List ℕ) → Appends number ch log a d → (n : ℕ) → a ≡ Ok n → Put number ch log n d
  put a d t n e =
      let s = accepted-there a d t in
      let n : n ≡ length bytes = cc in
      (n, t.1 ∙ ap (λ (x : Answer Written). (written_after log 0 x).log) written ∙ ap (λ (k : ℕ). bytes ++ drop k log) (sym n))

-- ---- the code of a text that was accepted, as it is handed over

value-accepted : (x : Answer (List ℕ)) → is_accepted x ≡ true → x ≡ accept (value_of x)
value-accepted x e = let r = accepted-by x e in r.1 ∙ ap accept (sym (ap value_of r.1))

typed : (t : List ℕ) → is_accepted (code_bytes t) ≡ true → code_bytes t ≡ accept (code_of_typed t)
typed t ok = value-accepted (code_bytes t) ok

-- the text's code is read
pub is-read : (t : List ℕ) (k : ℕ) {r : CodeRead} → r ≡ code_read_as k (code_bytes t) → is_accepted (code_bytes t) ≡ true → r ≡ Ok (code_as (code_of_typed t))
is-read t k e ok = e ∙ ap (code_read_as k) (typed t ok)

pub value-is : (t : List ℕ) (k : ℕ) {r : CodeRead} (c : Code) → r ≡ code_read_as k (code_bytes t) → is_accepted (code_bytes t) ≡ true → r ≡ Ok c → c ≡ code_as (code_of_typed t)
value-is t k c e ok f = let s = is-read t k e ok in cc

module _ (t : List ℕ) (c : Code) (of : c ≡ code_as (code_of_typed t)) (ok : is_accepted (code_bytes t) ≡ true) where
  is_code : IsCode (code_of_typed t)
  is_code = code_in t (code_of_typed t) (typed t ok)

  held : Held (accept (code_of_typed t)) c.bytes c.length
  held = code-held 0 (accept (code_of_typed t)) c (ap Ok of)

  pub code_fits : c.length ≤ length c.bytes
  code_fits = held.1

  abbrev handed : List ℕ
  handed = take (c.length - 0) c.bytes

  handed-is : handed ≡ code_of_typed t
  handed-is = accept-inj (sym held.0)

  module _ (number : ℕ) (some : 0 < number) (log : List ℕ) (room : length log ≡ 53) (a : Result ℕ Refusal) (d : List ℕ) where
    pub issue-written : (b : ℕ) → b < 4294967296 → Appends number (issue_code handed b) log a d → is_ok a ≡ true
    issue-written b h e =
        ap is_ok (accepted-there number some (issue_code (code_of_typed t) b) (record { code = is_code; borrower = h }) is_code.one log room a d
        (subst (λ (c : List ℕ). Appends number (issue_code c b) log a d) handed-is e))

    pub return-written : Appends number (return_code handed) log a d → is_ok a ≡ true
    return-written e =
        ap is_ok (accepted-there number some (return_code (code_of_typed t)) is_code is_code.one log room a d
        (subst (λ (c : List ℕ). Appends number (return_code c) log a d) handed-is e))

    pub issue-put : (b : ℕ) → b < 4294967296 → Appends number (issue_code handed b) log a d → (n : ℕ) → a ≡ Ok n
        → Put number (issue_code (code_of_typed t) b) log n d
    issue-put b h e n w =
        put number some (issue_code (code_of_typed t) b) (record { code = is_code; borrower = h }) is_code.one log room a d
        (subst (λ (c : List ℕ). Appends number (issue_code c b) log a d) handed-is e) n w

    pub return-put : Appends number (return_code handed) log a d → (n : ℕ) → a ≡ Ok n → Put number (return_code (code_of_typed t)) log n d
    return-put e n w =
        put number some (return_code (code_of_typed t)) is_code is_code.one log room a d
        (subst (λ (c : List ℕ). Appends number (return_code c) log a d) handed-is e) n w
