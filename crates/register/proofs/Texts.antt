-- The calls by text: what they come to where the text has a code, and where it has none.
use Rattle.iscc.specs.Detailed.{with_detail}
use Rattle.std.specs.Prelude.{Ok, Err}
use Prim.Native.Nat.{ℕ, ◌-◌, ◌≤◌}
use mathlib.Core.Path.{◌≡◌, refl, sym, ◌∙◌, ap, subst}
use mathlib.Core.Bool.{Bool, true, false}
use mathlib.Core.List.{List}
use lib.ListN.{length, take}
use Rattle.iscc.specs.Refusals.{Refusal, not_register}
use Rattle.iscc.specs.Answer.{Answer, accept, refuse, ◌>>=◌, ◌>>◌, ◌otherwise◌, number_of}
use Rattle.iscc.specs.Doors.{code_bytes}
use Rattle.iscc.specs.Representation.{code_read_as}
use Rattle.iscc.specs.Representation.{CodeRead}
use Rattle.iscc.specs.declared.code.Code.{Code}
use Rattle.iscc.specs.declared.refusal.DetailedRefusal.{DetailedRefusal}
use Rattle.iscc.proofs.Answer.{passed, answered, accept-inj, refuse-inj, never}
use Rattle.door.specs.Codes.{code_detail}
use Rattle.door.proofs.Answers.{code-held, code-not}
use Rattle.loans.specs.Loan.{one_code}
use Rattle.loans.proofs.Loan.{code_in}
use Rattle.loans.specs.Map.{Change, issue_code, return_code}
use Rattle.loans.specs.Calls.{issued, returned, borrower_of, afterwards}
use Rattle.loans.specs.Register.{changed_area, asked_area}
use Rattle.loans.specs.Contents.{is_register, contents_of, register, reported, issue_text, return_text, number_taken, ask_text, looks_text}
use Rattle.loans.specs.Halving.{looks}
use Rattle.loans.proofs.OrderPromises.{register-in-order}
use Rattle.register.specs.Representation.{Changed}
use Rattle.register.specs.declared.answer.Asked.{Asked}
use Rattle.register.specs.Representation.{holder_as, asked_as, holder_number, holder_borrower, borrower_in, changed_as, changed_number, changed_record}
use Rattle.register.specs.Admitted.{admitted, admitted_detail}
use Rattle.register.proofs.Changes.{Told}

-- what was told of one answer is told of an equal one
same-told : (x x' : Answer (List ℕ)) (area : List ℕ) (y : Changed) (d : List ℕ) → x ≡ x' → Told x' area y d → Told x area y d
same-told x x' area y d e t = subst (λ (z : Answer (List ℕ)). Told z area y d) (sym e) t

told-refusal : (x : Answer (List ℕ)) (area : List ℕ) (q : Refusal) → x ≡ refuse q → Told x area (Err q) area
told-refusal x area q e = same-told x (refuse q) area (Err q) area e (refl, refl)

-- ---- with the numbers of the answers

-- what a call by text tells
abbrev pub ToldBy : Answer (List ℕ) → List ℕ → Changed → List ℕ → Type 0
ToldBy x area y d = (y ≡ changed_as x) × ((changed_number y ≡ number_of x) × ((changed_record y ≡ number_taken x) × (d ≡ afterwards area x)))

changed-numbers : (x : Answer (List ℕ)) → (changed_number (changed_as x) ≡ number_of x) × (changed_record (changed_as x) ≡ number_taken x)
changed-numbers (accept bs) = (refl, refl)
changed-numbers (refuse q) = (refl, refl)

by-text : (x : Answer (List ℕ)) (area : List ℕ) (y : Changed) (d : List ℕ) → Told x area y d → ToldBy x area y d
by-text x area y d t = let n = changed-numbers x in (t.0, (ap changed_number t.0 ∙ n.0, (ap changed_record t.0 ∙ n.1, t.1)))

-- what a question by text tells
abbrev pub AskTold : List ℕ → List ℕ → Asked → Type 0
AskTold t area y =
    (y ≡ asked_as (ask_text t area) (looks_text t area))
    × ((holder_number y.holder ≡ number_of (ask_text t area))
    × ((holder_borrower y.holder ≡ borrower_in (ask_text t area)) × ((y.looks ≡ looks_text t area) × (y.looks ≤ 9))))

holder-number : (x : Answer ℕ) → (holder_number (holder_as x) ≡ number_of x) × (holder_borrower (holder_as x) ≡ borrower_in x)
holder-number (accept b) = (refl, refl)
holder-number (refuse q) = (refl, refl)

ask-by-text : (t area : List ℕ) (y : Asked) → y ≡ asked_as (ask_text t area) (looks_text t area) → AskTold t area y
ask-by-text t area y e =
    let h : y.holder ≡ holder_as (ask_text t area) = ap (λ (a : Asked). a.holder) e in
    let l : y.looks ≡ looks_text t area = ap (λ (a : Asked). a.looks) e in
    let n = holder-number (ask_text t area) in
    (e, (ap holder_number h ∙ n.0, (ap holder_borrower h ∙ n.1, (l, subst (λ (k : ℕ). k ≤ 9) (sym l) (register-in-order.looks.nine t area)))))

-- ---- the code of a text, where the area is a register

admitted-bound : (t area c : List ℕ) → admitted t area ≡ accept c → (code_bytes t ≡ accept c) × (is_register area ≡ true)
unfolding admitted
admitted-bound t area c e =
    let w = answered (code_bytes t) (λ d. is_register area otherwise not_register >> accept d) e in
    let p = passed (is_register area) not_register (accept w.0) w.2 in
    (w.1 ∙ ap accept (accept-inj p.1), p.0)

-- where it is refused, so is whatever tests 23 behind the text
admitted-refused : {A : Type 0} (t area : List ℕ) (q : Refusal) (f : List ℕ → Answer A) → ((c : List ℕ) → is_register area ≡ false → f c ≡ refuse not_register)
    → admitted t area ≡ refuse q → (code_bytes t >>= f) ≡ refuse q
unfolding admitted
admitted-refused t area q f h e = go (code_bytes t) (is_register area) refl e
  where
    go : (x : Answer (List ℕ)) (b : Bool) → is_register area ≡ b → (x >>= λ c. b otherwise not_register >> accept c) ≡ refuse q → (x >>= f) ≡ refuse q
    go (refuse p) b v e = ap refuse (refuse-inj e)
    go (accept c) true v e = absurd (never (sym e))
    go (accept c) false v e = h c v ∙ ap refuse (refuse-inj e)

-- the call's three ways: no code, a code but no register, both
module _ (t area : List ℕ) {r : CodeRead} (of : r ≡ code_read_as (code_detail t) (code_bytes t)) where
  pub not-read : (f : DetailedRefusal) → r ≡ Err f → ◌≡◌ {A = CodeRead} (Err f) (code_read_as (admitted_detail t) (admitted t area))
  unfolding admitted admitted_detail
  not-read f e = let o : code_bytes t ≡ refuse f.refusal = code-not (code_detail t) (code_bytes t) f (sym e ∙ of) in sym e ∙ of ∙ rw o

  module _ (c : Code) (found : r ≡ Ok c) (b : Bool) (tested : b ≡ is_register area) where
    is_code : code_bytes t ≡ accept (take (c.length - 0) c.bytes)
    is_code = (code-held (code_detail t) (code_bytes t) c (sym found ∙ of)).0

    pub not_register-is : b ≡ false → (s : CodeRead) → s ≡ code_read_as 0 (refuse not_register) → s ≡ code_read_as (admitted_detail t) (admitted t area)
    unfolding admitted admitted_detail
    not_register-is n s e = let o : is_register area ≡ false = sym tested ∙ n in e ∙ rw (is_code, o)

    pub both-there : b ≡ true → ◌≡◌ {A = CodeRead} (Ok c) (code_read_as (admitted_detail t) (admitted t area))
    unfolding admitted admitted_detail
    both-there y = let o : is_register area ≡ true = sym tested ∙ y in sym found ∙ of ∙ rw (is_code, o)

changed-not : (ch : Change) (area : List ℕ) → is_register area ≡ false → changed_area register ch area ≡ refuse not_register
unfolding changed_area
changed-not ch area v = rw v

asked-not : (c area : List ℕ) → is_register area ≡ false → asked_area register c area ≡ refuse not_register
unfolding asked_area
asked-not c area v = rw v

looks-not : (c area : List ℕ) → is_register area ≡ false → (is_register area otherwise not_register >> accept (looks c (contents_of area).loans)) ≡ refuse not_register
looks-not c area v = rw v

-- ---- the calls

module _ (t area : List ℕ) (k : ℕ) {r : CodeRead} (of : r ≡ code_read_as k (admitted t area)) where
  module _ (f : DetailedRefusal) (e : r ≡ Err f) where
    abbrev q : Refusal
    q = f.refusal

    refused : {A : Type 0} (g : List ℕ → Answer A) → ((c : List ℕ) → is_register area ≡ false → g c ≡ refuse not_register) → (code_bytes t >>= g) ≡ refuse q
    refused g h = admitted-refused t area q g h (code-not k (admitted t area) f (sym e ∙ of))

    pub issue-refused : (b : ℕ) → ToldBy (issue_text t b area) area (Err q) area
    unfolding issued
    issue-refused b =
        by-text (issue_text t b area) area (Err q) area
        (told-refusal (issue_text t b area) area q (refused (λ c. changed_area register (issue_code c b) area) (λ c. changed-not (issue_code c b) area)))

    pub return_refused : ToldBy (return_text t area) area (Err q) area
    unfolding returned
    return_refused =
        by-text (return_text t area) area (Err q) area
        (told-refusal (return_text t area) area q (refused (λ c. changed_area register (return_code c) area) (λ c. changed-not (return_code c) area)))

    pub ask-refused : AskTold t area (record { holder = Err q; looks = 0 })
    unfolding borrower_of looks_text
    ask-refused =
        let x : ask_text t area ≡ refuse q = refused (λ c. asked_area register c area) (λ c. asked-not c area) in
        let l : looks_text t area ≡ 0 = ap reported (refused (λ c. is_register area otherwise not_register >> accept (looks c (contents_of area).loans)) (λ c. looks-not c area)) in
        ask-by-text t area (record { holder = Err q; looks = 0 }) (sym (rw (x, l) refl))

  module _ (x : Code) (found : r ≡ Ok x) where
    abbrev code : List ℕ
    code = take (x.length - 0) x.bytes

    bound : (code_bytes t ≡ accept code) × (is_register area ≡ true)
    bound = admitted-bound t area code (code-held k (admitted t area) x (sym found ∙ of)).0

    pub code_fits : x.length ≤ length x.bytes
    code_fits = (code-held k (admitted t area) x (sym found ∙ of)).1

    pub is-register : is_register area ≡ true
    is-register = bound.1

    pub one_code-is : one_code code ≡ true
    one_code-is = (code_in t code bound.0).one

    by_code : {A : Type 0} (f : List ℕ → Answer A) → (code_bytes t >>= f) ≡ f code
    by_code f = ap (λ (y : Answer (List ℕ)). y >>= f) bound.0

    pub issue-told : (b : ℕ) (y : Changed) (d : List ℕ) → Told (changed_area register (issue_code code b) area) area y d → ToldBy (issue_text t b area) area y d
    unfolding issued
    issue-told b y d w =
        by-text (issue_text t b area) area y d
        (same-told (issue_text t b area) (changed_area register (issue_code code b) area) area y d (by_code (λ c. changed_area register (issue_code c b) area)) w)

    pub return-told : (y : Changed) (d : List ℕ) → Told (changed_area register (return_code code) area) area y d → ToldBy (return_text t area) area y d
    unfolding returned
    return-told y d w =
        by-text (return_text t area) area y d
        (same-told (return_text t area) (changed_area register (return_code code) area) area y d (by_code (λ c. changed_area register (return_code c) area)) w)

    pub ask-told : (y : Asked) → y ≡ asked_as (asked_area register code area) (looks code (contents_of area).loans) → AskTold t area y
    unfolding borrower_of looks_text
    ask-told y w =
        let a : ask_text t area ≡ asked_area register code area = by_code (λ c. asked_area register c area) in
        let l : looks_text t area ≡ looks code (contents_of area).loans =
        ap reported (by_code (λ c. is_register area otherwise not_register >> accept (looks c (contents_of area).loans))) ∙ rw is-register in
        ask-by-text t area y (w ∙ sym (rw (a, l) refl))
