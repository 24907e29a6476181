-- Over any calls: two states that changes and questions keep alike are answered alike, and so is an area that holds one.
use Prim.Native.Nat.{ℕ}
use mathlib.Core.Path.{◌≡◌, refl, sym, ◌∙◌, ap, subst}
use mathlib.Core.Bool.{true}
use mathlib.Core.List.{List, [], ◌∷◌}
use Rattle.iscc.specs.Answer.{Answer, accept, refuse, ◌>>=◌}
use Rattle.iscc.specs.Doors.{code_bytes}
use Rattle.loans.specs.Map.{Change, issue_code, return_code}
use Rattle.loans.specs.Calls.{Call, issue, take_back, ask, CallResult, result_of, issued, returned, borrower_of, call, answers, state_after}
use Rattle.loans.specs.Register.{Register, changed_area, asked_area}
use Rattle.loans.specs.Good.{IsCode, GoodChange, GoodCall, GoodCalls, Sound}
use Rattle.loans.proofs.Loan.{code_in}
use Rattle.loans.proofs.Map.{Both}

-- ---- two states

pub record Alike {S M : Type 0} (Rel : S → M → Type 0) (x : CallResult S) (y : CallResult M) : Type 0 where
  pub answer : x.answer ≡ y.answer
  pub state : Rel x.state y.state

after-alike : {S M : Type 0} (Rel : S → M → Type 0) (s : S) (m : M) → Rel s m → (x : Answer S) (y : Answer M) → Both Rel x y → Alike Rel (result_of s x) (result_of m y)
after-alike Rel s m h (accept s') (accept m') a = record { answer = refl; state = a }
after-alike Rel s m h (accept s') (refuse q) a = absurd a
after-alike Rel s m h (refuse p) (accept m') a = absurd a
after-alike Rel s m h (refuse p) (refuse q) a = record { answer = ap refuse a; state = h }

-- over a list of calls: the same answers, and states that are still alike
pub record AllAlike {S M : Type 0} (change : Change → S → Answer S) (question : List ℕ → S → Answer ℕ) (change' : Change → M → Answer M) (question' : List ℕ → M → Answer ℕ)
    (Rel : S → M → Type 0) (ks : List Call) (s : S) (m : M) : Type 0 where
  pub given : answers change question ks s ≡ answers change' question' ks m
  pub state : Rel (state_after change question ks s) (state_after change' question' ks m)

module _ {S M : Type 0} (change : Change → S → Answer S) (question : List ℕ → S → Answer ℕ) (change' : Change → M → Answer M) (question' : List ℕ → M → Answer ℕ)
    (Rel : S → M → Type 0)
    (changes : (ch : Change) (s : S) (m : M) → GoodChange ch → Rel s m → Both Rel (change ch s) (change' ch m))
    (asks : (c : List ℕ) (s : S) (m : M) → Rel s m → question c s ≡ question' c m) where
  module _ (s : S) (m : M) (h : Rel s m) where
    text-alike : (of : List ℕ → Change) → ((c : List ℕ) → IsCode c → GoodChange (of c)) → (t : List ℕ) (x : Answer (List ℕ)) → code_bytes t ≡ x
        → Alike Rel (result_of s (x >>= λ c. change (of c) s)) (result_of m (x >>= λ c. change' (of c) m))
    text-alike of f t (accept c) e = after-alike Rel s m h (change (of c) s) (change' (of c) m) (changes (of c) s m (f c (code_in t c e)) h)
    text-alike of f t (refuse q) e = record { answer = refl; state = h }

    text-asks : (x : Answer (List ℕ)) → (x >>= λ c. question c s) ≡ (x >>= λ c. question' c m)
    text-asks (accept c) = asks c s m h
    text-asks (refuse q) = refl

    pub call-alike : (k : Call) → GoodCall k → Alike Rel (call change question k s) (call change' question' k m)
    unfolding issued returned borrower_of
    call-alike (issue t b) g = text-alike (λ c. issue_code c b) (λ c i. record { code = i; borrower = g }) t (code_bytes t) refl
    call-alike (take_back t) g = text-alike (λ c. return_code c) (λ c i. i) t (code_bytes t) refl
    call-alike (ask t) g = record { answer = text-asks (code_bytes t); state = h }

  pub all_alike : (ks : List Call) (s : S) (m : M) → GoodCalls ks → Rel s m → AllAlike change question change' question' Rel ks s m
  all_alike [] s m g h = record { given = refl; state = h }
  all_alike (k ∷ ks) s m g h =
      let a : Alike Rel (call change question k s) (call change' question' k m) = call-alike s m h k g.0 in
      let r = all_alike ks (call change question k s).state (call change' question' k m).state g.1 a.state in
      record { given = rw (a.answer, r.given); state = r.state }

-- ---- an area that holds contents which stand for m

pub record InArea {S M : Type 0} (r : Register S) (Rel : S → M → Type 0) (area : List ℕ) (m : M) : Type 0 where
  pub contents : S
  pub held : Rel contents m
  pub bytes : r.bytes contents ≡ area

module _ {S M : Type 0} (r : Register S) (Good : S → Type 0) (sound : Sound r Good) (Rel : S → M → Type 0) (rel-good : (s : S) (m : M) → Rel s m → Good s) where
  module _ (area : List ℕ) (m : M) (h : InArea r Rel area m) where
    pub is-valid : r.valid area ≡ true
    is-valid = subst (λ (a : List ℕ). r.valid a ≡ true) h.bytes (sound.valid h.contents (rel-good h.contents m h.held))

    pub is_held : r.contents area ≡ h.contents
    is_held = ap r.contents (sym h.bytes) ∙ sound.back h.contents (rel-good h.contents m h.held)

  module _ (change : Change → M → Answer M) (question : List ℕ → M → Answer ℕ)
      (changes : (ch : Change) (s : S) (m : M) → GoodChange ch → Rel s m → Both Rel (r.changes ch s) (change ch m))
      (asks : (c : List ℕ) (s : S) (m : M) → Rel s m → r.asks c s ≡ question c m) where
    in_area : (x : Answer S) (y : Answer M) → Both Rel x y → Both (InArea r Rel) (x >>= λ s. accept (r.bytes s)) y
    in_area (accept s) (accept m) a = record { contents = s; held = a; bytes = refl }
    in_area (accept s) (refuse q) a = a
    in_area (refuse p) (accept m) a = a
    in_area (refuse p) (refuse q) a = a

    pub area-changes : (ch : Change) (area : List ℕ) (m : M) → GoodChange ch → InArea r Rel area m → Both (InArea r Rel) (changed_area r ch area) (change ch m)
    unfolding changed_area
    area-changes ch area m g h =
        rw (is-valid area m h, is_held area m h) (in_area (r.changes ch h.contents) (change ch m) (changes ch h.contents m g h.held))

    pub area-asks : (c area : List ℕ) (m : M) → InArea r Rel area m → asked_area r c area ≡ question c m
    unfolding asked_area
    area-asks c area m h = rw (is-valid area m h, is_held area m h) (asks c h.contents m h.held)

    pub area-alike : (ks : List Call) (area : List ℕ) (m : M) → GoodCalls ks → InArea r Rel area m
        → AllAlike (changed_area r) (asked_area r) change question (InArea r Rel) ks area m
    area-alike ks area m g h = all_alike (changed_area r) (asked_area r) change question (InArea r Rel) area-changes area-asks ks area m g h
