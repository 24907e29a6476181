-- What the code tells of a call: of a change that was made, of an answer, of a refusal.
use Rattle.std.specs.Prelude.{Ok, Err}
use Prim.Native.Nat.{ℕ, ◌<◌}
use mathlib.Core.Path.{◌≡◌, refl, sym, ◌∙◌, ap, subst}
use mathlib.Core.Bool.{Bool, true, false}
use mathlib.Core.List.{List, [], ◌++◌}
use native.Mathlib.Omega.{arith}
use lib.ListN.{length, drop, get_or}
use Rattle.iscc.specs.Refusals.{Refusal, not_register}
use Rattle.iscc.specs.Answer.{Answer, accept, refuse, is_accepted, ◌>>=◌}
use Rattle.iscc.specs.Digits.{Below}
use Rattle.iscc.specs.Doors.{code_bytes}
use Rattle.iscc.proofs.Answer.{answered, passed, accept-inj}
use Rattle.loans.specs.Map.{Change, issue_code, return_code}
use Rattle.loans.specs.Calls.{issue, take_back, ask, afterwards, issued, returned}
use Rattle.loans.specs.Register.{changed_area}
use Rattle.loans.specs.Fields.{field_bytes}
use Rattle.loans.specs.Numbered.{Contents}
use Rattle.loans.specs.Contents.{is_register, contents_of, bytes_of, applied, changed_loans, register, issue_text, return_text, ask_text}
use Rattle.loans.specs.Good.{IsCode, GoodChange, GoodContents}
use Rattle.loans.proofs.Loan.{code_in}
use Rattle.loans.proofs.Numbered.{taken}
use Rattle.loans.proofs.Contents.{register-sound, applied-good}
use Rattle.register.specs.Representation.{changed_as, holder_as}
use Rattle.register.specs.Representation.{Changed}
use Rattle.register.specs.Representation.{Holder}
use Rattle.answers.specs.Answers.{refused_line}
use Rattle.hall.specs.Serving as serving
use Rattle.hall.specs.Serving.{text_of_typed, not_served, issue_served, return_served, ask_served, sheet_served, call_served}
use Rattle.hall.specs.Said.{Said, Tells, Recordable, entry_size, outcome_by, record_bytes, made_as, issued_as, returned_as}
use Rattle.hall.specs.Sheet.{sheet_lines}
use Rattle.hall.specs.declared.serving.Outcome.TheVariants as outcomes
use Rattle.hall.specs.declared.serving.Served.{Served}

-- ---- nothing that is told depends on the area

abbrev pub at : List ℕ → serving.Served → serving.Served
at area s = record { answer = s.answer; entry = s.entry; area = area; refused = s.refused; sheet = s.sheet }

pub said_at : {s : serving.Served} {r : Served} (area : List ℕ) → Said s r → Said (at area s) r
said_at area x = record { answer = x.answer; outcome = x.outcome; refused = x.refused; sheet = x.sheet; size = x.size }

pub tells_at : {s : serving.Served} {r : Served} {entry entry' : List ℕ} (area : List ℕ) → Tells s r entry entry'
    → Tells (at area s) r entry entry'
tells_at area x = record { said = said_at area x.said; bytes = x.bytes }

-- without a record the area for one stays
pub none-put : {s : serving.Served} {r : Served} (entry : List ℕ) → s.entry ≡ [] → Said s r → Tells s r entry entry
none-put {s} {r} entry e x =
    let z : entry_size r.outcome ≡ 0 = x.size ∙ ap length e in
    record { said = x; bytes = sym (ap (λ (bs : List ℕ). bs ++ drop (entry_size r.outcome) entry) e ∙ ap (λ (k : ℕ). drop k entry) z) }

-- ---- a change that was made: its record has bytes

pub recorded-is : (ch : Change) (number : ℕ) → outcome_by (record_bytes ch number) ≡ outcomes.Recorded (length (record_bytes ch number))
unfolding field_bytes
recorded-is ch number = refl

pub made_told : (ch : Change) (number n : ℕ) (answer line entry entry' : List ℕ) → line ≡ answer
    → (n ≡ length (record_bytes ch number)) × (entry' ≡ record_bytes ch number ++ drop n entry)
    → Tells (made_as answer (record_bytes ch number)) (record { line = line; outcome = outcomes.Recorded n }) entry entry'
made_told ch number n answer line entry entry' a b =
    record {
      said = record { answer = a; outcome = ap outcomes.Recorded b.0 ∙ sym (recorded-is ch number); refused = refl; sheet = refl; size = b.0 };
      bytes = b.1;
    }

-- ---- the number that a change took

module _ (x : Answer (List ℕ)) (r : Changed) (e : r ≡ changed_as x) where
  pub done-is : (number : ℕ) → r ≡ Ok number → (after : List ℕ) × (x ≡ accept after) × (number ≡ (contents_of after).last)
  done-is number k = go x (sym k ∙ e)
    where
      go : (y : Answer (List ℕ)) → Ok number ≡ changed_as y
          → (after : List ℕ) × (y ≡ accept after) × (number ≡ (contents_of after).last)
      go (accept a) q = let n : number ≡ (contents_of a).last = cc in (a, refl, n)
      go (refuse p) q = let z : ◌≡◌ {A = ℕ} 0 1 = cc in absurd (omega arith)

  pub refused-is : (q : Refusal) → r ≡ Err q → x ≡ refuse q
  refused-is q k = go x (sym k ∙ e)
    where
      go : (y : Answer (List ℕ)) → Err q ≡ changed_as y → y ≡ refuse q
      go (accept a) f = let z : ◌≡◌ {A = ℕ} 0 1 = cc in absurd (omega arith)
      go (refuse p) f = let n : q ≡ p = cc in ap refuse (sym n)

module _ (area : List ℕ) (bytes : Below 256 area) where
  last_some : (ch : Change) → GoodChange ch → (after : List ℕ) → changed_area register ch area ≡ accept after → 0 < (contents_of after).last
  unfolding changed_area
  last_some ch g after e =
      let v = passed (is_register area) not_register (applied ch (contents_of area) >>= λ s. accept (bytes_of s)) e in
      let w = answered (applied ch (contents_of area)) (λ s. accept (bytes_of s)) v.1 in
      let s = w.0 in
      let h : GoodContents s = applied-good ch (contents_of area) s g (register-sound.good area bytes v.0) w.1 in
      let l : (contents_of after).last ≡ s.last =
      ap (λ (a : List ℕ). (contents_of a).last) (sym (accept-inj w.2)) ∙ ap (λ (c : Contents). c.last) (register-sound.back s h) in
      omega (arith, l, (taken changed_loans ch (contents_of area) s w.1).last)

  recordable : (of : List ℕ → Change) → ((c : List ℕ) → IsCode c → GoodChange (of c)) → (t after : List ℕ)
      → (code_bytes t >>= λ c. changed_area register (of c) area) ≡ accept after → Recordable t (contents_of after).last
  recordable of f t after e =
      let w = answered (code_bytes t) (λ c. changed_area register (of c) area) e in
      (ap is_accepted w.1, last_some (of w.0) (f w.0 (code_in t w.0 w.1)) after w.2)

  module _ (t : List ℕ) (r : Changed) (number : ℕ) (k : r ≡ Ok number) where
    pub issue-recordable : (b : ℕ) → b < 4294967296 → r ≡ changed_as (issue_text t b area) → Recordable t number
    unfolding issued
    issue-recordable b h e =
        let d = done-is (issue_text t b area) r e number k in
        subst (Recordable t) (sym d.2) (recordable (λ c. issue_code c b) (λ c i. record { code = i; borrower = h }) t d.0 d.1)

    pub return-recordable : r ≡ changed_as (return_text t area) → Recordable t number
    unfolding returned
    return-recordable e =
        let d = done-is (return_text t area) r e number k in
        subst (Recordable t) (sym d.2) (recordable return_code (λ c i. i) t d.0 d.1)

-- ---- the calls

-- as the contracts have it
abbrev pub Serves : serving.Served → Served → List ℕ → List ℕ → List ℕ → Type 0
Serves s r entry entry' area' = Tells s r entry entry' × (area' ≡ s.area)

module _ (t : List ℕ) (area area' entry : List ℕ) (r : Served) (made : Changed) where
  module _ (b : ℕ) (e : made ≡ changed_as (issue_text t b area)) (after : area' ≡ afterwards area (issue_text t b area)) where
    pub issue-done : (number : ℕ) (entry' : List ℕ) → made ≡ Ok number → Tells (issued_as t b number) r entry entry'
        → Serves (call_served (issue t b) area) r entry entry' area'
    unfolding call_served
    issue-done number entry' k x =
        let d = done-is (issue_text t b area) made e number k in
        let y : Tells (issue_served t b area (accept d.0)) r entry entry' =
        tells_at d.0 (subst (λ (n : ℕ). Tells (issued_as t b n) r entry entry') d.2 x) in
        rw d.1 (y, after ∙ ap (afterwards area) d.1)

    pub issue-refused : (q : Refusal) → made ≡ Err q → Said (not_served (refused_line q) []) r
        → Serves (call_served (issue t b) area) r entry entry area'
    unfolding call_served
    issue-refused q k x =
        let d = refused-is (issue_text t b area) made e q k in
        rw d (none-put entry refl (said_at area x), after ∙ ap (afterwards area) d)

  module _ (e : made ≡ changed_as (return_text t area)) (after : area' ≡ afterwards area (return_text t area)) where
    pub return-done : (number : ℕ) (entry' : List ℕ) → made ≡ Ok number → Tells (returned_as t number) r entry entry'
        → Serves (call_served (take_back t) area) r entry entry' area'
    unfolding call_served
    return-done number entry' k x =
        let d = done-is (return_text t area) made e number k in
        let y : Tells (return_served t area (accept d.0)) r entry entry' =
        tells_at d.0 (subst (λ (n : ℕ). Tells (returned_as t n) r entry entry') d.2 x) in
        rw d.1 (y, after ∙ ap (afterwards area) d.1)

    pub return_refused : (q : Refusal) → made ≡ Err q → Said (not_served (refused_line q) []) r
        → Serves (call_served (take_back t) area) r entry entry area'
    unfolding call_served
    return_refused q k x =
        let d = refused-is (return_text t area) made e q k in
        rw d (none-put entry refl (said_at area x), after ∙ ap (afterwards area) d)

-- ---- a question, and the sheet

module _ (t area : List ℕ) (r : Served) (h : Holder) (e : h ≡ holder_as (ask_text t area)) where
  ask-as : (y : Answer ℕ) → ask_text t area ≡ y → Said (ask_served t area y) r → (entry_size r.outcome ≡ 0)
      → Said (call_served (ask t) area) r × (entry_size r.outcome ≡ 0)
  unfolding call_served
  ask-as y k x z = (rw k x, z)

  pub ask-found : (b : ℕ) → h ≡ Ok b → Said (ask_served t [] (accept b)) r → Said (call_served (ask t) area) r × (entry_size r.outcome ≡ 0)
  ask-found b k x = ask-as (accept b) (go (ask_text t area) (sym k ∙ e)) (said_at area x) x.size
    where
      go : (y : Answer ℕ) → Ok b ≡ holder_as y → y ≡ accept b
      go (accept c) f = let n : b ≡ c = cc in ap accept (sym n)
      go (refuse q) f = let z : ◌≡◌ {A = ℕ} 0 1 = cc in absurd (omega arith)

  pub ask-refused : (q : Refusal) → h ≡ Err q → Said (not_served (refused_line q) []) r
      → Said (call_served (ask t) area) r × (entry_size r.outcome ≡ 0)
  ask-refused q k x = ask-as (refuse q) (go (ask_text t area) (sym k ∙ e)) (said_at area x) x.size
    where
      go : (y : Answer ℕ) → Err q ≡ holder_as y → y ≡ refuse q
      go (accept c) f = let z : ◌≡◌ {A = ℕ} 0 1 = cc in absurd (omega arith)
      go (refuse p) f = let n : q ≡ p = cc in ap refuse (sym n)

module _ (area : List ℕ) (is : Bool) (e : is ≡ is_register area) where
  pub sheet-counted : (l : List ℕ) → is ≡ true → l ≡ get_or (sheet_lines area) 0 []
      → Said (sheet_served area) (record { line = l; outcome = outcomes.Sheet })
  unfolding sheet_lines
  sheet-counted l k a =
      let v : is_register area ≡ true = sym e ∙ k in
      rw v (record { answer = rw v at a; outcome = refl; refused = refl; sheet = refl; size = refl })

  pub sheet-refused : (r : Served) → is ≡ false → Said (not_served (refused_line not_register) []) r → Said (sheet_served area) r
  sheet-refused r k x = let v : is_register area ≡ false = sym e ∙ k in rw v (said_at area x)
