-- Codes that mean the same are one entry of a register, however they are typed. Over any register that changes and asks as the plain
-- map with its number does.
use Prim.Native.Nat.{ℕ, ◌<◌}
use mathlib.Core.Path.{◌≡◌, refl, sym, ◌∙◌, ap}
use native.Mathlib.Omega.{arith}
use mathlib.Core.Bool.{true, not}
use mathlib.Core.Option.{Option, none, some}
use mathlib.Core.List.{List}
use lib.ListN.{length}
use lib.Dec.{ltb}
use Rattle.iscc.specs.Refusals.{already_out, all_out, not_out, not_register}
use Rattle.iscc.specs.Answer.{Answer, accept, refuse, ◌>>=◌}
use Rattle.iscc.specs.Digits.{Below}
use Rattle.iscc.specs.Meaning.{Meaning}
use Rattle.iscc.specs.Item.{item_bytes, item_of}
use Rattle.iscc.specs.Doors.{meaning_of_text, code_bytes, text_of, intake}
use Rattle.iscc.proofs.Answer.{accepted, passed, answered, accept-inj, never}
use Rattle.iscc.proofs.Demand3.{intake-of, intake-means}
use Rattle.iscc.proofs.Doors.{meant, back}
use Rattle.iscc.proofs.Codes.{code-means, codes-and-texts}
use Rattle.loans.specs.Loan.{Loan, loan_of, find, is_out}
use Rattle.loans.specs.Map.{Change, issue_code, return_code, change_with, map_changed, holder_of, map_asked}
use Rattle.loans.specs.Calls.{issued, returned, borrower_of}
use Rattle.loans.specs.Numbered.{Contents, map_numbered, map_numbered_asked}
use Rattle.loans.specs.Register.{Register, changed_area, asked_area}
use Rattle.loans.specs.Good.{Distinct, GoodContents, GoodChange, Sound}
use Rattle.loans.specs.Promises.{OneEntry}
use Rattle.loans.proofs.Loan.{code_in, read_is, find-here, find-there, find-without-other, find-without-same}
use Rattle.loans.proofs.Map.{Both}
use Rattle.loans.proofs.Calls.{InArea, area-changes, area-asks}
use Rattle.loans.proofs.Numbered.{taken}
use Rattle.loans.proofs.Contents.{HeldContents, held-good, held-self}

-- ---- texts and their codes

pub same_code : (t u : List ℕ) → meaning_of_text t ≡ meaning_of_text u → code_bytes t ≡ code_bytes u
unfolding code_bytes
same_code t u e = ap (λ (x : Answer Meaning). x >>= λ m. accept (item_bytes (item_of m))) e

-- of another meaning, so another code
other-code : (t u c d : List ℕ) → code_bytes t ≡ accept c → code_bytes u ≡ accept d → (meaning_of_text t ≡ meaning_of_text u → ⊥) → d ≡ c → ⊥
other-code t u c d e f n p =
    let v = code-means t c 42 (read_is t ∙ e) in
    let w = code-means u d 42 (read_is u ∙ f) in
    let s = codes-and-texts.same_code t u c d v.0 w.0 v.1 w.1 (read_is t ∙ e) (read_is u ∙ f) in
    n (v.1 ∙ ap accept (s.0 (sym p)) ∙ sym w.1)

-- what intake writes for a text means the same
written-means : (t out : List ℕ) → intake t 73 ≡ accept out → meaning_of_text t ≡ meaning_of_text out
written-means t out e =
    let v = intake-means t 73 (accepted (intake t 73) e) in
    let o : text_of v.0 ≡ out = accept-inj (sym (intake-of t v.0 73 (omega arith) v.1) ∙ e) in
    v.1 ∙ sym (back v.0 (meant t v.0 v.1)) ∙ ap meaning_of_text o

-- ---- one change of the plain map

-- the code is held as said, and every other as before
record Entry (c : List ℕ) (holder : Option ℕ) (m m' : List Loan) : Type 0 where
  this : find c m' ≡ holder
  others : (d : List ℕ) → (d ≡ c → ⊥) → find d m' ≡ find d m

issue-entry : (c : List ℕ) (b : ℕ) (m m' : List Loan) → map_changed (issue_code c b) m ≡ accept m' → Entry c (some b) m m'
unfolding change_with
issue-entry c b m m' e =
    let p = passed (not (is_out c m)) already_out _ e in
    let q = passed (ltb (length m) 256) all_out _ p.1 in
    rw (← accept-inj q.1) (record { this = find-here c (loan_of c b) m refl; others = λ d n. find-there d (loan_of c b) m n })

return-entry : (c : List ℕ) (m m' : List Loan) → Distinct m → map_changed (return_code c) m ≡ accept m' → Entry c none m m'
unfolding change_with
return-entry c m m' k e =
    let p = passed (is_out c m) not_out _ e in
    rw (← accept-inj p.1) (record { this = find-without-same c m k; others = λ d n. find-without-other c d m n })

both-accept : {S M : Type 0} (Rel : S → M → Type 0) (x : Answer S) (y : Answer M) (s : S) → Both Rel x y → x ≡ accept s → (m : M) × (y ≡ accept m) × Rel s m
both-accept Rel (accept a) (accept m) s h e = (m, refl, rw (← accept-inj e) h)
both-accept Rel (accept a) (refuse q) s h e = absurd h
both-accept Rel (refuse p) y s h e = absurd (never e)

-- ---- one change of a register, by texts

module _ (r : Register Contents) (sound : Sound r GoodContents)
    (changes : (ch : Change) (s m : Contents) → GoodChange ch → HeldContents s m → Both HeldContents (r.changes ch s) (map_numbered ch m))
    (asks : (c : List ℕ) (s m : Contents) → HeldContents s m → r.asks c s ≡ map_numbered_asked c m) where
  abbrev Holds : List ℕ → Contents → Type 0
  Holds = InArea r HeldContents

  holds-own : (area : List ℕ) → Below 256 area → r.valid area ≡ true → Holds area (r.contents area)
  holds-own area k v =
      record { contents = r.contents area; held = held-self (r.contents area) (sound.good area k v); bytes = sound.again area k v }

  is-valid : (ch : Change) (area area' : List ℕ) → changed_area r ch area ≡ accept area' → r.valid area ≡ true
  unfolding changed_area
  is-valid ch area area' e = (passed (r.valid area) not_register _ e).0

  -- an accepted change is one of the map that the area stands for
  after-change : (ch : Change) (area area' : List ℕ) → GoodChange ch → Below 256 area → changed_area r ch area ≡ accept area'
      → (m' : Contents) × (map_changed ch (r.contents area).loans ≡ accept m'.loans) × Holds area' m'
  after-change ch area area' g k e =
      let b = both-accept Holds (changed_area r ch area) (map_numbered ch (r.contents area)) area'
      (area-changes r GoodContents sound HeldContents held-good map_numbered map_numbered_asked changes asks ch area (r.contents area) g (holds-own area k (is-valid ch area area' e))) e in
      (b.0, (taken map_changed ch (r.contents area) b.0 b.1).loans, b.2)

  asks-map : (c area : List ℕ) (m : Contents) → Holds area m → asked_area r c area ≡ holder_of (find c m.loans)
  unfolding map_asked
  asks-map c area m h = area-asks r GoodContents sound HeldContents held-good map_numbered map_numbered_asked changes asks c area m h

  module _ (t u c : List ℕ) (holder : Option ℕ) (area area' : List ℕ) (m m' : Contents) (e : code_bytes t ≡ accept c)
      (before : Holds area m) (after : Holds area' m') (entry : Entry c holder m.loans m'.loans) where
    same_text : meaning_of_text t ≡ meaning_of_text u → borrower_of (asked_area r) u area' ≡ holder_of holder
    unfolding borrower_of
    same_text s = rw (sym (same_code t u s) ∙ e, asks-map c area' m' after, entry.this)

    other_text : (meaning_of_text t ≡ meaning_of_text u → ⊥) → borrower_of (asked_area r) u area' ≡ borrower_of (asked_area r) u area
    unfolding borrower_of
    other_text n = go (code_bytes u) refl
      where
        go : (x : Answer (List ℕ)) → code_bytes u ≡ x → (x >>= λ d. asked_area r d area') ≡ (x >>= λ d. asked_area r d area)
        go (accept d) f = asks-map d area' m' after ∙ ap holder_of (entry.others d (other-code t u c d e f n)) ∙ sym (asks-map d area m before)
        go (refuse q) f = refl

  -- what an accepted issue or return by text comes to
  record Step (t : List ℕ) (holder : Option ℕ) (area area' : List ℕ) : Type 0 where
    code : List ℕ
    is : code_bytes t ≡ accept code
    map : Contents
    map' : Contents
    before : Holds area map
    after : Holds area' map'
    entry : Entry code holder map.loans map'.loans

  issue-step : (t : List ℕ) (b : ℕ) (area area' : List ℕ) → Below 256 area → b < 4294967296 → issued (changed_area r) t b area ≡ accept area' → Step t (some b) area area'
  unfolding issued
  issue-step t b area area' k h e =
      let w = answered (code_bytes t) (λ c. changed_area r (issue_code c b) area) e in
      let a = after-change (issue_code w.0 b) area area' (record { code = code_in t w.0 w.1; borrower = h }) k w.2 in
      record {
        code = w.0;
        is = w.1;
        map = r.contents area;
        map' = a.0;
        before = holds-own area k (is-valid (issue_code w.0 b) area area' w.2);
        after = a.2;
        entry = issue-entry w.0 b (r.contents area).loans a.0.loans a.1;
      }

  return-step : (t area area' : List ℕ) → Below 256 area → returned (changed_area r) t area ≡ accept area' → Step t none area area'
  unfolding returned
  return-step t area area' k e =
      let w = answered (code_bytes t) (λ c. changed_area r (return_code c) area) e in
      let a = after-change (return_code w.0) area area' (code_in t w.0 w.1) k w.2 in
      let o = holds-own area k (is-valid (return_code w.0) area area' w.2) in
      record {
        code = w.0;
        is = w.1;
        map = r.contents area;
        map' = a.0;
        before = o;
        after = a.2;
        entry = return-entry w.0 (r.contents area).loans a.0.loans o.held.list.distinct a.1;
      }

  module _ (t u : List ℕ) (holder : Option ℕ) (area area' : List ℕ) (s : Step t holder area area') where
    step_same : meaning_of_text t ≡ meaning_of_text u → borrower_of (asked_area r) u area' ≡ holder_of holder
    step_same e = same_text t u s.code holder area area' s.map s.map' s.is s.before s.after s.entry e

    step_other : (meaning_of_text t ≡ meaning_of_text u → ⊥) → borrower_of (asked_area r) u area' ≡ borrower_of (asked_area r) u area
    step_other n = other_text t u s.code holder area area' s.map s.map' s.is s.before s.after s.entry n

  pub one_entry : OneEntry r
  unfolding issued returned borrower_of
  one_entry =
      record {
        issues = λ t u b area e. ap (λ (x : Answer (List ℕ)). x >>= λ c. changed_area r (issue_code c b) area) (same_code t u e);
        returns = λ t u area e. ap (λ (x : Answer (List ℕ)). x >>= λ c. changed_area r (return_code c) area) (same_code t u e);
        questions = λ t u area e. ap (λ (x : Answer (List ℕ)). x >>= λ c. asked_area r c area) (same_code t u e);
        found = λ t u b area area' k h e m. step_same t u (some b) area area' (issue-step t b area area' k h e) m;
        as_written = λ t out b area area' k h e w. step_same t out (some b) area area' (issue-step t b area area' k h e) (written-means t out w);
        gone = λ t u area area' k e m. step_same t u none area area' (return-step t area area' k e) m;
        issue_keeps = λ t u b area area' k h e n. step_other t u (some b) area area' (issue-step t b area area' k h e) n;
        return_keeps = λ t u area area' k e n. step_other t u none area area' (return-step t area area' k e) n;
      }
