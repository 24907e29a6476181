-- Codes out are the accepted issues minus the accepted returns, over any calls and replays. Over any register and any records.
use Prim.Native.Nat.{ℕ, suc, ◌+◌}
use mathlib.Core.Path.{◌≡◌, refl, sym, ◌∙◌, ap}
use mathlib.Core.Bool.{true, not}
use mathlib.Core.Option.{Option, none}
use mathlib.Core.List.{List, [], ◌∷◌, ◌++◌}
use native.Mathlib.Omega.{arith}
use lib.ListN.{length}
use lib.Dec.{ltb}
use borrow.Author.Tests.{not-true}
use Rattle.iscc.specs.Answer.{Answer, accept, refuse}
use Rattle.iscc.specs.Refusals.{already_out, all_out, not_out}
use Rattle.iscc.specs.Digits.{Below}
use Rattle.iscc.proofs.Answer.{passed, accept-inj}
use Rattle.loans.specs.Loan.{Loan, loan_of, find, is_out}
use Rattle.loans.specs.Map.{Change, issue_code, return_code, change_with}
use Rattle.loans.specs.Register.{Register}
use Rattle.loans.specs.Moves.{number_at}
use Rattle.loans.specs.Fields.{Field}
use Rattle.loans.specs.Log.{Record, records_from}
use Rattle.loans.specs.Replay.{go_on, replay_all, replay_from, replayed}
use Rattle.loans.specs.Operations.{Operation, live, replay, GoodOperation, GoodOperations}
use Rattle.loans.specs.Good.{GoodChange, Sound}
use Rattle.loans.specs.CodesOut.{issues, returns, onward, applied_in, perform_on, changes_by, all_done, all_changes, FirstNumber}
use Rattle.loans.proofs.Map.{not-out}
use Rattle.loans.proofs.Fields.{BytesIn, bytes-in}
use Rattle.loans.proofs.Made.{nothing, change, call-made}

-- ---- changes, from so many codes out to so many

abbrev pub Balance : ℕ → ℕ → List Change → Type 0
Balance before after chs = after + returns chs ≡ before + issues chs

balance-more : (a b c : ℕ) (xs ys : List Change) → Balance a b xs → Balance b c ys → Balance a c (xs ++ ys)
balance-more a b c xs ys p q = let s = sums xs in omega arith
  where
    sums : (xs : List Change) → (issues (xs ++ ys) ≡ issues xs + issues ys) × (returns (xs ++ ys) ≡ returns xs + returns ys)
    sums [] = (omega arith, omega arith)
    sums (issue_code c b ∷ xs) = let r = sums xs in (omega arith, omega arith)
    sums (return_code c ∷ xs) = let r = sums xs in (omega arith, omega arith)

-- a change that puts one loan in, or takes one out
module _ {S : Type 0} (loans : S → List Loan) (put : Loan → S → S) (taken : List ℕ → S → S)
    (put-size : (l : Loan) (s : S) → find l.code (loans s) ≡ none → length (loans (put l s)) ≡ suc (length (loans s)))
    (taken-size : (c : List ℕ) (s : S) → is_out c (loans s) ≡ true → suc (length (loans (taken c s))) ≡ length (loans s)) where
  pub change-balance : (ch : Change) (s s' : S) → change_with loans put taken ch s ≡ accept s' → Balance (length (loans s)) (length (loans s')) (ch ∷ [])
  unfolding change_with
  change-balance (issue_code c b) s s' e =
      let p = passed (not (is_out c (loans s))) already_out _ e in
      let q = passed (ltb (length (loans s)) 256) all_out (accept (put (loan_of c b) s)) p.1 in
      let n : length (loans s') ≡ suc (length (loans s)) =
      ap (λ (x : S). length (loans x)) (sym (accept-inj q.1)) ∙ put-size (loan_of c b) s (not-out c (loans s) (not-true (is_out c (loans s)) p.0)) in
      omega (arith, n)
  change-balance (return_code c) s s' e =
      let p = passed (is_out c (loans s)) not_out (accept (taken c s)) e in
      let n : length (loans s') ≡ length (loans (taken c s)) = ap (λ (x : S). length (loans x)) (sym (accept-inj p.1)) in
      omega (arith, n, taken-size c s p.0)

-- ---- records from the left

-- What each record makes of a state by the changes that it stands for, all that are applied make by theirs: whether they run to their
-- end or one stops them.
module _ {S : Type 0} (r : Register S) (Good : S → Type 0) (apply : Field → S → Answer S) (takes : Field → S → List Change)
    (record-good : (f : Field) (s s' : S) → Below 256 f.body → Good s → apply f s ≡ accept s' → Good s')
    (Rel : S → S → List Change → Type 0) (same : (s : S) → Rel s s [])
    (more : (s t u : S) (xs ys : List Change) → Rel s t xs → Rel t u ys → Rel s u (xs ++ ys))
    (one : (f : Field) (s s' : S) → Good s → apply f s ≡ accept s' → Rel s s' (takes f s)) where
  pub replay-walk : (es : List Record) (tear : Option ℕ) (s : S) → BytesIn es → Good s
      → let s' = (replay_all apply es tear s).state in Good s' × Rel s s' (applied_in r apply takes es s)
  unfolding replay_all applied_in
  replay-walk [] tear s k h = (h, same s)
  replay-walk (e ∷ es) tear s k h = go (apply e.field s) refl (λ s' g. replay-walk es tear s' k.1 g)
    where
      go : (x : Answer S) → apply e.field s ≡ x
          → ((y : S) → Good y → Good (replay_all apply es tear y).state × Rel y (replay_all apply es tear y).state (applied_in r apply takes es y))
          → let s' = (go_on apply s e.offset x (λ y. replay_all apply es tear y)).state in
          Good s' × Rel s s' (onward x (λ y. takes e.field s ++ applied_in r apply takes es y))
      go (accept y) w ih = let t = ih y (record-good e.field s y k.0 h w) in (t.0, more s y _ (takes e.field s) _ (one e.field s y h w) t.1)
      go (refuse q) w ih = (h, same s)

-- ---- any operations on an area

-- the area holds good contents, and from n codes out these changes led to them
record Balanced {S : Type 0} (r : Register S) (Good : S → Type 0) (loans : S → List Loan) (n : ℕ) (area : List ℕ) (chs : List Change) : Type 0 where
  contents : S
  bytes : area ≡ r.bytes contents
  good : Good contents
  balance : Balance n (length (loans contents)) chs

-- what is asked of a register and its records: a change and a record leave good contents, and as many codes out as they say
module _ {S : Type 0} (r : Register S) (Good : S → Type 0) (sound : Sound r Good) (loans : S → List Loan)
    (change-good : (ch : Change) (s s' : S) → GoodChange ch → Good s → r.changes ch s ≡ accept s' → Good s')
    (change-balance : (ch : Change) (s s' : S) → r.changes ch s ≡ accept s' → Balance (length (loans s)) (length (loans s')) (ch ∷ []))
    (apply : Field → S → Answer S) (takes : Field → S → List Change)
    (record-good : (f : Field) (s s' : S) → Below 256 f.body → Good s → apply f s ≡ accept s' → Good s')
    (record-balance : (f : Field) (s s' : S) → apply f s ≡ accept s' → Balance (length (loans s)) (length (loans s')) (takes f s)) where
  abbrev out : S → ℕ
  out s = length (loans s)

  replay-balanced : (es : List Record) (tear : Option ℕ) (s : S) → BytesIn es → Good s
      → let s' = (replay_all apply es tear s).state in Good s' × Balance (out s) (out s') (applied_in r apply takes es s)
  replay-balanced =
      replay-walk r Good apply takes record-good (λ s s' chs. Balance (out s) (out s') chs) (λ s. refl) (λ s t u. balance-more (out s) (out t) (out u))
      (λ f s s' h. record-balance f s s')

  operation-balanced : (w : Operation) (area : List ℕ) (s : S) → GoodOperation w → area ≡ r.bytes s → Good s
      → Balanced r Good loans (out s) (perform_on r apply w area).state (changes_by r apply takes w area)
  unfolding changes_by replayed
  operation-balanced (live k) area s g b h =
      elim (call-made r Good sound area s b h k g) [
        | nothing c a ↦ record { contents = s; bytes = a; good = h; balance = rw c }
        | change ch s' gc e c a ↦ record { contents = s'; bytes = a; good = change-good ch s s' gc h e; balance = rw c (change-balance ch s s' e) }
      ]
  operation-balanced (replay log) area s g b h =
      let t = replay-balanced (records_from 0 log).whole (records_from 0 log).tear s (bytes-in 0 log g) h in
      rw (b, sound.valid s h, sound.back s h) (record { contents = (replay_from apply 0 log s).state; bytes = refl; good = t.0; balance = t.1 })

  all-balanced : (ws : List Operation) (area : List ℕ) (s : S) → GoodOperations ws → area ≡ r.bytes s → Good s
      → Balanced r Good loans (out s) (all_done r apply ws area) (all_changes r apply takes ws area)
  all-balanced [] area s g b h = record { contents = s; bytes = b; good = h; balance = refl }
  all-balanced (w ∷ ws) area s g b h =
      let x : Balanced r Good loans (out s) (perform_on r apply w area).state (changes_by r apply takes w area) = operation-balanced w area s g.0 b h in
      let y = all-balanced ws (perform_on r apply w area).state x.contents g.1 x.bytes x.good in
      record {
        contents = y.contents;
        bytes = y.bytes;
        good = y.good;
        balance =
            balance-more (out s) (out x.contents) (out y.contents) (changes_by r apply takes w area)
            (all_changes r apply takes ws (perform_on r apply w area).state) x.balance y.balance;
      }

  -- so an area that is a register stays one
  still : (n : ℕ) (area : List ℕ) (chs : List Change) → Balanced r Good loans n area chs → r.valid area ≡ true
  still n area chs x = ap r.valid x.bytes ∙ sound.valid x.contents x.good

  pub stays-valid : (w : Operation) (area : List ℕ) → GoodOperation w → Below 256 area → r.valid area ≡ true → r.valid (perform_on r apply w area).state ≡ true
  stays-valid w area g k v = still _ _ _ (operation-balanced w area (r.contents area) g (sym (sound.again area k v)) (sound.good area k v))

  -- from an area that holds good contents with no code out, where the first number is how many are out
  module _ (empty : List ℕ) (s : S) (b : empty ≡ r.bytes s) (h : Good s) where
    pub all_valid : (ws : List Operation) → GoodOperations ws → r.valid (all_done r apply ws empty) ≡ true
    all_valid ws g = still _ _ _ (all-balanced ws empty s g b h)

    pub first-number : out s ≡ 0 → ((s : S) → Good s → number_at 0 (r.bytes s) ≡ out s) → FirstNumber r apply takes empty
    first-number z first ws g =
        let y : Balanced r Good loans (out s) (all_done r apply ws empty) (all_changes r apply takes ws empty) = all-balanced ws empty s g b h in
        let n : number_at 0 (all_done r apply ws empty) ≡ out y.contents = ap (number_at 0) y.bytes ∙ first y.contents y.good in
        omega (arith, n, z, y.balance)
