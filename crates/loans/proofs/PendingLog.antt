-- Records with their numbers, written and read back; what a record does, by its tests, and that the next one does what a live
-- change does; replay does to the register what it does to the plain map with its number.
use Prim.Native.Nat.{ℕ, suc, ◌≤◌, ◌<◌}
use mathlib.Core.Path.{◌≡◌, refl, sym, ◌∙◌, ap, subst}
use mathlib.Core.Bool.{Bool, true, false, cond, not, ◌&&◌}
use mathlib.Core.List.{List}
use native.Mathlib.Omega.{arith}
use lib.ListN.{length, take, drop, length-append, length-take}
use lib.Seq.{take_at, drop_at}
use lib.Dec.{eqb, leb}
use borrow.Author.Tests.{le-leb, lt-leb, eq-eqb, eqb-false, ne_eqb, not-true}
use Rattle.iscc.specs.Answer.{Answer, accept, refuse, ◌>>=◌, ◌>>◌, ◌otherwise◌}
use Rattle.iscc.specs.Refusals.{not_record, number_gap}
use Rattle.iscc.specs.Digits.{digits, value, Below}
use Rattle.iscc.proofs.Digits.{length_digits, below-take, below-drop}
use Rattle.iscc.proofs.Booleans.{both_true}
use Rattle.iscc.proofs.Answer.{passed, accept-inj}
use Rattle.loans.specs.Loan.{Loan, one_code}
use Rattle.loans.specs.Map.{Change, map_changed}
use Rattle.loans.specs.Register.{changed_area, asked_area}
use Rattle.loans.specs.Numbered.{Contents, map_numbered, map_numbered_asked}
use Rattle.loans.specs.Contents.{changed_loans, applied, register}
use Rattle.loans.specs.Operations.{Operation, GoodOperations, all_told}
use Rattle.loans.specs.Fields.{Field, field_bytes}
use Rattle.loans.specs.Log.{records_from}
use Rattle.loans.specs.Replay.{replay_from, replayed}
use Rattle.loans.specs.Writer.{Written, appended, Appended}
use Rattle.loans.specs.Records.{code_of, body_of, is_record}
use Rattle.loans.specs.PendingLog.{NumberedChange, record_of, number_in, behind_number, is_numbered, numbered_of, write_record, in_turn, numbering, apply_with, apply_record, apply_to_map}
use Rattle.loans.specs.Good.{GoodContents, GoodChange}
use Rattle.loans.proofs.Map.{Both}
use Rattle.loans.proofs.Place.{four-bytes-back}
use Rattle.loans.proofs.Numbered.{number-left}
use Rattle.loans.proofs.Contents.{HeldContents, HoldsContents, held-good, held-self, both-good, with-number, list-changes, register-changes, register-asks, register-sound}
use Rattle.loans.proofs.Fields.{bytes-in}
use Rattle.loans.proofs.Replay.{append-writes, replay-alike}
use Rattle.loans.proofs.Performed.{all_told-is}
use Rattle.loans.proofs.Records.{body-length, record_is, change-back, small-value, good-change}

-- ---- a record, written and read back

-- what can be written
pub record GoodNumbered (n : NumberedChange) : Type 0 where
  pub change : GoodChange n.change
  pub some : 0 < n.number
  pub most : n.number < 4294967296

module _ (n : NumberedChange) (g : GoodNumbered n) where
  head : length (digits 8 4 n.number) ≡ 4
  head = length_digits 8 4 n.number

  pub record-short : length (record_of n).body < 65536
  record-short = omega (arith, length-append (digits 8 4 n.number) (body_of n.change), head, body-length n.change g.change)

  pub number-back : number_in (record_of n) ≡ n.number
  number-back = ap (value 8) (take_at (digits 8 4 n.number) (body_of n.change) 4 head) ∙ four-bytes-back n.number g.most

  behind-back : drop 4 (record_of n).body ≡ body_of n.change
  behind-back = drop_at (digits 8 4 n.number) (body_of n.change) 4 head

  pub numbered_is : is_numbered (record_of n) ≡ true
  unfolding is_numbered
  numbered_is =
      let z : eqb n.number 0 ≡ false = ne_eqb n.number 0 (λ e. omega (arith, e, g.some)) in
      rw (behind-back, record_is 3 n.change g.change, number-back, z)

  pub numbered-back : numbered_of (record_of n) ≡ n
  unfolding numbered_of
  numbered-back = rw (number-back, behind-back, change-back 3 n.change g.change)

pub not-zero : (k : ℕ) → not (eqb k 0) ≡ true → 0 < k
not-zero k e = let z : k ≡ 0 → ⊥ = eqb-false k 0 (not-true (eqb k 0) e) in omega arith

-- what is read is good
pub good-numbered : (f : Field) → Below 256 f.body → is_numbered f ≡ true → GoodNumbered (numbered_of f)
unfolding is_numbered numbered_of
good-numbered f k e =
    let a = both_true (is_record 3 (behind_number f)) (not (eqb (number_in f) 0)) e in
    record {
      change = good-change 3 (behind_number f) (below-drop 256 4 f.body k) a.0;
      some = not-zero (number_in f) a.1;
      most = small-value (take 4 f.body) (below-take 256 4 f.body k) (simp length-take (omega arith));
    }

-- ---- a record by its tests

module _ (change : Change → List Loan → Answer (List Loan)) (f : Field) (s : Contents) where
  pub no_record : is_numbered f ≡ false → apply_with change f s ≡ refuse not_record
  unfolding apply_with
  no_record e = rw e

  pub is-record : is_numbered f ≡ true → apply_with change f s ≡ in_turn (number_in f) s.last s (numbering change (numbered_of f) s)
  unfolding apply_with
  is-record e = rw e

module _ {S : Type 0} (k last : ℕ) (s : S) (x : Answer S) where
  pub skip-in-turn : k ≤ last → in_turn k last s x ≡ accept s
  unfolding in_turn
  skip-in-turn h = rw (le-leb k last h)

  pub gap-in-turn : suc last < k → in_turn k last s x ≡ refuse number_gap
  unfolding in_turn
  gap-in-turn h = rw (lt-leb k last (omega (arith, h)), ne_eqb k (suc last) (λ e. omega (arith, e, h)))

  pub next-in-turn : k ≡ suc last → in_turn k last s x ≡ x
  unfolding in_turn
  next-in-turn e = rw (lt-leb k last (omega (arith, e)), eq-eqb k (suc last) e)

-- the next one is a live change
pub next-is-applied : (n : NumberedChange) (s : Contents) → n.number ≡ suc s.last → n.number < 4294967296
    → numbering changed_loans n s ≡ applied n.change s
next-is-applied n s e h =
    ap (λ (k : ℕ). changed_loans n.change s.loans >>= λ ls. accept (record { loans = ls; last = k })) e
    ∙ sym (number-left changed_loans n.change s (omega (arith, e, h)))

-- an accepted record is skipped, or the next one
pub data Took (f : Field) (s s' : Contents) : Type 0 where
  skipped : leb (number_in f) s.last ≡ true → s ≡ s' → Took f s s'
  next : leb (number_in f) s.last ≡ false → numbering changed_loans (numbered_of f) s ≡ accept s' → Took f s s'

pub took : (f : Field) (s s' : Contents) → apply_record f s ≡ accept s' → (is_numbered f ≡ true) × Took f s s'
unfolding apply_with in_turn
took f s s' e = let p = passed (is_numbered f) not_record _ e in (p.0, go (leb (number_in f) s.last) (eqb (number_in f) (suc s.last)) refl p.1)
  where
    go : (b c : Bool) → leb (number_in f) s.last ≡ b → cond b (accept s) (c otherwise number_gap >> numbering changed_loans (numbered_of f) s) ≡ accept s'
        → Took f s s'
    go true c w q = skipped w (accept-inj q)
    go false c w q = next w (passed c number_gap _ q).1

-- ---- replay does to the register what it does to the map

turn-both : (k : ℕ) (s m : Contents) (x y : Answer Contents) → HeldContents s m → Both HeldContents x y
    → Both HeldContents (in_turn k s.last s x) (in_turn k m.last m y)
unfolding in_turn
turn-both k s m x y h b =
    subst (λ (i : ℕ). Both HeldContents (in_turn k s.last s x) (in_turn k i m y)) h.last (go (leb k s.last) (eqb k (suc s.last)))
  where
    go : (a c : Bool) → Both HeldContents (cond a (accept s) (c otherwise number_gap >> x)) (cond a (accept m) (c otherwise number_gap >> y))
    go true c = h
    go false true = b
    go false false = refl

pub record-both : (f : Field) (s m : Contents) → Below 256 f.body → HeldContents s m → Both HeldContents (apply_record f s) (apply_to_map f m)
unfolding apply_with
record-both f s m k h = go (is_numbered f) refl
  where
    n : NumberedChange
    n = numbered_of f

    go : (b : Bool) → is_numbered f ≡ b
        → Both HeldContents (b otherwise not_record >> in_turn (number_in f) s.last s (numbering changed_loans n s))
        (b otherwise not_record >> in_turn (number_in f) m.last m (numbering map_changed n m))
    go false e = refl
    go true e =
        let g : GoodNumbered n = good-numbered f k e in
        turn-both (number_in f) s m _ _ h
        (with-number n.number g.most (changed_loans n.change s.loans) (map_changed n.change m.loans)
        (list-changes n.change s.loans m.loans g.change h.list))

-- a record leaves good contents
pub record-good : (f : Field) (s s' : Contents) → Below 256 f.body → GoodContents s → apply_record f s ≡ accept s' → GoodContents s'
record-good f s s' k h = both-good (apply_record f s) (apply_to_map f s) (record-both f s s k (held-self s h)) s'

-- and so does a log, to its end or to where it stops
pub replay-good : (log : List ℕ) (s : Contents) → Below 256 log → GoodContents s → GoodContents (replay_from apply_record 0 log s).state
replay-good log s k g =
    held-good _ _ (replay-alike apply_record apply_to_map HeldContents record-both (records_from 0 log).whole (records_from 0 log).tear s s (bytes-in 0 log k) (held-self s g)).state

pub register-told : (ws : List Operation) (area : List ℕ) (m : Contents) → GoodOperations ws → HoldsContents area m
    → all_told (changed_area register) (asked_area register) (replayed register apply_record) ws area
    ≡ all_told map_numbered map_numbered_asked (λ log m. accept (replay_from apply_to_map 0 log m)) ws m
register-told =
    all_told-is register GoodContents register-sound HeldContents held-good map_numbered map_numbered_asked register-changes register-asks
    apply_record apply_to_map record-both

-- ---- the writer

module _ (n : NumberedChange) (log : List ℕ) (position : ℕ) (w : Written) (e : write_record n log position ≡ accept w) where
  pub written : (one_code (code_of n.change) && not (eqb n.number 0) ≡ true) × (appended (field_bytes (record_of n)) log position ≡ accept w)
  unfolding write_record
  written = passed (one_code (code_of n.change) && not (eqb n.number 0)) not_record (appended (field_bytes (record_of n)) log position) e

  pub write-appends : Appended (field_bytes (record_of n)) log position w
  write-appends = append-writes (field_bytes (record_of n)) log position w written.1
