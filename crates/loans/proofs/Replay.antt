-- What replay makes of a log: cut anywhere, appended to, and on two states that are alike.
use Prim.Native.Nat.{ℕ, ◌+◌, ◌≤◌, ◌<◌}
use mathlib.Core.Path.{◌≡◌, refl, sym, ◌∙◌, ap, subst}
use mathlib.Core.Bool.{true, false}
use mathlib.Core.Option.{Option, none, some}
use mathlib.Core.List.{List, [], ◌∷◌, ◌++◌, append_assoc}
use native.Mathlib.Nat.{zero-add}
use native.Mathlib.Omega.{arith}
use lib.ListN.{length, take, drop, length-append, length-drop}
use lib.Seq.{take_at, drop_at, length-take-le}
use lib.Dec.{leb}
use borrow.Author.Tests.{leb-true}
use Rattle.iscc.specs.Answer.{Answer, accept, refuse}
use Rattle.iscc.specs.Refusals.{Refusal, area_too_short}
use Rattle.iscc.specs.Digits.{Below}
use Rattle.iscc.proofs.Answer.{passed, accept-inj}
use Rattle.loans.specs.Fields.{Field, field_bytes, first_size, first_is_whole, first_field}
use Rattle.loans.specs.Log.{Record, Records, records_from}
use Rattle.loans.specs.Replay.{End, ended, torn, stopped, Replayed, go_on, replay_all, replay_from, in_bytes, replayed}
use Rattle.loans.specs.Writer.{Written, appended, Appended}
use Rattle.loans.proofs.Fields.{nil-torn, records-torn, records-whole, BytesIn, bytes-in}
use Rattle.loans.specs.Register.{Register}
use Rattle.loans.specs.Moves.{pasted}
use Rattle.loans.specs.Tears.{end_of_all, whole_before, tear_behind, at_tear, TornOff}
use Rattle.loans.proofs.Tears.{cut_records, cut-anywhere, joined_records, records-append, records-one}
use Rattle.loans.specs.Good.{Sound}
use Rattle.loans.proofs.Map.{Both}
use Rattle.loans.proofs.Calls.{InArea, is-valid, is_held}

-- ---- replay

-- on from where a replay ended, unless it was stopped or met a tear
abbrev pub on_from : {S : Type 0} → S → End → (S → Replayed S) → Replayed S
on_from s ended more = more s
on_from s (torn offset) more = record { state = s; end = torn offset }
on_from s (stopped n offset) more = record { state = s; end = stopped n offset }

module _ {S : Type 0} (apply : Field → S → Answer S) where
  pub replay-tear : (es : List Record) (tear : Option ℕ) (s : S)
      → replay_all apply es tear s ≡ record { state = (replay_all apply es none s).state; end = at_tear tear (replay_all apply es none s).end }
  unfolding replay_all
  replay-tear [] tear s = refl
  replay-tear (e ∷ es) tear s = go (apply e.field s) (λ s'. replay-tear es tear s')
    where
      go : (r : Answer S) → ((s' : S) → replay_all apply es tear s' ≡ record { state = (replay_all apply es none s').state; end = at_tear tear (replay_all apply es none s').end })
          → go_on apply s e.offset r (λ s'. replay_all apply es tear s')
          ≡ record { state = (go_on apply s e.offset r (λ s'. replay_all apply es none s')).state; end = at_tear tear (go_on apply s e.offset r (λ s'. replay_all apply es none s')).end }
      go (accept s') ih = ih s'
      go (refuse n) ih = refl

  replay-cut : (bs : List ℕ) (k : ℕ) (s : S) → k ≤ length bs
      → replay_from apply 0 (take k bs) s
      ≡ record { state = (replay_all apply (whole_before k bs) none s).state; end = at_tear (tear_behind (end_of_all 0 (whole_before k bs)) k) (replay_all apply (whole_before k bs) none s).end }
  replay-cut bs k s l =
      let c = cut-anywhere 0 bs k l ∙ ap (λ (j : ℕ). cut_records 0 j (records_from 0 bs).whole) (zero-add k) in
      ap (λ (x : Records). replay_all apply x.whole x.tear s) c ∙ replay-tear (whole_before k bs) (tear_behind (end_of_all 0 (whole_before k bs)) k) s

  pub torn-off : (r : Register S) (log area : List ℕ) (k : ℕ) → k ≤ length log → r.valid area ≡ true → TornOff r apply log area k
  unfolding replayed
  torn-off r log area k l v =
      let c = replay-cut log k (r.contents area) l in
      record {
        result = in_bytes r apply (replay_from apply 0 (take k log) (r.contents area));
        accepted = rw v;
        state = ap (λ (x : Replayed S). r.bytes x.state) c;
        end = ap (λ (x : Replayed S). x.end) c;
      }

  -- ---- one step of replay, for a loop over the log's bytes

  pub replay-end : (offset : ℕ) (s : S) → replay_from apply offset [] s ≡ record { state = s; end = ended }
  unfolding replay_all
  replay-end offset s = rw (records-torn offset [] nil-torn)

  pub replay-torn : (offset b : ℕ) (bs : List ℕ) (s : S) → first_is_whole (b ∷ bs) ≡ false → replay_from apply offset (b ∷ bs) s ≡ record { state = s; end = torn offset }
  unfolding replay_all
  replay-torn offset b bs s w = rw (records-torn offset (b ∷ bs) w)

  pub replay-step : (offset : ℕ) (bs : List ℕ) (s : S) → first_is_whole bs ≡ true
      → replay_from apply offset bs s ≡ go_on apply s offset (apply (first_field bs) s) (λ s'. replay_from apply (offset + first_size bs) (drop (first_size bs) bs) s')
  unfolding replay_all
  replay-step offset bs s w = rw (records-whole offset bs w)

  -- ---- append, then replay

  pub replay-more : (es fs : List Record) (tear : Option ℕ) (s : S)
      → replay_all apply (es ++ fs) tear s ≡ on_from (replay_all apply es none s).state (replay_all apply es none s).end (λ s'. replay_all apply fs tear s')
  unfolding replay_all
  replay-more [] fs tear s = refl
  replay-more (e ∷ es) fs tear s = go (apply e.field s) (λ s'. replay-more es fs tear s')
    where
      go : (r : Answer S)
          → ((s' : S) → replay_all apply (es ++ fs) tear s' ≡ on_from (replay_all apply es none s').state (replay_all apply es none s').end (λ s''. replay_all apply fs tear s''))
          → go_on apply s e.offset r (λ s'. replay_all apply (es ++ fs) tear s')
          ≡ on_from (go_on apply s e.offset r (λ s'. replay_all apply es none s')).state (go_on apply s e.offset r (λ s'. replay_all apply es none s')).end (λ s''. replay_all apply fs tear s'')
      go (accept s') ih = ih s'
      go (refuse n) ih = refl

  pub ended-only : (tear : Option ℕ) (x : End) → at_tear tear x ≡ ended → (tear ≡ none) × (x ≡ ended)
  ended-only none ended e = (refl, refl)
  ended-only (some offset) ended e = let z : ◌≡◌ {A = ℕ} 0 1 = cc in absurd (omega arith)
  ended-only tear (torn offset) e = let z : ◌≡◌ {A = ℕ} 0 1 = cc in absurd (omega arith)
  ended-only tear (stopped n offset) e = let z : ◌≡◌ {A = ℕ} 0 1 = cc in absurd (omega arith)

  -- a log that ran to its end, and then another: the second goes on from the first's state
  pub replay-append : (bs xs : List ℕ) (s s' : S) → replay_from apply 0 bs s ≡ record { state = s'; end = ended }
      → replay_from apply 0 (bs ++ xs) s ≡ replay_from apply (length bs) xs s'
  replay-append bs xs s s' e =
      let es : List Record = (records_from 0 bs).whole in
      let t : Option ℕ = (records_from 0 bs).tear in
      let r = replay-tear es t s in
      let q : (t ≡ none) × ((replay_all apply es none s).end ≡ ended) =
      ended-only t (replay_all apply es none s).end (sym (ap (λ (x : Replayed S). x.end) r) ∙ ap (λ (x : Replayed S). x.end) e) in
      let z : (replay_all apply es none s).state ≡ s' = sym (ap (λ (x : Replayed S). x.state) r) ∙ ap (λ (x : Replayed S). x.state) e in
      let a : records_from 0 (bs ++ xs) ≡ joined_records es (records_from (length bs) xs) =
      records-append 0 bs xs q.0 ∙ ap (λ (k : ℕ). joined_records es (records_from k xs)) (zero-add (length bs)) in
      ap (λ (x : Records). replay_all apply x.whole x.tear s) a ∙ replay-more es (records_from (length bs) xs).whole (records_from (length bs) xs).tear s
      ∙ rw (q.1, z)

  -- one record appended: exactly that record is applied
  pub replay-one : (offset : ℕ) (f : Field) (s : S) → length f.body < 65536
      → replay_from apply offset (field_bytes f) s ≡ go_on apply s offset (apply f s) (λ s'. record { state = s'; end = ended })
  unfolding replay_all
  replay-one offset f s h = rw (records-one offset f h)

-- ---- the writer

module _ (bytes log : List ℕ) (position : ℕ) (h : position + length bytes ≤ length log) where
  front_length : length (take position log ++ bytes) ≡ position + length bytes
  front_length = let t = length-take-le position log (omega arith) in simp length-append (omega arith)

  -- the log so far, the bytes and the rest, with the first two together
  in-front : pasted position bytes log ≡ (take position log ++ bytes) ++ drop (position + length bytes) log
  unfolding pasted
  in-front = sym (append_assoc (take position log) bytes (drop (position + length bytes) log))

  made : Appended bytes log position (record { log = pasted position bytes log; position = position + length bytes })
  made =
      let f = front_length in
      let d = length-drop (position + length bytes) log in
      record {
        room = h;
        moved = refl;
        size = ap length in-front ∙ length-append (take position log ++ bytes) (drop (position + length bytes) log) ∙ omega arith;
        front = ap (take (position + length bytes)) in-front ∙ take_at (take position log ++ bytes) (drop (position + length bytes) log) (position + length bytes) f;
        rest = ap (drop (position + length bytes)) in-front ∙ drop_at (take position log ++ bytes) (drop (position + length bytes) log) (position + length bytes) f;
      }

pub append-writes : (bytes log : List ℕ) (position : ℕ) (w : Written) → appended bytes log position ≡ accept w → Appended bytes log position w
unfolding appended
append-writes bytes log position w e =
    let p = passed (leb (position + length bytes) (length log)) area_too_short _ e in
    subst (Appended bytes log position) (accept-inj p.1) (made bytes log position (leb-true (position + length bytes) (length log) p.0))

module _ {S : Type 0} (apply : Field → S → Answer S) (f : Field) (short : length f.body < 65536) where
  -- the log so far ran to its end: with a field behind it, replay goes on with that one
  pub append-replay : (log : List ℕ) (position : ℕ) (w : Written) → appended (field_bytes f) log position ≡ accept w
      → (s s' : S) → replay_from apply 0 (take position log) s ≡ record { state = s'; end = ended }
      → replay_from apply 0 (take w.position w.log) s ≡ go_on apply s' (length (take position log)) (apply f s') (λ s''. record { state = s''; end = ended })
  append-replay log position w e s s' r =
      ap (λ (l : List ℕ). replay_from apply 0 l s) (append-writes (field_bytes f) log position w e).front
      ∙ replay-append apply (take position log) (field_bytes f) s s' r ∙ replay-one apply (length (take position log)) f s' short

-- ---- two states that a field changes alike are replayed alike

pub record ReplayedAlike {S M : Type 0} (Rel : S → M → Type 0) (x : Replayed S) (y : Replayed M) : Type 0 where
  pub end : x.end ≡ y.end
  pub state : Rel x.state y.state

-- on an area that holds what stands for m: never 23, the same end, and the area then holds what stands for m's state
pub record ReplayHolds {S M : Type 0} (r : Register S) (f : Field → S → Answer S) (g : Field → M → Answer M) (Rel : S → M → Type 0) (log area : List ℕ) (m : M) : Type 0 where
  pub result : Replayed (List ℕ)
  pub accepted : replayed r f log area ≡ accept result
  pub alike : ReplayedAlike (InArea r Rel) result (replay_from g 0 log m)

module _ {S M : Type 0} (f : Field → S → Answer S) (g : Field → M → Answer M) (Rel : S → M → Type 0)
    (step : (e : Field) (s : S) (m : M) → Below 256 e.body → Rel s m → Both Rel (f e s) (g e m)) where
  pub replay-alike : (es : List Record) (tear : Option ℕ) (s : S) (m : M) → BytesIn es → Rel s m → ReplayedAlike Rel (replay_all f es tear s) (replay_all g es tear m)
  unfolding replay_all
  replay-alike [] tear s m k h = record { end = refl; state = h }
  replay-alike (e ∷ es) tear s m k h =
      go (f e.field s) (g e.field m) (step e.field s m k.0 h) (λ s' m'. replay-alike es tear s' m' k.1)
    where
      go : (x : Answer S) (y : Answer M) → Both Rel x y → ((s' : S) (m' : M) → Rel s' m' → ReplayedAlike Rel (replay_all f es tear s') (replay_all g es tear m'))
          → ReplayedAlike Rel (go_on f s e.offset x (λ s'. replay_all f es tear s')) (go_on g m e.offset y (λ m'. replay_all g es tear m'))
      go (accept s') (accept m') b ih = ih s' m' b
      go (accept s') (refuse q) b ih = absurd b
      go (refuse p) (accept m') b ih = absurd b
      go (refuse p) (refuse q) b ih = record { end = ap (λ (r : Refusal). stopped r e.offset) b; state = h }

  pub replay-holds : (r : Register S) (Good : S → Type 0) → Sound r Good → ((s : S) (m : M) → Rel s m → Good s)
      → (log area : List ℕ) (m : M) → Below 256 log → InArea r Rel area m → ReplayHolds r f g Rel log area m
  unfolding replayed
  replay-holds r Good sound good log area m k h =
      let a : ReplayedAlike Rel (replay_from f 0 log h.contents) (replay_from g 0 log m) =
      replay-alike (records_from 0 log).whole (records_from 0 log).tear h.contents m (bytes-in 0 log k) h.held in
      record {
        result = in_bytes r f (replay_from f 0 log h.contents);
        accepted = rw (is-valid r Good sound Rel good area m h, is_held r Good sound Rel good area m h);
        alike = record { end = a.end; state = record { contents = (replay_from f 0 log h.contents).state; held = a.state; bytes = refl } };
      }
