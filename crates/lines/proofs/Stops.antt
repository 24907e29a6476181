-- How far `feed` gets in a piece, and what the bytes that it took leave and end.
use Prim.Native.Nat.{ℕ, zero, suc, ◌+◌, ◌-◌, ◌≤◌, ◌<◌}
use mathlib.Core.Path.{◌≡◌, refl, sym, ◌∙◌, ap, subst}
use mathlib.Core.Logic.{inl, inr}
use mathlib.Core.Bool.{Bool, true, false, cond, false≢true}
use mathlib.Core.List.{List, [], ◌∷◌, ◌++◌}
use native.Mathlib.Omega.{arith}
use native.Mathlib.Nat.{not-suc-le-zero}
use native.Mathlib.Decide.{dec_lt}
use lib.ListN.{length, take, drop, length-append, length-drop}
use lib.Seq.{take-add, take_all}
use lib.Dec.{eqb, leb}
use borrow.Author.Tests.{lt-ltb, le-ltb, le-leb, leb-true}
use Rattle.iscc.specs.Refusals.{refusal_number, area_too_short}
use Rattle.iscc.specs.Answer.{accept}
use Rattle.iscc.specs.Exactly.{BrokenAt}
use Rattle.iscc.proofs.Steps.{By, step-once, done}
use Rattle.iscc.proofs.Exactly.{exactly}
use Rattle.lines.specs.Feeding.{Feeding, answer_line, behind, nothing_fed, feeding, begun_line, held_for, line_for, shortened, Keeps, begun_next, answer_next, begun_after, answers_to, room_for, fed_by, fed_as, finishing}
use Rattle.lines.specs.declared.feed.Fed.{Fed}
use Rattle.lines.specs.Stops.{room_at, feed_stage, Stops, finish_stages, LineTests}
use Rattle.lines.proofs.Held.{begun_kept}
use Rattle.lines.proofs.Lines.{shortened-twice, shortened-more}
use Rattle.lines.proofs.Pieces.{one_more, fed-within}

-- ---- one byte

fed-next : (room : ℕ) (p cs : List ℕ) (c : ℕ) → 74 ≤ room
    → feeding room p (c ∷ cs) ≡ behind 1 (answer_next p c) (feeding (room - length (answer_next p c)) (begun_next p c) cs)
unfolding feeding
fed-next room p cs c h = rw (le-leb 74 room h) (go (eqb c 10))
  where
    go : (b : Bool)
        → cond b (behind 1 (answer_line p) (feeding (room - length (answer_line p)) [] cs)) (behind 1 [] (feeding room (p ++ (c ∷ [])) cs))
        ≡ behind 1 (cond b (answer_line p) []) (feeding (room - length (cond b (answer_line p) [])) (cond b [] (p ++ (c ∷ []))) cs)
    go true = refl
    go false = let n : room - 0 ≡ room = omega arith in rw n

room_next : (room : ℕ) (p cs : List ℕ) (c j : ℕ) → room_at room p (c ∷ cs) (suc j) ≡ room_at (room - length (answer_next p c)) (begun_next p c) cs j
unfolding answers_to
room_next room p cs c j =
    let a = length-append (answer_next p c) (answers_to (begun_next p c) (take j cs)) in
    let n : room - length (answer_next p c ++ answers_to (begun_next p c) (take j cs)) ≡ room - length (answer_next p c) - length (answers_to (begun_next p c) (take j cs)) = omega arith in
    rw n (elim (dec_lt j (length cs)) [
      | yes l ↦ rw (lt-ltb j (length cs) l, lt-ltb (suc j) (suc (length cs)) (omega arith))
      | no l ↦ rw (le-ltb j (length cs) (omega arith), le-ltb (suc j) (suc (length cs)) (omega arith))
    ])

-- ---- all of them

record Far (room : ℕ) (p piece : List ℕ) (f : Feeding) : Type 0 where
  before : (j : ℕ) → j < f.used → room_at room p piece j ≡ true
  here : f.used < length piece → room_at room p piece f.used ≡ false
  begun : f.begun ≡ begun_after p (take f.used piece)
  answers : f.answers ≡ answers_to p (take f.used piece)

far-next : (room : ℕ) (p cs : List ℕ) (c : ℕ) (g : Feeding) → 74 ≤ room → Far (room - length (answer_next p c)) (begun_next p c) cs g
    → Far room p (c ∷ cs) (behind 1 (answer_next p c) g)
unfolding begun_after answers_to
far-next room p cs c g h f =
    let u : 1 + g.used ≡ suc g.used = omega arith in
    record {
      before = from;
      here = λ l. ap (room_at room p (c ∷ cs)) u ∙ room_next room p cs c g.used ∙ f.here (omega arith);
      begun = rw (one_more g.used c cs) f.begun;
      answers = rw (one_more g.used c cs) (ap (λ (l : List ℕ). answer_next p c ++ l) f.answers);
    }
  where
    from : (j : ℕ) → j < 1 + g.used → room_at room p (c ∷ cs) j ≡ true
    from zero l = rw (lt-ltb 0 (suc (length cs)) (omega arith)) (le-leb 74 (room - 0) (omega arith))
    from (suc j) l = room_next room p cs c j ∙ f.before j (omega arith)

far : (room : ℕ) (p piece : List ℕ) → Far room p piece (feeding room p piece)
unfolding feeding begun_after answers_to
far room p [] = record { before = λ j l. absurd (not-suc-le-zero l); here = λ l. absurd (not-suc-le-zero l); begun = refl; answers = refl }
far room p (c ∷ cs) = go (leb 74 room) refl (far (room - length (answer_next p c)) (begun_next p c) cs)
  where
    go : (b : Bool) → leb 74 room ≡ b → Far (room - length (answer_next p c)) (begun_next p c) cs (feeding (room - length (answer_next p c)) (begun_next p c) cs)
        → Far room p (c ∷ cs) (feeding room p (c ∷ cs))
    go true e f = let h : 74 ≤ room = leb-true 74 room e in subst (Far room p (c ∷ cs)) (sym (fed-next room p cs c h)) (far-next room p cs c _ h f)
    go false e f =
        let n : room - 0 ≡ room = omega arith in
        let z : feeding room p (c ∷ cs) ≡ nothing_fed p = rw e in
        subst (Far room p (c ∷ cs)) (sym z)
        (record { before = λ j l. absurd (not-suc-le-zero l); here = λ l. rw (lt-ltb 0 (suc (length cs)) (omega arith), n, e); begun = refl; answers = refl })

both : {b : Bool} → b ≡ true → b ≡ false → ⊥
both e f = false≢true (sym f ∙ e)

pub stops : (room : ℕ) (p piece : List ℕ) → Stops room p piece (feeding room p piece)
stops room p piece =
    record {
      whole = ((λ e j. (at e j, tt)), all);
      stopped = λ k l. ((λ e. ((λ j m. (f.before j (omega arith), tt)), inl (refl, ap (room_at room p piece) (sym e) ∙ f.here (omega arith)))), λ g. first k l (λ j m. (g.0 j m).0) (broken k g.1));
      begun = f.begun;
      answers = f.answers;
    }
  where
    f : Far room p piece (feeding room p piece)
    f = far room p piece

    most : (feeding room p piece).used ≤ length piece
    most = (fed-within room p piece).used

    at : (feeding room p piece).used ≡ length piece → (j : ℕ) → room_at room p piece j ≡ true
    at e j = elim (dec_lt j (length piece)) [ yes l ↦ f.before j (omega arith) | no l ↦ rw (le-ltb j (length piece) (omega arith)) ]

    all : ((j : ℕ) → (room_at room p piece j ≡ true) × Unit {0}) → (feeding room p piece).used ≡ length piece
    all h = elim (dec_lt (feeding room p piece).used (length piece)) [
      | yes l ↦ absurd (both (h (feeding room p piece).used).0 (f.here l))
      | no l ↦ omega (arith, most)
    ]

    broken : (k : ℕ) → BrokenAt (feed_stage room p piece) (refusal_number area_too_short) k → room_at room p piece k ≡ false
    broken k (inl x) = x.1
    broken k (inr x) = absurd x.1

    first : (k : ℕ) → k < length piece → ((j : ℕ) → j < k → room_at room p piece j ≡ true) → room_at room p piece k ≡ false → (feeding room p piece).used ≡ k
    first k l h b = elim (dec_lt (feeding room p piece).used k) [
      | yes m ↦ absurd (both (h (feeding room p piece).used m) (f.here (omega arith)))
      | no m ↦ elim (dec_lt k (feeding room p piece).used) [ yes n ↦ absurd (both (f.before k n) b) | no n ↦ omega arith ]
    ]

finish-by : (room : ℕ) (p : List ℕ) → By (finish_stages room p) (finishing room p)
unfolding finishing
finish-by room [] = step-once true area_too_short (accept []) [] (done [])
finish-by room (c ∷ p) = step-once (leb 74 room) area_too_short _ [] (done (answer_line (c ∷ p)))

pub line-tests : LineTests
line-tests = record { feed_tests = stops; finish_tests = λ room p. exactly _ _ (finish-by room p) }

-- ---- what is kept of the line begun, from piece to piece

pub after-append : (p xs ys : List ℕ) → begun_after p (xs ++ ys) ≡ begun_after (begun_after p xs) ys
unfolding begun_after
after-append p [] ys = refl
after-append p (x ∷ xs) ys = after-append (begun_next p x) xs ys

after-alike : (p q xs : List ℕ) → shortened p ≡ shortened q → shortened (begun_after p xs) ≡ shortened (begun_after q xs)
unfolding begun_after
after-alike p q [] e = e
after-alike p q (x ∷ xs) e = after-alike (begun_next p x) (begun_next q x) xs (go (eqb x 10))
  where
    go : (b : Bool) → shortened (cond b [] (p ++ (x ∷ []))) ≡ shortened (cond b [] (q ++ (x ∷ [])))
    go true = refl
    go false = shortened-more p q x e

-- one call of `feed` more
pub keeps_on : (p line after piece : List ℕ) (held at room : ℕ) (f : Feeding) → 1024 ≤ length line → Keeps line held (begun_after p (take at piece))
    → f ≡ fed_by line held (drop at piece) room → after ≡ line_for f.begun line
    → Keeps after (held_for f.begun) (begun_after p (take (at + f.used) piece))
unfolding room_for
keeps_on p line after piece held at room f h k e z =
    let r : f ≡ feeding room (begun_line line held) (drop at piece) = e ∙ rw (le-leb 1024 (length line) h) in
    let b : f.begun ≡ begun_after (begun_line line held) (take f.used (drop at piece)) =
    rw r (far room (begun_line line held) (drop at piece)).begun in
    let s : begun_line after (held_for f.begun) ≡ shortened f.begun = ap (λ (l : List ℕ). begun_line l (held_for f.begun)) z ∙ begun_kept f.begun line in
    let t : begun_after p (take (at + f.used) piece) ≡ begun_after (begun_after p (take at piece)) (take f.used (drop at piece)) =
    ap (begun_after p) (take-add at f.used piece) ∙ after-append p (take at piece) (take f.used (drop at piece)) in
    ap shortened s ∙ shortened-twice f.begun ∙ ap shortened b
    ∙ after-alike (begun_line line held) (begun_after p (take at piece)) (take f.used (drop at piece)) k ∙ ap shortened (sym t)

-- the same from the contract of `feed`, on the rest of a piece
pub keeps-fed : (p line after piece : List ℕ) (held at room : ℕ) (r : Fed) → 1024 ≤ length line → Keeps line held (begun_after p (take at piece))
    → r ≡ fed_as (fed_by line held (take (length piece - at) (drop at piece)) room)
    → after ≡ line_for (fed_by line held (take (length piece - at) (drop at piece)) room).begun line
    → Keeps after r.held (begun_after p (take (at + r.used) piece))
keeps-fed p line after piece held at room r h k e z =
    let d : take (length piece - at) (drop at piece) ≡ drop at piece = take_all (length piece - at) (drop at piece) (omega (arith, length-drop at piece)) in
    let f : Feeding = fed_by line held (take (length piece - at) (drop at piece)) room in
    let q : f ≡ fed_by line held (drop at piece) room = ap (λ (l : List ℕ). fed_by line held l room) d in
    rw e (keeps_on p line after piece held at room f h k q z)

-- and at its end
pub keeps-all : (p line piece : List ℕ) (held at : ℕ) → Keeps line held (begun_after p (take at piece)) → length piece ≤ at → Keeps line held (begun_after p piece)
keeps-all p line piece held at k h = k ∙ ap (λ (l : List ℕ). shortened (begun_after p l)) (take_all at piece h)
