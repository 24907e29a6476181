-- However the input is cut, the output is the line program's answer to it.
use Rattle.std.specs.Prelude.{Ok}
use Prim.Native.Nat.{ℕ, suc, ◌+◌, ◌*◌, ◌-◌, ◌≤◌, ◌<◌}
use mathlib.Core.Path.{◌≡◌, refl, sym, ◌∙◌, ap}
use mathlib.Core.Bool.{Bool, true, false, cond}
use mathlib.Core.List.{List, [], ◌∷◌, ◌++◌, map, flatten, append-nil, append_assoc}
use native.Mathlib.Omega.{arith}
use lib.ListN.{length, take, drop, length-append, length-drop}
use lib.Seq.{append_snoc, take-length}
use lib.Dec.{eqb, leb}
use borrow.Author.Tests.{le-leb, leb-true, leb-false, eqb-true}
use Rattle.iscc.specs.Representation.{written_as}
use Rattle.iscc.specs.Representation.{Written}
use Rattle.iscc.specs.Answer.{Answer, accept, refuse, area_after}
use Rattle.iscc.specs.Lines.{line_program}
use Rattle.lines.specs.Feeding.{Feeding, answer_line, behind, nothing_fed, feeding, begun_line, held_for, line_for, shortened, room_for, fed_by, fed_as, last_answer, finishing}
use Rattle.lines.specs.declared.feed.Fed.{Fed}
use Rattle.lines.specs.Pieces.{Call, fed_in, taken, outputs, wholly, AnyCut}
use Rattle.lines.proofs.Answers.{answer-short}
use Rattle.lines.proofs.Held.{begun_kept, length-line, begun-none}
use Rattle.lines.proofs.Lines.{NoLF, no-LF-more, program-ended, program-last, shortened-twice, shortened-more, same-answers, same-last}

pub one_more : (u : ℕ) (c : ℕ) (cs : List ℕ) → take (1 + u) (c ∷ cs) ≡ c ∷ take u cs
one_more u c cs = let e : 1 + u ≡ suc u = omega arith in rw e

-- ---- one piece behind a line begun, whatever follows

pub record FedRight (p cs : List ℕ) (f : Feeding) : Type 0 where
  pub no_lf : NoLF f.begun
  pub program : (rest : List ℕ) → line_program (p ++ (take f.used cs ++ rest)) ≡ f.answers ++ line_program (f.begun ++ rest)

fed-nothing : (p cs : List ℕ) → NoLF p → FedRight p cs (nothing_fed p)
fed-nothing p cs h = record { no_lf = h; program = λ rest. refl }

pub fed-right : (room : ℕ) (p cs : List ℕ) → NoLF p → FedRight p cs (feeding room p cs)
unfolding feeding
fed-right room p [] h = fed-nothing p [] h
fed-right room p (c ∷ cs) h = go (leb 74 room) (eqb c 10) refl (fed-right (room - length (answer_line p)) [] cs tt) (fed-right room (p ++ (c ∷ [])) cs)
  where
    ended : (f : Feeding) → c ≡ 10 → FedRight [] cs f → FedRight p (c ∷ cs) (behind 1 (answer_line p) f)
    ended f e r =
        record {
          no_lf = r.no_lf;
          program = λ rest.
              rw (one_more f.used c cs, e)
              (program-ended p (take f.used cs ++ rest) h ∙ ap (λ (l : List ℕ). answer_line p ++ l) (r.program rest) ∙ sym (append_assoc (answer_line p) f.answers (line_program (f.begun ++ rest))));
        }

    begun : (f : Feeding) → FedRight (p ++ (c ∷ [])) cs f → FedRight p (c ∷ cs) (behind 1 [] f)
    begun f r =
        record {
          no_lf = r.no_lf;
          program = λ rest. rw (one_more f.used c cs) (ap line_program (sym (append_snoc p c (take f.used cs ++ rest))) ∙ r.program rest);
        }

    go : (a b : Bool) → eqb c 10 ≡ b → FedRight [] cs (feeding (room - length (answer_line p)) [] cs) → (NoLF (p ++ (c ∷ [])) → FedRight (p ++ (c ∷ [])) cs (feeding room (p ++ (c ∷ [])) cs))
        → FedRight p (c ∷ cs) (cond a (cond b (behind 1 (answer_line p) (feeding (room - length (answer_line p)) [] cs)) (behind 1 [] (feeding room (p ++ (c ∷ [])) cs))) (nothing_fed p))
    go true true e r s = ended _ (eqb-true c 10 e) r
    go true false e r s = begun _ (s (no-LF-more p c h e))
    go false b e r s = fed-nothing p (c ∷ cs) h

-- ---- only what is kept of the line begun matters

pub record Alike (f g : Feeding) : Type 0 where
  pub used : f.used ≡ g.used
  pub answers : f.answers ≡ g.answers
  pub begun : shortened f.begun ≡ shortened g.begun

pub alike : (room : ℕ) (p q cs : List ℕ) → shortened p ≡ shortened q → Alike (feeding room p cs) (feeding room q cs)
unfolding feeding
alike room p q [] e = record { used = refl; answers = refl; begun = e }
alike room p q (c ∷ cs) e = go (leb 74 room) (eqb c 10) (alike room (p ++ (c ∷ [])) (q ++ (c ∷ [])) cs (shortened-more p q c e))
  where
    go : (a b : Bool) → Alike (feeding room (p ++ (c ∷ [])) cs) (feeding room (q ++ (c ∷ [])) cs)
        → Alike
        (cond a (cond b (behind 1 (answer_line p) (feeding (room - length (answer_line p)) [] cs)) (behind 1 [] (feeding room (p ++ (c ∷ [])) cs))) (nothing_fed p))
        (cond a (cond b (behind 1 (answer_line q) (feeding (room - length (answer_line q)) [] cs)) (behind 1 [] (feeding room (q ++ (c ∷ [])) cs))) (nothing_fed q))
    go true true r = rw (same-answers p q e) (record { used = refl; answers = refl; begun = refl })
    go true false r = record { used = ap (λ (n : ℕ). 1 + n) r.used; answers = r.answers; begun = r.begun }
    go false b r = record { used = refl; answers = refl; begun = e }

-- ---- any calls, from a state that keeps the line begun p

pub run : (line p : List ℕ) (held : ℕ) (cs : List Call) → NoLF p → shortened p ≡ shortened (begun_line line held) → outputs line held cs ≡ line_program (p ++ taken line held cs)
unfolding outputs taken
run line p held [] h e = sym (same-last p (begun_line line held) e) ∙ sym (program-last p h) ∙ rw append-nil
run line p held (c ∷ cs) h e =
    let f : Feeding = fed_in line held c in
    let g : Feeding = feeding (room_for line c.room) p c.piece in
    let a : Alike g f = alike (room_for line c.room) p (begun_line line held) c.piece e in
    let r : FedRight p c.piece g = fed-right (room_for line c.room) p c.piece h in
    let line' : List ℕ = line_for f.begun line in
    let held' : ℕ = held_for f.begun in
    let k : shortened g.begun ≡ shortened (begun_line line' held') = a.begun ∙ sym (shortened-twice f.begun) ∙ ap shortened (sym (begun_kept f.begun line)) in
    ap (λ (l : List ℕ). l ++ outputs line' held' cs) (sym a.answers)
    ∙ ap (λ (l : List ℕ). g.answers ++ l) (run line' g.begun held' cs r.no_lf k)
    ∙ sym (r.program (taken line' held' cs))
    ∙ ap (λ (n : ℕ). line_program (p ++ (take n c.piece ++ taken line' held' cs))) a.used

program : (line : List ℕ) (cs : List Call) → outputs line 0 cs ≡ line_program (taken line 0 cs)
program line cs = run line [] 0 cs tt (ap shortened (sym (begun-none line 0 refl)))

-- ---- how far a call gets

pub record FedWithin (room : ℕ) (cs : List ℕ) (f : Feeding) : Type 0 where
  pub used : f.used ≤ length cs
  pub answers : length f.answers ≤ room
  pub whole : 74 * (length cs + 1) ≤ room → f.used ≡ length cs
  pub some : 74 ≤ room → 0 < length cs → 0 < f.used

pub fed-within : (room : ℕ) (p cs : List ℕ) → FedWithin room cs (feeding room p cs)
unfolding feeding
fed-within room p [] = record { used = omega arith; answers = omega arith; whole = λ h. refl; some = λ h l. absurd (omega (arith, l)) }
fed-within room p (c ∷ cs) =
    go (leb 74 room) (eqb c 10) refl (fed-within (room - length (answer_line p)) [] cs) (fed-within room (p ++ (c ∷ [])) cs)
  where
    ended : (q : List ℕ) (f : Feeding) → length q ≤ 74 → 74 ≤ room → FedWithin (room - length q) cs f → FedWithin room (c ∷ cs) (behind 1 q f)
    ended q f l h r =
        record {
          used = omega (arith, r.used);
          answers = simp length-append (omega (arith, r.answers));
          whole = λ w. let e = r.whole (omega (arith, w)) in omega arith;
          some = λ _ _. omega arith;
        }

    go : (a b : Bool) → leb 74 room ≡ a → FedWithin (room - length (answer_line p)) cs (feeding (room - length (answer_line p)) [] cs) → FedWithin room cs (feeding room (p ++ (c ∷ [])) cs)
        → FedWithin room (c ∷ cs) (cond a (cond b (behind 1 (answer_line p) (feeding (room - length (answer_line p)) [] cs)) (behind 1 [] (feeding room (p ++ (c ∷ [])) cs))) (nothing_fed p))
    go true true e r s = ended (answer_line p) _ (answer-short p) (leb-true 74 room e) r
    go true false e r s =
        record {
          used = omega (arith, s.used);
          answers = s.answers;
          whole = λ w. let e = s.whole (omega (arith, w)) in omega arith;
          some = λ _ _. omega arith;
        }
    go false b e r s =
        record {
          used = omega arith;
          answers = omega arith;
          whole = λ w. absurd (omega (arith, leb-false 74 room e, w));
          some = λ w _. absurd (omega (arith, leb-false 74 room e, w));
        }

pub fed_by-is : (line piece : List ℕ) (held room : ℕ) → 1024 ≤ length line → FedWithin room piece (fed_by line held piece room)
unfolding room_for
fed_by-is line piece held room h = rw (le-leb 1024 (length line) h) (fed-within room (begun_line line held) piece)

within : (line piece : List ℕ) (held room : ℕ) → ((fed_by line held piece room).used ≤ length piece) × (length (fed_by line held piece room).answers ≤ room)
unfolding room_for
within line piece held room = go (leb 1024 (length line))
  where
    go : (b : Bool) → ((feeding (cond b room 0) (begun_line line held) piece).used ≤ length piece) × (length (feeding (cond b room 0) (begun_line line held) piece).answers ≤ room)
    go true = let w = fed-within room (begun_line line held) piece in (w.used, w.answers)
    go false = let w = fed-within 0 (begun_line line held) piece in (w.used, omega (arith, w.answers))

pieces-taken : (line : List ℕ) (held : ℕ) (ps : List (List ℕ)) → 1024 ≤ length line → taken line held (map wholly ps) ≡ flatten ps
unfolding taken flatten
pieces-taken line held [] h = refl
pieces-taken line held (p ∷ ps) h =
    let f : Feeding = fed_in line held (wholly p) in
    let u : f.used ≡ length p = (fed_by-is line p held (74 * (length p + 1)) h).whole (omega arith) in
    let t : take f.used p ≡ p = ap (λ (n : ℕ). take n p) u ∙ take-length p in
    let l : 1024 ≤ length (line_for f.begun line) = omega (arith, length-line f.begun line h) in
    ap (λ (q : List ℕ). q ++ taken (line_for f.begun line) (held_for f.begun) (map wholly ps)) t
    ∙ ap (λ (q : List ℕ). p ++ q) (pieces-taken (line_for f.begun line) (held_for f.begun) ps l)

last : (room : ℕ) (p : List ℕ) → 74 ≤ room → finishing room p ≡ accept (last_answer p)
unfolding finishing last_answer
last room [] h = refl
last room (c ∷ p) h = rw (le-leb 74 room h)

pub any-cut : AnyCut
any-cut = record {
  program = program;
  same = λ line area cs ds e. program line cs ∙ ap line_program e ∙ sym (program area ds);
  pieces = λ line ps h. program line (map wholly ps) ∙ ap line_program (pieces-taken line 0 ps h);
  goes = λ line piece held room h r l. (fed_by-is line piece held room h).some r l;
  within = within;
  last = last;
}

-- ---- what a caller of `feed` needs, from its contract

pub record FedBounds (line after piece out area : List ℕ) (r : Fed) : Type 0 where
  pub used : r.used ≤ length piece
  pub some : 0 < r.used
  pub written : r.written ≤ length out
  pub same_line : length after ≡ length line
  pub same_area : length area ≡ length out

pub fed-bounds : (line after piece out area : List ℕ) (held : ℕ) (r : Fed) → 1024 ≤ length line → 74 ≤ length out → 0 < length piece
    → r ≡ fed_as (fed_by line held piece (length out)) → after ≡ line_for (fed_by line held piece (length out)).begun line
    → area ≡ area_after (accept (fed_by line held piece (length out)).answers) out → FedBounds line after piece out area r
fed-bounds line after piece out area held r room space l e f g =
    let w : FedWithin (length out) piece (fed_by line held piece (length out)) = fed_by-is line piece held (length out) room in
    let u : r.used ≡ (fed_by line held piece (length out)).used = ap (λ (x : Fed). x.used) e in
    let n : r.written ≡ length (fed_by line held piece (length out)).answers = ap (λ (x : Fed). x.written) e in
    record {
      used = omega (arith, w.used);
      some = omega (arith, w.some space l);
      written = omega (arith, w.answers);
      same_line = ap length f ∙ length-line _ line room;
      same_area = ap length g ∙ simp (length-append, length-drop) (omega (arith, w.answers));
    }

-- and a caller of `finish`: what was written lies within the area
pub written-within : (x : Answer (List ℕ)) (d a : List ℕ) (w : Written) (n : ℕ) → w ≡ written_as x → a ≡ area_after x d → w ≡ Ok n → n ≤ length a
written-within (accept out) d a w n e f g =
    let k : n ≡ length out = cc in
    let l : length a ≡ length out + length (drop (length out) d) = ap length f ∙ length-append out (drop (length out) d) in
    omega arith
written-within (refuse q) d a w n e f g = let z : ◌≡◌ {A = ℕ} 0 1 = cc in absurd (omega arith)
