-- A piece taken line by line.
use Rattle.std.specs.Prelude.{Ok, Err}
use Prim.Native.Nat.{ℕ, suc, ◌+◌, ◌-◌, ◌≤◌, ◌<◌}
use Rattle.std.proofs.Common.{Option}
use Rattle.std.specs.List.{AllWithin, HoldsAt}
use Rattle.std.specs.Option.{MatchOption, unwrap_or}
use Rattle.std.proofs.lemmas.Iterator.{index_from_first}
use mathlib.Core.Path.{◌≡◌, refl, sym, ◌∙◌, ap}
use mathlib.Core.Logic.{⊎_elim}
use mathlib.Core.Bool.{Bool, true, false, not, cond}
use mathlib.Core.List.{List, [], ◌∷◌, ◌++◌, append-nil, append_assoc}
use native.Mathlib.Nat.{suc_inj, le_of_suc-le-suc, eq-or-lt_of_le}
use native.Mathlib.Numerals.{add-one}
use native.Mathlib.Omega.{arith}
use lib.ListN.{length, take, drop, length-take, length-drop, drop_of_length-le}
use lib.Seq.{append_snoc, take_all, drop-drop}
use lib.Dec.{eqb, leb}
use borrow.Author.Tests.{le-leb, lt-leb}
use Rattle.iscc.specs.Refusals.{area_too_short}
use Rattle.iscc.specs.Answer.{accept, ◌>>◌, ◌otherwise◌, area_after}
use Rattle.iscc.specs.Lists.{first_not}
use Rattle.iscc.specs.Representation.{written_as}
use Rattle.iscc.specs.Representation as code
use Rattle.iscc.proofs.Area.{WrittenFront, nothing_written, length-written, all-written}
use Rattle.iscc.proofs.Filling.{overwritten, more-written}
use Rattle.lines.specs.Feeding.{Feeding, not_lf, answer_line, behind, nothing_fed, feeding, fed_by, room_for, fed_as, begun_line, held_for, line_for, finishing}
use Rattle.lines.specs.declared.feed.Fed.{Fed}
use Rattle.lines.proofs.Answers.{answer-short}
use Rattle.lines.proofs.Held.{LineKept, line_same, counted, count-some, begun-none}

-- the first LF
pub lf-first : (t : List ℕ) (r : Option ℕ)
    → MatchOption r (AllWithin (λ c. eqb c 10 ≡ false) t 0 (length t)) (λ i. (i < length t) × HoldsAt (λ c. eqb c 10 ≡ true) t i × AllWithin (λ c. eqb c 10 ≡ false) t 0 i)
    → first_not not_lf t ≡ unwrap_or r (length t)
unfolding first_not
lf-first t r h = index_from_first (first_not not_lf) (λ c. eqb c 10 ≡ true) (λ c. eqb c 10 ≡ false) refl (λ x xs e. rw e) (λ x xs e. rw (e, add-one)) t r h

-- what is taken and answered in two steps
twice : (m n : ℕ) (a b : List ℕ) (f : Feeding) → behind m a (behind n b f) ≡ behind (m + n) (a ++ b) f
twice m n a b f = let e : m + (n + f.used) ≡ m + n + f.used = omega arith in rw (e, ← append_assoc)

zero-behind : (f : Feeding) → behind 0 [] f ≡ f
zero-behind f = let e : 0 + f.used ≡ f.used = omega arith in rw e

pub fed-none : (room : ℕ) (p cs : List ℕ) → room < 74 → feeding room p cs ≡ nothing_fed p
unfolding feeding
fed-none room p [] h = refl
fed-none room p (c ∷ cs) h = rw (lt-leb 74 room h)

-- no LF: all of it goes to the line begun
abbrev pub all_fed : List ℕ → List ℕ → Feeding
all_fed p cs = record { begun = p ++ cs; used = length cs; answers = [] }

pub fed-rest : (room : ℕ) (p cs : List ℕ) → 74 ≤ room → length cs ≡ first_not not_lf cs → feeding room p cs ≡ all_fed p cs
unfolding feeding first_not
fed-rest room p [] h e = rw append-nil
fed-rest room p (c ∷ cs) h e = rw (le-leb 74 room h) (go (eqb c 10) e (fed-rest room (p ++ (c ∷ [])) cs h))
  where
    one : 1 + length cs ≡ suc (length cs)
    one = omega arith

    go : (b : Bool) → suc (length cs) ≡ cond (not b) (suc (first_not not_lf cs)) 0
        → (length cs ≡ first_not not_lf cs → feeding room (p ++ (c ∷ [])) cs ≡ all_fed (p ++ (c ∷ [])) cs)
        → cond b (behind 1 (answer_line p) (feeding (room - length (answer_line p)) [] cs)) (behind 1 [] (feeding room (p ++ (c ∷ [])) cs)) ≡ all_fed p (c ∷ cs)
    go true e ih = absurd (omega (arith, e))
    go false e ih = rw (ih (suc_inj e), append_snoc, one)

-- the first LF at k: one line is answered
abbrev pub line_fed : ℕ → List ℕ → List ℕ → ℕ → Feeding
line_fed room p cs k = behind (k + 1) (answer_line (p ++ take k cs)) (feeding (room - length (answer_line (p ++ take k cs))) [] (drop (k + 1) cs))

pub fed-line : (room : ℕ) (p cs : List ℕ) → 74 ≤ room → first_not not_lf cs < length cs → feeding room p cs ≡ line_fed room p cs (first_not not_lf cs)
unfolding feeding first_not
fed-line room p [] h l = absurd (omega (arith, l))
fed-line room p (c ∷ cs) h l = rw (le-leb 74 room h) (go (eqb c 10) l (fed-line room (p ++ (c ∷ [])) cs h))
  where
    go : (b : Bool) → cond (not b) (suc (first_not not_lf cs)) 0 < suc (length cs)
        → (first_not not_lf cs < length cs → feeding room (p ++ (c ∷ [])) cs ≡ line_fed room (p ++ (c ∷ [])) cs (first_not not_lf cs))
        → cond b (behind 1 (answer_line p) (feeding (room - length (answer_line p)) [] cs)) (behind 1 [] (feeding room (p ++ (c ∷ [])) cs))
        ≡ line_fed room p (c ∷ cs) (cond (not b) (suc (first_not not_lf cs)) 0)
    go true l ih = rw append-nil
    go false l ih = rw (ih (le_of_suc-le-suc l), append_snoc) (same (first_not not_lf cs) (answer_line (p ++ (c ∷ take (first_not not_lf cs) cs))))
      where
        same : (k : ℕ) (q : List ℕ) → behind 1 [] (behind (k + 1) q (feeding (room - length q) [] (drop (k + 1) cs))) ≡ behind (suc k + 1) q (feeding (room - length q) [] (drop (suc k + 1) (c ∷ cs)))
        same k q =
            let one : 1 + (k + 1 + (feeding (room - length q) [] (drop (k + 1) cs)).used) ≡ suc k + 1 + (feeding (room - length q) [] (drop (k + 1) cs)).used = omega arith in
            let two : drop (k + 1) cs ≡ drop (suc k + 1) (c ∷ cs) = rw (add-one k, add-one (suc k)) in
            rw (one, two)

-- ---- the state of the loop over a piece: d was lent, and `used` bytes are answered

pub record Sofar (d piece line : List ℕ) (held : ℕ) (after out : List ℕ) (kept used written : ℕ) : Type 0 where
  pub room : 1024 ≤ length line
  pub same : after ≡ line
  pub count : kept ≡ held_for (begun_line line kept)
  pub within : used ≤ length piece
  pub answers : List ℕ
  pub wrote : WrittenFront answers d out written
  pub rest : feeding (length d) (begun_line line held) piece ≡ behind used answers (feeding (length d - written) (begun_line line kept) (drop used piece))

-- what the contract of `feed` says of its work f
abbrev pub Ended : List ℕ → Feeding → List ℕ → Fed → List ℕ → List ℕ → Type 0
Ended d f line r after out = (r ≡ fed_as f) × ((after ≡ line_for f.begun line) × (out ≡ area_after (accept f.answers) d))

step : (m n : ℕ) (p q cs ds : List ℕ) → m ≡ n → p ≡ q → cs ≡ ds → feeding m p cs ≡ feeding n q ds
step m n p q cs ds e f g = rw (e, f, g)

-- a part of the area comes back, with q in front of what it was
lent_back : (out e q : List ℕ) (k m : ℕ) → k ≤ length out → m ≡ length q → e ≡ area_after (accept q) (take (length out - k) (drop k out))
    → take k out ++ (e ++ drop (length out - k) (drop k out)) ≡ overwritten out k m q
lent_back out e q k m h f g =
    let d : length (drop k out) ≤ length out - k = simp length-drop (omega arith) in
    let none : drop (length out - k) (drop k out) ≡ [] = drop_of_length-le (drop k out) d in
    let all : take (length out - k) (drop k out) ≡ drop k out = take_all (length out - k) (drop k out) d in
    let i : e ≡ q ++ drop (k + m) out = g ∙ rw (all, ← f) (ap (λ (l : List ℕ). q ++ l) (drop-drop m k out)) in
    rw (none, append-nil, i)

-- the last bytes are taken and nothing more is answered
ended : (d line after out : List ℕ) (held written used n : ℕ) (b answers : List ℕ) (f : Feeding) → f ≡ behind used answers (record { begun = b; used = n; answers = [] })
    → LineKept b line held after → WrittenFront answers d out written → Ended d f line (record { held = held; used = used + n; written = written }) after out
ended d line after out held written used n b answers f e k w =
    let a = all-written w in
    rw (e, append-nil) (rw (← k.0, ← a.0), (k.1, a.1))

-- an area too short for the line begun
pub ended-short : (d piece line : List ℕ) (held n : ℕ) → n ≡ held_for (begun_line line held) → length line < 1024
    → Ended d (fed_by line held piece (length d)) line (record { held = n; used = 0; written = 0 }) line d
unfolding room_for
ended-short d piece line held n e l =
    let f : feeding (room_for line (length d)) (begun_line line held) piece ≡ nothing_fed (begun_line line held) = rw (lt-leb 1024 (length line) l) (fed-none 0 _ piece (omega arith)) in
    ended d line line d n 0 0 0 (begun_line line held) [] _ f (e, line_same line held) (nothing_written d)

as-fed : (d piece line after out : List ℕ) (held : ℕ) (r : Fed) → 1024 ≤ length line → Ended d (feeding (length d) (begun_line line held) piece) line r after out
    → Ended d (fed_by line held piece (length d)) line r after out
unfolding room_for
as-fed d piece line after out held r room e = rw (le-leb 1024 (length line) room) e

module _ (d piece line : List ℕ) (held : ℕ) (after out : List ℕ) (kept used written : ℕ) (s : Sofar d piece line held after out kept used written) where
  pub ended-full : length out - written < 74 → Ended d (fed_by line held piece (length d)) line (record { held = kept; used = used; written = written }) after out
  ended-full l =
      let e : feeding (length d - written) (begun_line line kept) (drop used piece) ≡ nothing_fed (begun_line line kept) = fed-none _ _ (drop used piece) (omega (arith, length-written s.wrote)) in
      let k : LineKept (begun_line line kept) line kept after = (s.count, s.same ∙ line_same line kept) in
      let z : used + 0 ≡ used = omega arith in
      let r = ended d line after out kept written used 0 (begun_line line kept) s.answers (feeding (length d) (begun_line line held) piece) (s.rest ∙ ap (behind used s.answers) e) k s.wrote in
      as-fed d piece line after out held _ s.room (rw z at r)

  module _ (cs : List ℕ) (part : cs ≡ take (length piece - used) (drop used piece)) (fits : 74 ≤ length out - written) (n : ℕ) (found : n ≡ first_not not_lf cs) where
    part-is : cs ≡ drop used piece
    part-is = part ∙ take_all (length piece - used) (drop used piece) (simp length-drop (omega arith))

    space : 74 ≤ length d - written
    space = omega (arith, length-written s.wrote)

    rest-is : feeding (length d) (begun_line line held) piece ≡ behind used s.answers (feeding (length d - written) (begun_line line kept) cs)
    rest-is = s.rest ∙ ap (λ (l : List ℕ). behind used s.answers (feeding (length d - written) (begun_line line kept) l)) (sym part-is)

    pub ended-begun : (count : ℕ) (last : List ℕ) → n ≡ length cs → count ≡ held_for (begun_line after kept ++ cs) → last ≡ line_for (begun_line after kept ++ cs) after
        → Ended d (fed_by line held piece (length d)) line (record { held = count; used = used + n; written = written }) last out
    ended-begun count last e f g =
        let a : after ≡ line = s.same in
        let r = ended d line last out count written used (length cs) (begun_line line kept ++ cs) s.answers (feeding (length d) (begun_line line held) piece)
        (rest-is ∙ ap (behind used s.answers) (fed-rest (length d - written) (begun_line line kept) cs space (sym e ∙ found)))
        (f ∙ ap (λ (l : List ℕ). held_for (begun_line l kept ++ cs)) a, g ∙ ap (λ (l : List ℕ). line_for (begun_line l kept ++ cs) l) a)
        s.wrote in
        as-fed d piece line last out held _ s.room (rw e r)

    module _ (within : n ≤ length cs) (more : n ≡ length cs → ⊥) where
      l : n < length cs
      l = ⊎_elim (λ e. absurd (more e)) (λ h. h) (eq-or-lt_of_le within)

      line-fed : (q : List ℕ) → q ≡ answer_line (begun_line line kept ++ take n cs)
          → feeding (length d - written) (begun_line line kept) cs ≡ behind (n + 1) q (feeding (length d - written - length q) [] (drop (n + 1) cs))
      line-fed q e =
          let k : first_not not_lf cs < length cs = omega arith in
          fed-line (length d - written) (begun_line line kept) cs space k ∙ rw (← found, ← e)

      pub next-line : (m : ℕ) (e : List ℕ) → m ≡ length (answer_line (begun_line after kept ++ take (n - 0) cs))
          → e ≡ area_after (accept (answer_line (begun_line after kept ++ take (n - 0) cs))) (take (length out - written) (drop written out))
          → Sofar d piece line held after (take written out ++ (e ++ drop (length out - written) (drop written out))) 0 (used + (n + 1)) (written + m)
      next-line m e f g =
          let z : n - 0 ≡ n = omega arith in
          let q : List ℕ = answer_line (begun_line after kept ++ take (n - 0) cs) in
          let qs : q ≡ answer_line (begun_line line kept ++ take n cs) = rw (z, s.same) in
          let lq : length q ≤ 74 = answer-short (begun_line after kept ++ take (n - 0) cs) in
          let lc : length cs ≡ length piece - used = ap length part-is ∙ length-drop used piece in
          let lo : length out ≡ length d = length-written s.wrote in
          let room : written + m ≤ length d = omega arith in
          let left : length d - written - length q ≡ length d - (written + m) = omega arith in
          let none : [] ≡ begun_line line 0 = sym (begun-none line 0 refl) in
          let gone : drop (n + 1) cs ≡ drop (used + (n + 1)) piece = ap (drop (n + 1)) part-is ∙ drop-drop (n + 1) used piece in
          record {
            room = s.room;
            same = s.same;
            count = count-some line 0 0 (omega arith) (omega arith);
            within = omega (arith, l);
            answers = s.answers ++ q;
            wrote = more-written m q s.wrote (sym f) room (lent_back out e q written m (omega arith) f g);
            rest =
                rest-is
                ∙ ap (behind used s.answers) (line-fed q qs)
                ∙ twice used (n + 1) s.answers q _
                ∙ ap (behind (used + (n + 1)) (s.answers ++ q)) (step (length d - written - length q) (length d - (written + m)) [] (begun_line line 0) (drop (n + 1) cs) (drop (used + (n + 1)) piece) left none gone);
          }

-- what the sums and parts of the loop need
pub record Bounds (piece out : List ℕ) (used written : ℕ) : Type 0 where
  pub taken : used ≤ length piece
  pub filled : written ≤ length out
  pub part : length (take (length piece - used) (drop used piece)) ≡ length piece - used
  pub space : length (take (length out - written) (drop written out)) ≡ length out - written

pub bounds : {d piece line : List ℕ} {held : ℕ} {after out : List ℕ} {kept used written : ℕ} → Sofar d piece line held after out kept used written → Bounds piece out used written
bounds {d} {piece} {line} {held} {after} {out} {kept} {used} {written} s =
    let o : length out ≡ length d = length-written s.wrote in
    let r : written ≤ length d = s.wrote.room in
    record {
      taken = s.within;
      filled = omega arith;
      part = simp (length-take, length-drop) (omega arith);
      space = simp (length-take, length-drop) (omega arith);
    }

pub sofar-none : (d piece line : List ℕ) (held n : ℕ) → 1024 ≤ length line → n ≡ held_for (begun_line line held) → Sofar d piece line held line d n 0 0
sofar-none d piece line held n room e =
    let b : begun_line line n ≡ begun_line line held = (counted line held n e).same in
    let z : length d - 0 ≡ length d = omega arith in
    record {
      room = room;
      same = refl;
      count = e ∙ ap held_for (sym b);
      within = omega arith;
      answers = [];
      wrote = nothing_written d;
      rest = rw (b, z) (sym (zero-behind _));
    }

-- ---- the end of input

-- what the contract of `finish` says of its answer w and the area a
abbrev pub Finished : List ℕ → List ℕ → code.Written → List ℕ → Type 0
Finished d p w a = (w ≡ written_as (finishing (length d) p)) × (a ≡ area_after (finishing (length d) p) d)

pub finishing_none : (room : ℕ) (p : List ℕ) → held_for p ≡ 0 → finishing room p ≡ accept []
unfolding finishing held_for
finishing_none room p z = go p z
  where
    some : (b : Bool) (p : List ℕ) → cond b (suc (length p)) 1025 ≡ 0 → ⊥
    some true p z = omega arith
    some false p z = omega arith

    go : (p : List ℕ) → held_for p ≡ 0 → finishing room p ≡ accept []
    go [] z = refl
    go (c ∷ p) z = absurd (some (leb (suc (length p)) 1024) p z)

module _ (d p : List ℕ) (n : ℕ) (e : n ≡ held_for p) where
  finishing-some : (n ≡ 0 → ⊥) → finishing (length d) p ≡ (leb 74 (length d) otherwise area_too_short >> accept (answer_line p))
  unfolding finishing held_for
  finishing-some l = go p (λ z. l (e ∙ z))
    where
      go : (p : List ℕ) → (held_for p ≡ 0 → ⊥) → finishing (length d) p ≡ (leb 74 (length d) otherwise area_too_short >> accept (answer_line p))
      go [] l = absurd (l refl)
      go (c ∷ p) l = refl

  pub finished-none : n ≡ 0 → Finished d p (Ok 0) d
  finished-none z = rw (finishing_none (length d) p (sym e ∙ z)) (refl, refl)

  pub finished-short : (n ≡ 0 → ⊥) → length d < 74 → Finished d p (Err area_too_short) d
  finished-short l h = rw (finishing-some l, lt-leb 74 (length d) h) (refl, refl)

  pub finished : (m : ℕ) (a : List ℕ) → (n ≡ 0 → ⊥) → 74 ≤ length d → m ≡ length (answer_line p) → a ≡ area_after (accept (answer_line p)) d → Finished d p (Ok m) a
  finished m a l h f g = rw (finishing-some l, le-leb 74 (length d) h) (ap Ok f, g)
