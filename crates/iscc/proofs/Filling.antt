-- A lent area in which a list is overwritten, and how a call that fills it ends.
use Rattle.std.specs.Prelude.{Ok, Err}
use Prim.Native.Nat.{ℕ, ◌+◌, ◌≤◌, ◌<◌}
use mathlib.Core.Path.{◌≡◌, refl, sym, ◌∙◌, ap}
use mathlib.Core.List.{List, [], ◌++◌, append_assoc, append-nil}
use native.Mathlib.Omega.{arith}
use lib.ListN.{length, take, drop, length-append, take-append-drop}
use lib.Seq.{length-take-le, take_at, drop_at, drop-drop}
use borrow.Author.Tests.{le-leb, lt-leb}
use Rattle.iscc.specs.Refusals.{Refusal, area_too_short}
use Rattle.iscc.specs.Answer.{Answer, accept, refuse, into, area_after}
use Rattle.iscc.specs.Representation.{written_as}
use Rattle.iscc.specs.Representation as code
use Rattle.iscc.proofs.Area.{WrittenFront, all-written}

-- the area with q in place of what stood from j on
abbrev pub overwritten : List ℕ → ℕ → ℕ → List ℕ → List ℕ
overwritten area j n q = take j area ++ (q ++ drop (j + n) area)

-- a list overwritten behind what is written is written too
pub more-written : {p d area after : List ℕ} {j : ℕ} (n : ℕ) (q : List ℕ) → WrittenFront p d area j → length q ≡ n → j + n ≤ length d → after ≡ overwritten area j n q → WrittenFront (p ++ q) d after (j + n)
more-written {p} {d} {area} {after} {j} n q w e room is =
    let c : length p ≡ j = w.count in
    let t : take j area ≡ p = ap (take j) w.is ∙ take_at p (drop j d) j c in
    let r : drop j area ≡ drop j d = ap (drop j) w.is ∙ drop_at p (drop j d) j c in
    let b : drop (j + n) area ≡ drop (j + n) d = sym (drop-drop n j area) ∙ ap (drop n) r ∙ drop-drop n j d in
    record {
      count = simp length-append (omega arith);
      room = room;
      is = is ∙ rw (t, b) (sym (append_assoc p q (drop (j + n) d)));
    }

-- nothing is overwritten from j on
pub overwritten-none : (area : List ℕ) (j : ℕ) → j ≤ length area → WrittenFront (take j area ++ []) area area j
overwritten-none area j h =
    record {
      count = rw append-nil (length-take-le j area h);
      room = h;
      is = rw append-nil (sym (take-append-drop j area));
    }

pub overwritten-all : {d area : List ℕ} {k : ℕ} (j n : ℕ) (q : List ℕ) → WrittenFront (take j d ++ q) d area k → k ≡ j + n → area ≡ overwritten d j n q
overwritten-all {d} j n q w e = w.is ∙ rw e (append_assoc (take j d) q (drop (j + n) d))

-- the two ways in which a call that fills an area ends
pub too_short : (xs d : List ℕ) {r : code.Written} → length d < length xs → r ≡ Err area_too_short →
    (r ≡ written_as (into (length d) (accept xs))) × (d ≡ area_after (into (length d) (accept xs)) d)
too_short xs d h e = rw (lt-leb (length xs) (length d) h) (e, refl)

pub filled : {xs d area : List ℕ} {j : ℕ} {r : code.Written} → WrittenFront xs d area j → r ≡ Ok j →
    (r ≡ written_as (into (length d) (accept xs))) × (area ≡ area_after (into (length d) (accept xs)) d)
filled {xs} {d} {area} {j} w e =
    let h : length xs ≤ length d = omega (arith, w.count, w.room) in
    let a = all-written w in
    rw (le-leb (length xs) (length d) h) (e ∙ ap Ok a.0, a.1)

pub refused : (d : List ℕ) {x : Answer (List ℕ)} {q : Refusal} {r : code.Written} → x ≡ refuse q → r ≡ Err q →
    (r ≡ written_as (into (length d) x)) × (d ≡ area_after (into (length d) x) d)
refused d e p = rw e (p, refl)

-- a call that answers as y does answers as x does, where the two are the same
pub answers-same : {x y : Answer (List ℕ)} {area : List ℕ} {r : code.Written} (d : List ℕ) → x ≡ y → r ≡ written_as (into (length d) y) → area ≡ area_after (into (length d) y) d →
    (r ≡ written_as (into (length d) x)) × (area ≡ area_after (into (length d) x) d)
answers-same d e p q = rw e (p, q)
