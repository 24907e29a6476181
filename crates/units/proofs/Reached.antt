-- The list reader on its way: the items so far, and what the rest adds to them.
use Rattle.std.specs.Prelude.{Ok, Err}
use Prim.Native.Nat.{ℕ, zero, suc, ◌+◌, ◌-◌, ◌≤◌, ◌<◌}
use mathlib.Core.Path.{◌≡◌, refl, sym, ◌∙◌, ap, subst, subst⁻¹}
use mathlib.Core.Bool.{false}
use mathlib.Core.List.{List, [], ◌∷◌, ◌++◌, append_assoc, append-nil}
use native.Mathlib.Omega.{arith}
use lib.ListN.{length, take, drop, length-drop}
use lib.Seq.{drop-drop}
use lib.Dec.{leb}
use borrow.Author.Tests.{le-leb, lt-leb}
use Rattle.iscc.specs.Detailed.{with_detail}
use Rattle.iscc.specs.Refusals.{Refusal}
use Rattle.iscc.specs.Answer.{Answer, accept, refuse, ◌>>=◌}
use Rattle.iscc.specs.Varnibble.{Parsed}
use Rattle.iscc.specs.Item.{Item, read_item}
use Rattle.iscc.specs.Items.{read_up_to, read_items}
use Rattle.iscc.proofs.Parts.{rest-is}
use Rattle.units.specs.declared.summary.Summary.{Summary}
use Rattle.units.specs.Reading.{Reading}
use Rattle.unit.specs.declared.reader.Unit.{Unit}
use Rattle.unit.specs.Representation.{UnitRead}
use Rattle.unit.specs.Representation.{unit_as, unit_read_as}
use Rattle.unit.proofs.Bounds.{ItemBounds, item-bounds}
use Rattle.units.specs.Summary.{Summarizes, empty_summary, added}
use Rattle.units.specs.Reading.{leading_up_to, leading_items, refused_index, reading_as}
use Rattle.units.proofs.Added.{added_is, empty-is}
use Rattle.units.proofs.Leading.{none_left}

-- ---- the items so far

pub record Reached (bs : List ℕ) (is : List Item) (at : ℕ) : Type 0 where
  pub fuel : ℕ
  pub enough : length bs < fuel + at
  pub items : read_items bs ≡ (read_up_to fuel (drop at bs) >>= λ js. accept (is ++ js))
  pub leading : leading_items bs ≡ is ++ leading_up_to fuel (drop at bs)

accept-all : (a : Answer (List Item)) → a ≡ (a >>= λ js. accept js)
accept-all (accept js) = refl
accept-all (refuse q) = refl

pub nothing_read : (bs : List ℕ) → Reached bs [] 0
unfolding read_items leading_items
nothing_read bs =
    record {
      fuel = suc (length bs);
      enough = omega arith;
      items = accept-all (read_up_to (suc (length bs)) bs);
      leading = refl;
    }

module _ (bs : List ℕ) (is : List Item) (at : ℕ) where
  abbrev Items : ℕ → Type 0
  Items n = read_items bs ≡ (read_up_to n (drop at bs) >>= λ js. accept (is ++ js))

  abbrev Leading : ℕ → Type 0
  Leading n = leading_items bs ≡ is ++ leading_up_to n (drop at bs)

  -- the next item is refused
  refused-here : (q : Refusal) → read_item (drop at bs) ≡ refuse q → (n : ℕ) → length bs < n + at → at ≤ length bs → Items n → Leading n
      → (read_items bs ≡ refuse q) × (leading_items bs ≡ is)
  unfolding read_up_to leading_up_to
  refused-here q e zero l w i x = absurd (omega arith)
  refused-here q e (suc n) l w i x = (i ∙ rw e, x ∙ rw e (append-nil is))

  module _ (g : Parsed Item) (e : read_item (drop at bs) ≡ accept g) where
    -- it is the last one
    last-here : length bs ≤ at + g.used → (n : ℕ) → length bs < n + at → at ≤ length bs → Items n → Leading n
        → (read_items bs ≡ accept (is ++ (g.result ∷ []))) × (leading_items bs ≡ is ++ (g.result ∷ []))
    unfolding read_up_to leading_up_to
    last-here f zero l w i x = absurd (omega arith)
    last-here f (suc n) l w i x =
        let z : length (drop g.used (drop at bs)) ≡ 0 = omega (arith, length-drop g.used (drop at bs), length-drop at bs) in (
          i ∙ rw (e, le-leb (length (drop at bs)) g.used (omega (arith, length-drop at bs))),
          x ∙ rw (e, none_left n (drop g.used (drop at bs)) z),
        )

    regroup : (a : Answer (List Item)) → ((a >>= λ js. accept (g.result ∷ js)) >>= λ js. accept (is ++ js)) ≡ (a >>= λ js. accept ((is ++ (g.result ∷ [])) ++ js))
    regroup (accept js) = ap accept (sym (append_assoc is (g.result ∷ []) js))
    regroup (refuse q) = refl

    -- more bytes follow
    more-here : at + g.used < length bs → 1 ≤ g.used → (n : ℕ) → length bs < n + at → at ≤ length bs → Items n → Leading n
        → Reached bs (is ++ (g.result ∷ [])) (at + g.used)
    unfolding read_up_to leading_up_to
    more-here f u zero l w i x = absurd (omega arith)
    more-here f u (suc n) l w i x =
        let d : drop g.used (drop at bs) ≡ drop (at + g.used) bs = drop-drop g.used at bs in
        let c : leb (length (drop at bs)) g.used ≡ false = lt-leb (length (drop at bs)) g.used (omega (arith, length-drop at bs)) in
        record {
          fuel = n;
          enough = omega arith;
          items = i ∙ rw (e, c, d) (regroup (read_up_to n (drop (at + g.used) bs)));
          leading = x ∙ rw (e, d) (sym (append_assoc is (g.result ∷ []) (leading_up_to n (drop (at + g.used) bs))));
        }

-- ---- one turn of the reader, and its summary

module _ (bs : List ℕ) (is : List Item) (at : ℕ) (l : Summary) (r : Reached bs is at) (s : Summarizes bs is l) (w : at ≤ length bs) where
  pub turn-refused : (q : Refusal) → read_item (drop at bs) ≡ refuse q → (read_items bs ≡ refuse q) × (leading_items bs ≡ is)
  turn-refused q e = refused-here bs is at q e r.fuel r.enough w r.items r.leading

  module _ (g : Parsed Item) (e : read_item (drop at bs) ≡ accept g) where
    abbrev it : ItemBounds (drop at bs) g
    it = item-bounds (drop at bs) g e

    pub turn-added : Summarizes bs (is ++ (g.result ∷ [])) (added l g.result.main_type g.result.subtype (length g.result.body) (at + 2))
    turn-added =
        added_is bs is l s g.result (at + 2)
        (omega arith, omega (arith, it.front, it.within, length-drop at bs), ap (take (length g.result.body)) (sym (drop-drop 2 at bs)) ∙ sym it.body)

    pub turn_last : length bs ≤ at + g.used → (read_items bs ≡ accept (is ++ (g.result ∷ []))) × (leading_items bs ≡ is ++ (g.result ∷ []))
    turn_last f = last-here bs is at g e f r.fuel r.enough w r.items r.leading

    pub turn_more : at + g.used < length bs → Reached bs (is ++ (g.result ∷ [])) (at + g.used)
    turn_more f = more-here bs is at g e f (omega (arith, it.front)) r.fuel r.enough w r.items r.leading

-- ---- the reader's loop

pub record Running (bs : List ℕ) (l : Summary) (at : ℕ) : Type 0 where
  pub items : List Item
  pub reached : Reached bs items at
  pub summary : Summarizes bs items l
  pub count : l.count ≤ at
  pub within : at ≤ length bs

pub starts : (bs : List ℕ) (l : Summary) → l ≡ empty_summary → Running bs l 0
starts bs l e =
    subst⁻¹ (λ (k : Summary). Running bs k 0) e
    (record { items = []; reached = nothing_read bs; summary = empty-is bs; count = omega arith; within = omega arith })

-- what the reader answers
abbrev pub Ends : List ℕ → Reading → Summary → Type 0
Ends bs a l = (a ≡ reading_as (refused_index bs) (read_items bs)) × Summarizes bs (leading_items bs) l

-- what `unit::reader::read` found
unit-found : (a : Answer (Parsed Item)) {f : UnitRead} (u : Unit) → f ≡ unit_read_as a → f ≡ Ok u → (g : Parsed Item) × (a ≡ accept g) × (unit_as g ≡ u)
unit-found (accept g) u e h = (g, refl, cc)
unit-found (refuse q) u e h = let z : ◌≡◌ {A = ℕ} 0 1 = cc in absurd (omega arith)

none_found : (a : Answer (Parsed Item)) {f : UnitRead} (q : Refusal) → f ≡ unit_read_as a → f ≡ Err q → a ≡ refuse q
none_found (accept g) q e h = let z : ◌≡◌ {A = ℕ} 0 1 = cc in absurd (omega arith)
none_found (refuse p) q e h = let s : p ≡ q = cc in ap refuse s

pub record Turn (bs : List ℕ) (l : Summary) (at : ℕ) (u : Unit) : Type 0 where
  pub start : u.start ≡ 2
  pub used : 2 ≤ u.used
  pub within : at + u.used ≤ length bs
  pub more : (k : Summary) → k ≡ added l u.main_type u.subtype (u.used - u.start) (at + u.start) → at + u.used < length bs → Running bs k (at + u.used)
  pub ends : (k : Summary) → k ≡ added l u.main_type u.subtype (u.used - u.start) (at + u.start) → length bs ≤ at + u.used → Ends bs (Ok tt) k

module _ (bs : List ℕ) (l : Summary) (at : ℕ) (w : Running bs l at) {f : UnitRead} (ef : f ≡ unit_read_as (read_item (take (length bs - at) (drop at bs)))) where
  pub refuses : (q : Refusal) → f ≡ Err q → Ends bs (Err (with_detail l.count q)) l
  unfolding refused_index
  refuses q e =
      let r : read_item (drop at bs) ≡ refuse q = ap read_item (sym (rest-is bs at)) ∙ none_found (read_item (take (length bs - at) (drop at bs))) q ef e in
      let t = turn-refused bs w.items at l w.reached w.summary w.within q r in
      (rw (t.0, t.1, w.summary.count), subst⁻¹ (λ (x : List Item). Summarizes bs x l) t.1 w.summary)

  module _ (g : Parsed Item) (e : read_item (drop at bs) ≡ accept g) where
    abbrev next_list : Summary
    next_list = added l g.result.main_type g.result.subtype (length g.result.body) (at + 2)

    abbrev here : ItemBounds (drop at bs) g
    here = item-bounds (drop at bs) g e

    same-list : added l g.result.main_type g.result.subtype (g.used - (g.used - length g.result.body)) (at + (g.used - length g.result.body)) ≡ next_list
    same-list =
        let a : g.used - (g.used - length g.result.body) ≡ length g.result.body = omega (arith, here.front) in
        let b : g.used - length g.result.body ≡ 2 = omega (arith, here.front) in
        rw (a, b)

    next-count : next_list.count ≡ l.count + 1
    unfolding added
    next-count = refl

    turn-of : Turn bs l at (unit_as g)
    turn-of =
        let items : List Item = w.items ++ (g.result ∷ []) in
        let s : Summarizes bs items next_list = turn-added bs w.items at l w.reached w.summary w.within g e in
        record {
          start = omega (arith, here.front);
          used = omega (arith, here.front);
          within = omega (arith, here.within, w.within, length-drop at bs, here.front);
          more =
              λ j z h. subst⁻¹ (λ (x : Summary). Running bs x (at + g.used)) (z ∙ same-list)
              (record {
                items = items;
                reached = turn_more bs w.items at l w.reached w.summary w.within g e h;
                summary = s;
                count = omega (arith, next-count, w.count, here.front);
                within = omega arith;
              });
          ends =
              λ j z h. let r = turn_last bs w.items at l w.reached w.summary w.within g e h in
              (rw r.0, subst⁻¹ (λ (x : List Item). Summarizes bs x j) r.1 (subst⁻¹ (λ (x : Summary). Summarizes bs items x) (z ∙ same-list) s));
        }

  pub turn : (u : Unit) → f ≡ Ok u → Turn bs l at u
  turn u e =
      let g = unit-found (read_item (take (length bs - at) (drop at bs))) u ef e in
      subst (Turn bs l at) g.2 (turn-of g.0 (ap read_item (sym (rest-is bs at)) ∙ g.1))
