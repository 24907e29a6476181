-- Demand 3: the texts that intake writes are equal exactly when the codes mean the same; the strict door takes exactly what
-- intake writes back; each permitted meaning has one strict text, and intake writes it.
-- Here it follows from two laws: what a text means is permitted, and the text of a permitted meaning has that meaning.
use Prim.Native.Nat.{ℕ, ◌≤◌}
use mathlib.Core.Path.{◌≡◌, refl, sym, ◌∙◌, ap}
use mathlib.Core.Logic.{◌↔◌}
use mathlib.Core.Bool.{true}
use mathlib.Core.List.{List, [], ◌∷◌, ◌++◌}
use native.Mathlib.Nat.{le_of_eq}
use lib.ListN.{length, drop, replicate, length-replicate}
use lib.Seq.{take-append_seam}
use lib.Dec.{leb, eqb}
use borrow.Author.Tests.{le-leb, eqb-true, eq-eqb}
use Rattle.iscc.specs.Answer.{accept, ◌>>=◌, ◌>>◌, ◌otherwise◌}
use Rattle.iscc.specs.Refusals.{other_text}
use Rattle.iscc.specs.Meaning.{Meaning, Permitted}
use Rattle.iscc.specs.Item.{Item, item_bytes, item_of}
use Rattle.iscc.specs.Alphabet.{encode}
use Rattle.iscc.specs.Base32.{base32}
use Rattle.iscc.specs.Lists.{Reordered, same_bytes}
use Rattle.iscc.specs.Items.{read_items, joined_bytes, join}
use Rattle.iscc.specs.Demands.{Demand3}
use Rattle.iscc.proofs.Booleans.{both_true}
use Rattle.iscc.proofs.Order.{means-same, joined_same}
use Rattle.iscc.specs.Doors.{scheme, meaning_of_text, items_of_text, text_of, intake, written_text, strict}
use Rattle.iscc.proofs.Answer.{Accepted, accepted, value_of, passed, answered}

-- ---- the comparison of texts

pub same_bytes-refl : (t : List ℕ) → same_bytes t t ≡ true
unfolding same_bytes
same_bytes-refl [] = refl
same_bytes-refl (c ∷ cs) = rw (eq-eqb c c refl) (same_bytes-refl cs)

pub same_bytes-eq : (s t : List ℕ) → same_bytes s t ≡ true → s ≡ t
unfolding same_bytes
same_bytes-eq [] [] e = refl
same_bytes-eq [] (d ∷ ds) e = cc
same_bytes-eq (c ∷ cs) [] e = cc
same_bytes-eq (c ∷ cs) (d ∷ ds) e =
    let h : (eqb c d ≡ true) × (same_bytes cs ds ≡ true) = both_true (eqb c d) (same_bytes cs ds) e in
    let p : c ≡ d = eqb-true c d h.0 in
    let q : cs ≡ ds = same_bytes-eq cs ds h.1 in
    cc

-- ---- what the doors answer, by the text's meaning

pub intake-of : (t : List ℕ) (m : Meaning) (n : ℕ) → 73 ≤ n → meaning_of_text t ≡ accept m → intake t n ≡ accept (text_of m)
unfolding intake
intake-of t m n h e = rw (le-leb 73 n h, e)

pub intake-means : (t : List ℕ) (n : ℕ) → Accepted (intake t n) → (m : Meaning) × (meaning_of_text t ≡ accept m)
unfolding intake
intake-means t n h =
    let r = value_of (intake t n) h in
    let p = passed (leb 73 n) _ (meaning_of_text t >>= λ m. accept (text_of m)) r.1 in
    let q = answered (meaning_of_text t) (λ m. accept (text_of m)) p.1 in
    (q.0, q.1)

pub written_of : (t : List ℕ) (m : Meaning) (area : List ℕ) → 73 ≤ length area → meaning_of_text t ≡ accept m → written_text t area ≡ text_of m
unfolding written_text
written_of t m area h e =
    let i : intake t (length area) ≡ accept (text_of m) = intake-of t m (length area) h e in
    rw i (take-append_seam (text_of m) (drop (length (text_of m)) area))

pub strict_of : (t : List ℕ) (m : Meaning) → meaning_of_text t ≡ accept m → text_of m ≡ t → strict t ≡ accept m
unfolding strict
strict_of t m e p = rw (e, p, same_bytes-refl t)

pub strict-means : (t : List ℕ) (m : Meaning) → strict t ≡ accept m → (meaning_of_text t ≡ accept m) × (text_of m ≡ t)
unfolding strict
strict-means t m e =
    let q = answered (meaning_of_text t) (λ k. same_bytes (text_of k) t otherwise other_text >> accept k) e in
    let p = passed (same_bytes (text_of q.0) t) _ (accept q.0) q.2 in
    let s : q.0 ≡ m = let z = p.1 in cc in
    (q.1 ∙ ap accept s, ap text_of (sym s) ∙ same_bytes-eq (text_of q.0) t p.0)

-- ---- demand 3

spelled : (m : Meaning) → text_of m ≡ scheme ++ encode base32 (item_bytes (item_of m))
unfolding text_of
spelled m = refl

reordered : (t u : List ℕ) (is js : List Item) (area : ℕ) → items_of_text t ≡ accept is → items_of_text u ≡ accept js → Reordered is js → intake t area ≡ intake u area
unfolding intake meaning_of_text
reordered t u is js area e f r = rw (e, f, means-same r)

join-reordered : (bs cs : List ℕ) (is js : List Item) (area : ℕ) → read_items bs ≡ accept is → read_items cs ≡ accept js → Reordered is js → join bs area ≡ join cs area
unfolding joined_bytes
join-reordered bs cs is js area e f r = rw (e, f, joined_same r)

module _ (meant : (t : List ℕ) (m : Meaning) → meaning_of_text t ≡ accept m → Permitted m)
    (back : (m : Meaning) → Permitted m → meaning_of_text (text_of m) ≡ accept m)
    (short : (m : Meaning) → Permitted m → length (text_of m) ≤ 73) where
  text-inj : (m k : Meaning) → Permitted m → Permitted k → text_of m ≡ text_of k → m ≡ k
  text-inj m k p q e =
      let x : meaning_of_text (text_of m) ≡ accept m = back m p in
      let y : meaning_of_text (text_of k) ≡ accept k = back k q in
      cc

  equal' : (t u a b : List ℕ) → 73 ≤ length a → 73 ≤ length b → (m k : Meaning) → meaning_of_text t ≡ accept m → meaning_of_text u ≡ accept k
      → (written_text t a ≡ written_text u b) ↔ (m ≡ k)
  equal' t u a b ha hb m k e f =
      let x : written_text t a ≡ text_of m = written_of t m a ha e in
      let y : written_text u b ≡ text_of k = written_of u k b hb f in
      (λ w. text-inj m k (meant t m e) (meant u k f) (sym x ∙ w ∙ y), λ p. x ∙ ap text_of p ∙ sym y)

  strictly' : (t : List ℕ) → Accepted (strict t) ↔ ((a : List ℕ) → 73 ≤ length a → Accepted (intake t (length a)) × (written_text t a ≡ t))
  strictly' t = (
    (λ h a w.
        let s = value_of (strict t) h in
        let q = strict-means t s.0 s.1 in
        (accepted (intake t (length a)) (intake-of t s.0 (length a) w q.0), written_of t s.0 a w q.0 ∙ q.1)),
    λ f.
        let zeros : List ℕ = replicate 73 0 in
        let w : 73 ≤ length zeros = le_of_eq (sym (length-replicate {A = ℕ} 73 0)) in
        let g = f zeros w in
        let q = intake-means t (length zeros) g.0 in
        accepted (strict t) (strict_of t q.0 q.1 (sym (written_of t q.0 zeros w q.1) ∙ g.1)),
  )

  accepts' : (t a : List ℕ) → 73 ≤ length a → Accepted (intake t (length a)) ↔ Accepted (meaning_of_text t)
  accepts' t a w = (
    (λ h. let q = intake-means t (length a) h in accepted (meaning_of_text t) q.1),
    λ h. let s = value_of (meaning_of_text t) h in accepted (intake t (length a)) (intake-of t s.0 (length a) w s.1),
  )

  pub demand3-from : Demand3
  demand3-from =
      record {
        equal = equal';
        accepts = accepts';
        strictly = strictly';
        one = λ m p. strict_of (text_of m) m (back m p) refl;
        no_second = λ m t e. sym (strict-means t m e).1;
        written = λ m t a w e. written_of t m a w e;
        spelling = spelled;
        short = λ t m e. (meant t m e, short m (meant t m e));
        any_order = reordered;
        join_any_order = join-reordered;
      }
