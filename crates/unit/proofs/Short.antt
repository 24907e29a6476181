-- Exactly one item, by the nibbles of its first two bytes: every permitted header is two bytes of four numbers below 8.
use Rattle.std.specs.Prelude.{Result, Ok, Err}
use Prim.Native.Nat.{ℕ, ◌+◌, ◌*◌, ◌/◌, ◌%◌, ◌≤◌, ◌<◌}
use mathlib.Core.Path.{◌≡◌, refl, sym, ◌∙◌, ap, subst}
use mathlib.Core.Bool.{Bool, true, false, true≢false}
use mathlib.Core.List.{List, [], ◌∷◌, ◌++◌}
use native.Mathlib.Nat.{div-add-mod'}
use native.Mathlib.Omega.{arith}
use borrow.Author.Tests.{eqb-true, eqb-false}
use lib.Dec.{eqb}
use lib.ListN.{length, get_or, drop, length-drop}
use lib.Seq.{drop-cons}
use Rattle.iscc.specs.Answer.{Answer, accept, refuse, is_accepted}
use Rattle.iscc.specs.Refusals.{Refusal}
use Rattle.iscc.specs.Digits.{Below}
use Rattle.iscc.specs.Header.{header_bytes}
use Rattle.iscc.specs.Permitted.{MainType, number, main_type_of, permits, body_bytes}
use Rattle.iscc.specs.Item.{Item, header_of, item_bytes, read_one}
use Rattle.iscc.specs.Representation.{result_of}
use Rattle.iscc.proofs.Answer.{accept-inj, result-accepted, result-refused}
use Rattle.iscc.proofs.Digits.{below-drop}
use Rattle.iscc.proofs.Header.{short-bytes}
use Rattle.iscc.proofs.Permitted.{number_small, main_type_of-number, main_type_of-back, Small, small}
use Rattle.iscc.proofs.Item.{PermittedItem, length-item}
use Rattle.iscc.proofs.Split.{read_one-is, one-read}

-- by the first two bytes
module _ (bs : List ℕ) (below : Below 256 bs) where
  abbrev a : ℕ
  a = get_or bs 0 0

  abbrev b : ℕ
  b = get_or bs 1 0

  -- the one item's numbers are the nibbles
  record Told (m : MainType) : Type 0 where
    pub main_type : number m ≡ a / 16
    pub permitted : permits m (a % 16) (b / 16) (b % 16) ≡ true
    pub whole : length bs ≡ 2 + body_bytes m (a % 16) (b % 16)

  told : (i : Item) → read_one bs ≡ accept i → Told i.main_type
  unfolding item_bytes
  told i e =
      let o = one-read bs i below e in
      let s : Small i.subtype i.version i.length_number = small i.main_type i.subtype i.version i.length_number o.0.header in
      let n : number i.main_type ≤ 6 = number_small i.main_type in
      let h : header_bytes (header_of i) ≡ (number i.main_type * 16 + i.subtype) ∷ (i.version * 16 + i.length_number) ∷ [] =
      short-bytes (number i.main_type) i.subtype i.version i.length_number (omega arith) (omega arith) (omega arith) (omega arith) in
      let f : bs ≡ (number i.main_type * 16 + i.subtype) ∷ (i.version * 16 + i.length_number) ∷ i.body =
      sym o.1 ∙ ap (λ (xs : List ℕ). xs ++ i.body) h in
      let p : a ≡ number i.main_type * 16 + i.subtype = ap (λ (xs : List ℕ). get_or xs 0 0) f in
      let q : b ≡ i.version * 16 + i.length_number = ap (λ (xs : List ℕ). get_or xs 1 0) f in
      let u : a % 16 ≡ i.subtype = omega arith in
      let v : b / 16 ≡ i.version = omega arith in
      let w : b % 16 ≡ i.length_number = omega arith in
      record { main_type = omega arith; permitted = rw (u, v, w) o.0.header; whole = rw (u, w) (ap length (sym o.1) ∙ length-item i o.0) }

  -- and such nibbles are one item's
  made : (m : MainType) → 2 ≤ length bs → Told m → true ≡ is_accepted (read_one bs)
  unfolding item_bytes
  made m l t =
      let i : Item = record { main_type = m; subtype = a % 16; version = b / 16; length_number = b % 16; body = drop 2 bs } in
      let s : Small (a % 16) (b / 16) (b % 16) = small m (a % 16) (b / 16) (b % 16) t.permitted in
      let n : number m ≤ 6 = number_small m in
      let front : bs ≡ a ∷ b ∷ drop 2 bs = drop-cons bs 0 0 (omega arith) ∙ ap (λ (xs : List ℕ). a ∷ xs) (drop-cons bs 1 0 (omega arith)) in
      let h : header_bytes (header_of i) ≡ a ∷ b ∷ [] =
      short-bytes (number m) (a % 16) (b / 16) (b % 16) (omega arith) (omega arith) (omega arith) (omega arith)
      ∙ rw (t.main_type, div-add-mod' a 16, div-add-mod' b 16) in
      let same : item_bytes i ≡ bs = ap (λ (xs : List ℕ). xs ++ drop 2 bs) h ∙ sym front in
      let size : length (drop 2 bs) ≡ body_bytes m (a % 16) (b % 16) = simp length-drop (omega (arith, t.whole)) in
      let p : PermittedItem i = record { header = t.permitted; body = (size, below-drop 256 2 bs below) } in
      sym (ap is_accepted (ap read_one (sym same) ∙ read_one-is i p))

  none : ((i : Item) → read_one bs ≡ accept i → ⊥) → false ≡ is_accepted (read_one bs)
  none f = go (read_one bs) refl
    where
      go : (x : Answer Item) → read_one bs ≡ x → false ≡ is_accepted (read_one bs)
      go (accept i) e = absurd (f i e)
      go (refuse q) e = sym (ap is_accepted e)

  pub no_header : length bs < 2 → false ≡ is_accepted (read_one bs)
  no_header l = none (λ i e. let t = told i e in omega (arith, t.whole))

  -- what `is_one` makes of the two bytes
  module _ {x y : ℕ} (ex : x ≡ a) (ey : y ≡ b) {n : Result MainType Refusal} (en : n ≡ result_of (main_type_of (x / 16))) where
    type-of : (i : Item) → read_one bs ≡ accept i → main_type_of (x / 16) ≡ accept i.main_type
    type-of i e = rw (ex, ← (told i e).main_type) (main_type_of-number i.main_type)

    pub no-type : (q : Refusal) → n ≡ Err q → false ≡ is_accepted (read_one bs)
    no-type q f = none (λ i e. true≢false (ap is_accepted (sym (type-of i e) ∙ result-refused (main_type_of (x / 16)) q (sym en ∙ f))))

    module _ (m : MainType) (em : n ≡ Ok m) {p : Bool} (ep : p ≡ permits m (x % 16) (y / 16) (y % 16)) where
      type-is : main_type_of (x / 16) ≡ accept m
      type-is = result-accepted (main_type_of (x / 16)) m (sym en ∙ em)

      permits-is : permits m (a % 16) (b / 16) (b % 16) ≡ p
      permits-is = rw (← ex, ← ey) (sym ep)

      by-type : (i : Item) → read_one bs ≡ accept i → Told m
      by-type i e = subst Told (accept-inj (sym (type-of i e) ∙ type-is)) (told i e)

      pub no_row : p ≡ false → false ≡ is_accepted (read_one bs)
      no_row f = none (λ i e. true≢false (sym (by-type i e).permitted ∙ permits-is ∙ f))

      module _ (l : 2 ≤ length bs) (f : p ≡ true) {k : ℕ} (ek : k ≡ body_bytes m (x % 16) (y % 16)) where
        size_is : k ≡ body_bytes m (a % 16) (b % 16)
        size_is = rw (← ex, ← ey) ek

        test-is : (t : Bool) → eqb (length bs) (2 + k) ≡ t → t ≡ is_accepted (read_one bs)
        test-is true e =
            let w : length bs ≡ 2 + k = eqb-true (length bs) (2 + k) e in
            let t : number m ≡ a / 16 = rw (← ex) (main_type_of-back (x / 16) m type-is) in
            made m l (record { main_type = t; permitted = permits-is ∙ f; whole = rw (← size_is) w })
        test-is false e = none (λ i r. eqb-false (length bs) (2 + k) e (rw size_is (by-type i r).whole))

        pub whole-test : eqb (length bs) (2 + k) ≡ is_accepted (read_one bs)
        whole-test = test-is (eqb (length bs) (2 + k)) refl
