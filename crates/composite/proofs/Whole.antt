-- The one code of a list: of one item its own bytes, of more the composite's, which fit 42.
use Prim.Native.Nat.{ℕ, ◌≤◌}
use mathlib.Core.Path.{◌≡◌, refl, sym, ◌∙◌, ap}
use mathlib.Core.List.{List, [], ◌∷◌, append-nil}
use native.Mathlib.Omega.{arith}
use lib.ListN.{length}
use Rattle.iscc.specs.Answer.{accept, ◌>>=◌}
use Rattle.iscc.specs.Digits.{Below}
use Rattle.iscc.specs.Item.{Item, item_bytes, item_of, read_one}
use Rattle.iscc.specs.Items.{items_bytes, read_items, composite_from, meaning_of_items}
use Rattle.iscc.proofs.Answer.{answered, accept-inj}
use Rattle.iscc.proofs.Item.{PermittedItem, item-most}
use Rattle.iscc.proofs.Meaning.{item_back, item-permitted}
use Rattle.iscc.proofs.Items.{ReadAll, read-items, items-read, two-or-more, means-permitted}
use Rattle.iscc.proofs.Split.{read_one-is, one-read}
use Rattle.units.specs.declared.summary.Summary.{Summary}
use Rattle.composite.specs.Joined.{Listed, composed_bytes}
use Rattle.composite.specs.Canonical.{canonical_bytes}
use Rattle.composite.proofs.Joins.{one-or-more}

-- ---- the code of one item, and of more

one-is : (bs : List ℕ) (x : Item) → ReadAll bs (x ∷ []) → (PermittedItem x) × (item_bytes x ≡ bs)
unfolding items_bytes
one-is bs x r = (r.permitted.0, sym (append-nil (item_bytes x)) ∙ r.again)

-- exactly one item is read as a list of one, and its own bytes are the code
pub canonical-one : (bs : List ℕ) (i : Item) → Below 256 bs → read_one bs ≡ accept i → canonical_bytes bs ≡ accept bs
unfolding canonical_bytes meaning_of_items items_bytes
canonical-one bs i b e =
    let r = one-read bs i b e in
    let s : read_items bs ≡ accept (i ∷ []) = ap read_items (sym (append-nil (item_bytes i) ∙ r.1)) ∙ read-items i [] (r.0, tt) in
    rw (s, item_back i r.0) (ap accept r.1)

module _ (bs : List ℕ) (l : Summary) (i : Listed bs l) where
  -- bytes that are not exactly one item hold two or more
  pub two-at-least : Below 256 bs → ((x : Item) → read_one bs ≡ accept x → ⊥) → 2 ≤ l.count
  two-at-least b n =
      let k : 2 ≤ length i.items =
      one-or-more bs i.items (λ is. ReadAll bs is → 2 ≤ length is) i.read
      (λ x q r. let w = one-is bs x r in absurd (n x (ap read_one (sym w.1) ∙ read_one-is x w.0)))
      (λ x y ys q r. omega arith) (items-read bs i.items b i.read) in
      omega (arith, i.summary.count)

  pub canonical-more : 2 ≤ l.count → canonical_bytes bs ≡ composed_bytes bs
  unfolding canonical_bytes composed_bytes meaning_of_items
  canonical-more h = rw (i.read, two-or-more (λ is. meaning_of_items is ≡ composite_from is) (λ x y ys. refl) i.items (omega (arith, i.summary.count)))

-- 42 bytes are room enough
pub canonical-most : (bs : List ℕ) → Below 256 bs → (out : List ℕ) → canonical_bytes bs ≡ accept out → length out ≤ 42
unfolding canonical_bytes
canonical-most bs b out e =
    let r = answered (read_items bs) (λ is. meaning_of_items is >>= λ m. accept (item_bytes (item_of m))) e in
    let a = answered (meaning_of_items r.0) (λ m. accept (item_bytes (item_of m))) r.2 in
    let p = means-permitted r.0 a.0 (items-read bs r.0 b r.1).permitted a.1 in
    omega (arith, item-most (item_of a.0) (item-permitted a.0 p), ap length (accept-inj a.2))
