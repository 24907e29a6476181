-- The items before the first that is refused.
use Prim.Native.Nat.{ℕ, zero, suc}
use mathlib.Core.Path.{◌≡◌, refl, ◌∙◌, ap}
use mathlib.Core.Bool.{Bool, true, false, cond}
use mathlib.Core.List.{List, [], ◌∷◌}
use native.Mathlib.Omega.{arith}
use lib.ListN.{length, drop, length-drop}
use lib.Dec.{leb}
use borrow.Author.Tests.{leb-true}
use Rattle.iscc.specs.Answer.{Answer, accept, refuse, ◌>>=◌}
use Rattle.iscc.specs.Varnibble.{Parsed}
use Rattle.iscc.specs.Item.{Item, read_item}
use Rattle.iscc.specs.Items.{read_up_to, read_items}
use Rattle.iscc.proofs.Answer.{never, answered, accept-inj}
use Rattle.unit.proofs.Bounds.{ItemBounds, item-bounds}
use Rattle.units.specs.Reading.{and_behind, leading_up_to, leading_items}

-- no item is read from no bytes
pub none_left : (n : ℕ) (bs : List ℕ) → length bs ≡ 0 → leading_up_to n bs ≡ []
unfolding leading_up_to
none_left zero bs e = refl
none_left (suc n) bs e = go (read_item bs) refl
  where
    go : (x : Answer (Parsed Item)) → read_item bs ≡ x → and_behind (λ cs. leading_up_to n cs) bs x ≡ []
    go (accept g) r = let b : ItemBounds bs g = item-bounds bs g r in absurd (omega (arith, b.front, b.within))
    go (refuse q) r = refl

all_read : (n : ℕ) (bs : List ℕ) (is : List Item) → read_up_to n bs ≡ accept is → leading_up_to n bs ≡ is
unfolding read_up_to leading_up_to
all_read zero bs is e = absurd (never e)
all_read (suc n) bs is e =
    let r = answered (read_item bs) _ e in
    rw r.1 (go r.0 (leb (length bs) r.0.used) refl (λ js. all_read n (drop r.0.used bs) js) r.2)
  where
    go : (g : Parsed Item) (b : Bool) → leb (length bs) g.used ≡ b
        → ((js : List Item) → read_up_to n (drop g.used bs) ≡ accept js → leading_up_to n (drop g.used bs) ≡ js)
        → cond b (accept (g.result ∷ [])) (read_up_to n (drop g.used bs) >>= λ js. accept (g.result ∷ js)) ≡ accept is
        → g.result ∷ leading_up_to n (drop g.used bs) ≡ is
    go g true t ih h =
        let z : length (drop g.used bs) ≡ 0 = omega (arith, length-drop g.used bs, leb-true (length bs) g.used t) in
        ap (λ (js : List Item). g.result ∷ js) (none_left n (drop g.used bs) z) ∙ accept-inj h
    go g false t ih h =
        let w = answered (read_up_to n (drop g.used bs)) (λ js. accept (g.result ∷ js)) h in
        ap (λ (js : List Item). g.result ∷ js) (ih w.0 w.1) ∙ accept-inj w.2

-- where every item is read they are all
pub leading-all : (bs : List ℕ) (is : List Item) → read_items bs ≡ accept is → leading_items bs ≡ is
unfolding read_items leading_items
leading-all bs is e = all_read (suc (length bs)) bs is e
