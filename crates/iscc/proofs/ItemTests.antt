-- One item answers as its tests 7, 8, 9 say, and items from the left as the same tests at each.
use Rattle.iscc.specs.Refusals.{refusal_number}
use Prim.Native.Nat.{ℕ, zero, suc, ◌≤◌, ◌<◌, min}
use mathlib.Core.Path.{◌≡◌, refl, sym, ◌∙◌, ap, subst}
use mathlib.Core.Logic.{inl, inr}
use mathlib.Core.Bool.{Bool, true, false, cond, ◌&&◌}
use mathlib.Core.List.{List, [], ◌∷◌}
use native.Mathlib.Nat.{not-suc-le-zero, le_of_suc-le-suc}
use native.Mathlib.Omega.{arith}
use lib.ListN.{length, drop, length-drop, length-take}
use lib.Dec.{leb, ltb, lit<}
use borrow.Author.Tests.{leb-false}
use Rattle.iscc.specs.Refusals.{Refusal, not_permitted, short_body, bytes_left_over}
use Rattle.iscc.specs.Answer.{Answer, accept, refuse, ◌>>=◌, ◌>>◌, ◌otherwise◌}
use Rattle.iscc.specs.Digits.{Below}
use Rattle.iscc.specs.Varnibble.{Parsed}
use Rattle.iscc.specs.Header.{read_header}
use Rattle.iscc.specs.Permitted.{main_type_of, type_of, permits}
use Rattle.iscc.specs.Item.{Item, item_bytes, read_item, read_one}
use Rattle.iscc.specs.Items.{read_up_to, read_items}
use Rattle.iscc.specs.Exactly.{HoldAt, BrokenAt, First}
use Rattle.iscc.specs.RefusalOrder.{header_stages, item_test, item_rules, item_stage, unit_stages, one_stages}
use Rattle.iscc.proofs.Answer.{never, answered, accept-inj, accepted-value, both-tests, test-then}
use Rattle.iscc.proofs.Digits.{below-drop}
use Rattle.iscc.proofs.Item.{ReadItem, item-read, length-item}
use Rattle.iscc.proofs.Steps.{By, done, refusing, holding, step-once, after-part, behind, made_of}
use Rattle.iscc.proofs.Stages.{hold-all, hold-turn, broken-turn, hold-moved, broken-moved}
use Rattle.iscc.proofs.HeaderTests.{header-by}

-- ---- one item

-- a main type's number below 7, and then a test of that main type, both 8, are one test
pub type-test : {A B : Type 0} (a : Bool) (r : Refusal) (m : A) (b : A → Bool) (x : A → Answer B)
    → ((a otherwise r >> accept m) >>= λ k. (b k otherwise r >> x k)) ≡ (a && b m otherwise r >> x m)
type-test a r m b x = test-then a r m (λ k. b k otherwise r >> x k) ∙ sym (both-tests a (b m) r (x m))

pub unit-by : (bs : List ℕ) → By (unit_stages bs) (read_item bs)
unfolding unit_stages header_stages read_item main_type_of
unit-by bs =
    after-part (header_stages bs) _ (read_header bs) _ (header-by bs)
    (λ h e. rw e
    (subst (By _)
    (sym (type-test (ltb h.result.main_type 7) not_permitted (type_of h.result.main_type)
    (λ m. permits m h.result.subtype h.result.version h.result.length_number) _))
    (step-once _ not_permitted _ _ (step-once _ short_body _ [] (done _)))))

pub one-by : (bs : List ℕ) → By (one_stages bs) (read_one bs)
unfolding one_stages read_one
one-by bs =
    behind (unit_stages bs) (read_item bs) _ _ (unit-by bs)
    (λ g e. step-once (leb (length bs) g.used) bytes_left_over (accept g.result) [] (done g.result))

-- ---- the stage of items from the left, by the first item

abbrev at : List ℕ → (List ℕ → Bool) → ℕ → Bool
at bs p j = item_test p bs j

item-broken : (bs : List ℕ) (q : Refusal) → read_item bs ≡ refuse q → BrokenAt (item_stage bs) (refusal_number q) 0
unfolding unit_stages item_test
item-broken bs q e = let f = (unit-by bs).refused q e in broken-turn (at bs) 0 bs (λ p. refl) item_rules (refusal_number q) f.0 f.1

module _ (bs : List ℕ) (g : Parsed Item) (e : read_item bs ≡ accept g) where
  item-holds : HoldAt (item_stage bs) 0
  unfolding unit_stages item_test
  item-holds = hold-turn (at bs) 0 bs (λ p. refl) item_rules ((unit-by bs).accepted g e)

  -- it was the last
  ended : leb (length bs) g.used ≡ true → (j : ℕ) → HoldAt (item_stage bs) j
  unfolding item_test
  ended l zero = item-holds
  ended l (suc j) = hold-all (at bs) (suc j) (λ p. rw (e, l)) item_rules

  -- there are more
  module _ (l : leb (length bs) g.used ≡ false) where
    abbrev rest : List ℕ
    rest = drop g.used bs

    next : (p : List ℕ → Bool) (j : ℕ) → item_test p bs (suc j) ≡ item_test p rest j
    unfolding item_test
    next p j = rw (e, l)

    next-broken : (n k : ℕ) → BrokenAt (item_stage rest) n k → BrokenAt (item_stage bs) n (suc k)
    next-broken n k b = broken-moved (at bs) (suc k) (at rest) k (λ p. next p k) item_rules n b

    next-hold : (P : ℕ → Type 0) → ((j : ℕ) → P (suc j) → HoldAt (item_stage rest) j) → (j : ℕ) → P j → HoldAt (item_stage bs) j
    next-hold P f zero h = item-holds
    next-hold P f (suc j) h = hold-moved (at bs) (suc j) (at rest) j (λ p. next p j) item_rules (f j h)

    -- so an answer that is by the stage of the rest is by this one
    next-by : {A : Type 0} (y : Answer A) → By (item_stage rest ∷ []) y → By (item_stage bs ∷ []) y
    next-by y i =
        record {
          accepted = λ a z. ((λ j. next-hold (λ _. Unit {0}) (λ k _. (i.accepted a z).0 k) j tt), tt);
          refused = λ q z. from (refusal_number q) (i.refused q z);
        }
      where
        from : (n : ℕ) → ((k : ℕ) × First (item_stage rest ∷ []) n k) → (k : ℕ) × First (item_stage bs ∷ []) n k
        from n (k, inl (h, b)) = (suc k, inl (next-hold (λ j. j < suc k) (λ j l. h j (le_of_suc-le-suc l)), next-broken n k b))
        from n (k, inr (h, f)) = absurd f

-- an item takes at least two bytes
used-some : (bs : List ℕ) (g : Parsed Item) → Below 256 bs → read_item bs ≡ accept g → 2 ≤ g.used
used-some bs g k e =
    let r : ReadItem bs g = item-read bs g k e in
    let a : length (item_bytes g.result) ≡ min g.used (length bs) = ap length r.again ∙ length-take g.used bs in
    let b = length-item g.result r.permitted in
    omega arith

up-to-by : (n : ℕ) (bs : List ℕ) → Below 256 bs → length bs < n → By (item_stage bs ∷ []) (read_up_to n bs)
unfolding read_up_to
up-to-by zero bs k l = absurd (not-suc-le-zero l)
up-to-by (suc n) bs k l = go (λ cs. up-to-by n cs) (read_item bs) refl
  where
    go : ((cs : List ℕ) → Below 256 cs → length cs < n → By (item_stage cs ∷ []) (read_up_to n cs)) → (x : Answer (Parsed Item)) → read_item bs ≡ x
        → By (item_stage bs ∷ [])
        (x >>= λ g. cond (leb (length bs) g.used) (accept (g.result ∷ [])) (read_up_to n (drop g.used bs) >>= λ is. accept (g.result ∷ is)))
    go ih (refuse r) e = refusing r 0 (item_stage bs) [] ((λ j l. absurd (not-suc-le-zero l)), item-broken bs r e)
    go ih (accept g) e = more (leb (length bs) g.used) refl
      where
        more : (b : Bool) → leb (length bs) g.used ≡ b
            → By (item_stage bs ∷ []) (cond b (accept (g.result ∷ [])) (read_up_to n (drop g.used bs) >>= λ is. accept (g.result ∷ is)))
        more true q = holding (item_stage bs) [] (accept (g.result ∷ [])) (ended bs g e q) (done (g.result ∷ []))
        more false q =
            let u : 2 ≤ g.used = used-some bs g k e in
            let v : g.used < length bs = leb-false (length bs) g.used q in
            let w : length (drop g.used bs) < n = rw (length-drop g.used bs) (omega arith) in
            made_of (item_stage bs ∷ []) (read_up_to n (drop g.used bs)) (λ is. g.result ∷ is)
            (next-by bs g e q (read_up_to n (drop g.used bs)) (ih (drop g.used bs) (below-drop 256 g.used bs k) w))

pub items-by : (bs : List ℕ) → Below 256 bs → By (item_stage bs ∷ []) (read_items bs)
unfolding read_items
items-by bs k = up-to-by (suc (length bs)) bs k (omega arith)

-- ---- what is read is never no item

up-to-some : (n : ℕ) (bs : List ℕ) (is : List Item) → read_up_to n bs ≡ accept is → 0 < length is
unfolding read_up_to
up-to-some zero bs is e = absurd (never e)
up-to-some (suc n) bs is e =
    let r = answered (read_item bs) _ e in
    go r.0 (leb (length bs) r.0.used) r.2
  where
    go : (g : Parsed Item) (b : Bool)
        → cond b (accept (g.result ∷ [])) (read_up_to n (drop g.used bs) >>= λ is. accept (g.result ∷ is)) ≡ accept is → 0 < length is
    go g true q = subst (λ (xs : List Item). 0 < length xs) (accept-inj q) (lit< tt)
    go g false q =
        accepted-value (read_up_to n (drop g.used bs)) (λ js. g.result ∷ js) (λ js. 0 < length js) (λ js e. omega arith) is q

pub some-items : (bs : List ℕ) (is : List Item) → read_items bs ≡ accept is → 0 < length is
unfolding read_items
some-items bs is e = up-to-some (suc (length bs)) bs is e
