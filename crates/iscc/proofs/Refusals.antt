-- Each number has one refusal, and each refusal one number.
use Prim.Native.Nat.{ℕ, ◌+◌, ◌<◌}
use mathlib.Core.Path.{◌≡◌, refl, sym, ◌∙◌, ap}
use mathlib.Core.Bool.{Bool, true, false, cond, ◌||◌}
use mathlib.Core.List.{List, [], ◌∷◌}
use denote.Struct.Props.{props}
use lib.Dec.{eqb}
use lib.ListN.{length, get_or, drop}
use borrow.Author.Tests.{eqb-true, ne_eqb}
use Rattle.std.proofs.lemmas.List.{at_drop_more}
use Rattle.iscc.specs.NamedNumbers.{is_named}
use Rattle.iscc.specs.Refusals.{Refusal, refusal_number, refusals, numbered, refusal_if, refusal}
use Rattle.iscc.specs.declared.refusal.Refusal.TheVariants as declared
use Rattle.iscc.proofs.Booleans.{true-false}

-- a refusal of a list has the number
abbrev pub has : ℕ → List Refusal → Bool
has n [] = false
has n (q ∷ qs) = eqb (refusal_number q) n || has n qs

numbered-has : (n : ℕ) (qs : List Refusal) → has n qs ≡ true → refusal_number (numbered n qs) ≡ n
numbered-has n [] h = absurd (true-false h refl)
numbered-has n (q ∷ qs) h = go (eqb (refusal_number q) n) refl h (numbered-has n qs)
  where
    go : (b : Bool) → eqb (refusal_number q) n ≡ b → (b || has n qs) ≡ true → (has n qs ≡ true → refusal_number (numbered n qs) ≡ n)
        → refusal_number (cond b q (numbered n qs)) ≡ n
    go true e k f = eqb-true (refusal_number q) n e
    go false e k f = f k

pub number-refusal : (n : ℕ) → refusal_number (refusal n) ≡ n
unfolding is_named
number-refusal n = go (is_named n) refl
  where
    go : (b : Bool) (e : is_named n ≡ b) → refusal_number (refusal_if n b e) ≡ n
    go true e = numbered-has n refusals e
    go false e = refl

-- any other number has the one that holds it
pub refusal-other : (n : ℕ) (h : is_named n ≡ false) → refusal n ≡ declared.Other (record { number = n; other = h })
refusal-other n h = go (is_named n) refl
  where
    go : (b : Bool) (e : is_named n ≡ b) → refusal_if n b e ≡ declared.Other (record { number = n; other = h })
    go true e = absurd (true-false e h)
    go false e =
        let one : IsProp (is_named n ≡ false) = hlevel props in
        ap (λ (x : is_named n ≡ false). declared.Other (record { number = n; other = x })) (one e h)

-- so no two refusals have the same number
pub refusal-number : (q : Refusal) → refusal (refusal_number q) ≡ q
unfolding is_named
refusal-number declared.EmptyText = refl
refusal-number declared.LongText = refl
refusal-number declared.LongRun = refl
refusal-number declared.BadCharacter = refl
refusal-number declared.BadCount = refl
refusal-number declared.SpareBits = refl
refusal-number declared.BadHeader = refl
refusal-number declared.NotPermitted = refl
refusal-number declared.ShortBody = refl
refusal-number declared.NotJoinable = refl
refusal-number declared.Not64Bits = refl
refusal-number declared.MainTypeTwice = refl
refusal-number declared.LacksDataOrInstance = refl
refusal-number declared.SubtypesDiffer = refl
refusal-number declared.AreaTooShort = refl
refusal-number declared.OtherText = refl
refusal-number declared.NumberTooLarge = refl
refusal-number declared.NoDistance = refl
refusal-number declared.BytesLeftOver = refl
refusal-number declared.AlreadyOut = refl
refusal-number declared.AllOut = refl
refusal-number declared.NotOut = refl
refusal-number declared.NotRegister = refl
refusal-number declared.NotRecord = refl
refusal-number declared.NumberGap = refl
refusal-number declared.NumbersSpent = refl
refusal-number declared.LastNumbersDiffer = refl
refusal-number declared.LogTorn = refl
refusal-number declared.LoansDiffer = refl
refusal-number (declared.Other n) = refusal-other n.number n.other

-- ---- the table, gone through until a refusal has the number: qs is what is left of it

pub record Left (n : ℕ) (qs : List Refusal) : Type 0 where
  pub named : is_named n ≡ has n qs
  pub first : numbered n qs ≡ numbered n refusals

pub left-all : (n : ℕ) (qs : List Refusal) → qs ≡ refusals → Left n qs
unfolding is_named
left-all n qs e = record { named = sym (ap (has n) e); first = ap (numbered n) e }

pub left_next : (n : ℕ) (qs : List Refusal) (i : ℕ) (d : Refusal) → i < length qs → Left n (drop i qs) → (refusal_number (get_or qs i d) ≡ n → ⊥) → Left n (drop (i + 1) qs)
left_next n qs i d inside left ne =
    let k : eqb (refusal_number (get_or qs i d)) n ≡ false = ne_eqb (refusal_number (get_or qs i d)) n ne in
    let same : has n (drop i qs) ≡ has n (drop (i + 1) qs) = at_drop_more (has n) qs i d inside ∙ rw k in
    let later : numbered n (drop i qs) ≡ numbered n (drop (i + 1) qs) = at_drop_more (numbered n) qs i d inside ∙ rw k in
    record { named = left.named ∙ same; first = sym later ∙ left.first }
