-- A line that is made part by part, and cut at 200 bytes.
use Prim.Native.Nat.{ℕ, zero, suc, ◌+◌, ◌-◌, ◌≤◌, min}
use mathlib.Core.Path.{◌≡◌, refl, sym, ◌∙◌, ap, subst}
use mathlib.Core.List.{List, [], ◌∷◌, ◌++◌, append_assoc}
use native.Mathlib.Omega.{arith}
use lib.ListN.{length, take, drop, replicate, length-take, length-drop, length-append, take-append-drop}
use lib.Seq.{take-append_seam, length-take-le, take_all, take_at, drop_at}
use Rattle.std.proofs.Common.{inl, inr}
use Rattle.std.proofs.lemmas.Bool.{cases_lt}
use Rattle.std.proofs.lemmas.List.{drop-replicate}
use Rattle.answers.specs.LineArea.{IsLine}

-- ---- a part behind the first n bytes of b, as far as there is room

module _ (b part x : List ℕ) (n count : ℕ) (size : length b ≡ 200) (room : n ≤ 200) (c : count ≡ min (length part) (200 - n)) (is : x ≡ take count part) where
  length-start : length (take n b) ≡ n
  length-start = length-take-le n b (omega arith)

  length-put : length (take n b ++ x) ≡ n + count
  length-put = length-append (take n b) x ∙ (let l : length x ≡ count = ap length is ∙ length-take-le count part (omega (arith, c)) in omega (arith, length-start))

  all-put : length part ≤ 200 - n → take n b ++ x ≡ take 200 (take n b ++ part)
  all-put h =
      let e : x ≡ part = is ∙ take_all count part (omega (arith, c)) in
      rw e (sym (take_all 200 (take n b ++ part) (simp length-append (omega (arith, length-start)))))

  cut-put : 200 - n ≤ length part → take n b ++ x ≡ take 200 (take n b ++ part)
  cut-put h =
      let l : length (take n b ++ take count part) ≡ 200 = ap (λ (p : List ℕ). length (take n b ++ p)) (sym is) ∙ length-put ∙ omega (arith, c) in
      ap (λ (p : List ℕ). take n b ++ p) is
      ∙ sym (ap (λ (p : List ℕ). take 200 (take n b ++ p)) (sym (take-append-drop count part))
      ∙ ap (take 200) (sym (append_assoc (take n b) (take count part) (drop count part)))
      ∙ take_at (take n b ++ take count part) (drop count part) 200 l)

  pub pushed : (rest : List ℕ) → take (n + count) (take n b ++ (x ++ rest)) ≡ take 200 (take n b ++ part)
  pushed rest =
      ap (take (n + count)) (sym (append_assoc (take n b) x rest)) ∙ take_at (take n b ++ x) rest (n + count) length-put
      ∙ elim (cases_lt (length part) (200 - n)) [
        | inl h ↦ all-put (omega arith)
        | inr h ↦ cut-put h
      ]

  -- the zeros behind it are those that stood there
  pub line-put : IsLine b n → (k : ℕ) → k ≡ count → IsLine (take n b ++ (x ++ drop k (drop n b))) (n + count)
  line-put v k e =
      record {
        within = omega (arith, c);
        size =
            ap length (sym (append_assoc (take n b) x (drop k (drop n b)))) ∙ length-append (take n b ++ x) (drop k (drop n b))
            ∙ simp length-drop (omega (arith, c, e, size, length-put));
        zeros =
            ap (drop (n + count)) (sym (append_assoc (take n b) x (drop k (drop n b))))
            ∙ drop_at (take n b ++ x) (drop k (drop n b)) (n + count) length-put ∙ ap (drop k) v.zeros ∙ drop-replicate k (200 - n) 0
            ∙ ap (λ (m : ℕ). replicate m 0) (omega (arith, e));
      }

-- a length over that of the area stands for all bytes
pub cut-same : (b : List ℕ) (size n m : ℕ) → length b ≡ size → n ≡ min m size → take n b ≡ take m b
cut-same b size n m l h =
    let k : n ≡ length (take m b) = simp length-take (omega arith) in
    rw k (ap (take (length (take m b))) (sym (take-append-drop m b)) ∙ take-append_seam (take m b) (drop m b))

-- ---- parts in a row: cut at each, or once

cut-more : (n : ℕ) (t p : List ℕ) → take n (take n t ++ p) ≡ take n (t ++ p)
cut-more zero t p = refl
cut-more (suc n) [] p = refl
cut-more (suc n) (x ∷ t) p = ap (λ (s : List ℕ). x ∷ s) (cut-more n t p)

-- the line s is r with p behind it, as far as there was room
pub record Behind (r p s : List ℕ) : Type 0 where
  pub is : s ≡ take 200 (r ++ p)

pub put_last : {r s : List ℕ} (p : List ℕ) → s ≡ take 200 (r ++ p) → Behind r p s
put_last p e = record { is = e }

pub put_then : {r₀ r q s : List ℕ} (p : List ℕ) → r ≡ take 200 (r₀ ++ p) → Behind r q s → Behind r₀ (p ++ q) s
put_then {r₀} {r} {q} {s} p e b =
    record { is = b.is ∙ ap (λ (t : List ℕ). take 200 (t ++ q)) e ∙ cut-more 200 (r₀ ++ p) q ∙ ap (take 200) (append_assoc r₀ p q) }

-- a part that is known as another
pub put_same : {r₀ r p' q s : List ℕ} (p : List ℕ) → r ≡ take 200 (r₀ ++ p) → p ≡ p' → Behind r q s → Behind r₀ (p' ++ q) s
put_same {r₀} {r} {p'} {q} {s} p e f b = subst (λ (t : List ℕ). Behind r₀ (t ++ q) s) f (put_then p e b)

pub put_two : (r₀ p q : List ℕ) {r s : List ℕ} → r ≡ take 200 (r₀ ++ p) → s ≡ take 200 (r ++ q) → s ≡ take 200 (r₀ ++ (p ++ q))
put_two r₀ p q e f = (put_then {r₀ = r₀} p e (put_last q f)).is

-- behind a text
pub put_on : {r t p s : List ℕ} → r ≡ t → Behind r p s → s ≡ take 200 (t ++ p)
put_on {r} {t} {p} {s} e b = b.is ∙ ap (λ (u : List ℕ). take 200 (u ++ p)) e

-- and with room for all of it
pub put_all : {r t p s : List ℕ} → r ≡ t → Behind r p s → length (t ++ p) ≤ 200 → s ≡ t ++ p
put_all {r} {t} {p} {s} e b l = put_on e b ∙ take_all 200 (t ++ p) l

-- two parts put at once
pub put_both : {r₀ r q s : List ℕ} (p p' : List ℕ) → r ≡ take 200 (r₀ ++ (p ++ p')) → Behind r q s → Behind r₀ (p ++ (p' ++ q)) s
put_both {r₀} {r} {q} {s} p p' e b = subst (λ (t : List ℕ). Behind r₀ t s) (append_assoc p p' q) (put_then (p ++ p') e b)
