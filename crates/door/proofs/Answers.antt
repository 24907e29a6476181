-- What an answer as the code tells it says of the definition's: the bytes that it holds, or the refusal.
use Rattle.iscc.specs.Detailed.{with_detail}
use Rattle.std.specs.Prelude.{Ok, Err}
use Prim.Native.Nat.{ℕ, ◌-◌, ◌≤◌}
use mathlib.Core.Path.{◌≡◌, refl, sym, ◌∙◌, ap, subst}
use mathlib.Core.List.{List, ◌++◌}
use native.Mathlib.Omega.{arith}
use lib.ListN.{length, take, drop, replicate, length-append}
use lib.Seq.{take_at}
use Rattle.iscc.specs.Refusals.{Refusal}
use Rattle.iscc.specs.Answer.{Answer, accept, refuse, area_after}
use Rattle.iscc.specs.Lists.{zero_filled}
use Rattle.iscc.specs.Representation.{written_as, code_as, code_read_as}
use Rattle.iscc.specs.declared.code.Code.{Code}
use Rattle.iscc.specs.declared.refusal.DetailedRefusal.{DetailedRefusal}
use Rattle.iscc.specs.Representation.{Written}
use Rattle.payload.specs.Payloads.{payload_answer_as}

-- the first n of these bytes are what was accepted
abbrev pub Held : Answer (List ℕ) → List ℕ → ℕ → Type 0
Held x bs n = (x ≡ accept (take (n - 0) bs)) × (n ≤ length bs)

front : (out rest : List ℕ) → Held (accept out) (out ++ rest) (length out)
front out rest =
    let m : length out - 0 ≡ length out = omega arith in
    let l = length-append out rest in
    (ap accept (sym (ap (λ (j : ℕ). take j (out ++ rest)) m ∙ take_at out rest (length out) refl)), omega arith)

-- ---- a writer's answer w and the area e after it, of which d was lent

abbrev pub Told : Answer (List ℕ) → List ℕ → Written → List ℕ → Type 0
Told x d w e = (w ≡ written_as x) × (e ≡ area_after x d)

pub told : {x y : Answer (List ℕ)} (d e : List ℕ) (w : Written) → x ≡ y → Told y d w e → Told x d w e
told d e w q h = rw q h

pub written_held : (x : Answer (List ℕ)) (n : ℕ) (a z : List ℕ) → Ok n ≡ written_as x → a ≡ area_after x z → Held x a n
written_held (accept out) n a z e f = let q : n ≡ length out = cc in rw (q, f) (front out (drop (length out) z))
written_held (refuse q) n a z e f = let o : ◌≡◌ {A = ℕ} 0 1 = cc in absurd (omega arith)

pub written-refused : (x : Answer (List ℕ)) (q : Refusal) → Err q ≡ written_as x → x ≡ refuse q
written-refused (accept out) q e = let o : ◌≡◌ {A = ℕ} 0 1 = cc in absurd (omega arith)
written-refused (refuse r) q e = let f : q ≡ r = cc in ap refuse (sym f)

-- ---- a payload, as it is told; a code by value

pub payload-held : (k : ℕ) (x : Answer (List ℕ)) (n : ℕ) (a z : List ℕ) → Ok n ≡ payload_answer_as k x → a ≡ area_after x z → Held x a n
payload-held k (accept out) n a z e f = let q : n ≡ length out = cc in rw (q, f) (front out (drop (length out) z))
payload-held k (refuse q) n a z e f = let o : ◌≡◌ {A = ℕ} 0 1 = cc in absurd (omega arith)

pub payload-not : (k : ℕ) (x : Answer (List ℕ)) (f : DetailedRefusal) → Err f ≡ payload_answer_as k x → (x ≡ refuse f.refusal) × (k ≡ f.detail)
payload-not k (accept bs) f e = cc
payload-not k (refuse r) f e = let s : f ≡ with_detail k r = cc in (ap (λ (d : DetailedRefusal). refuse d.refusal) (sym s), ap (λ (d : DetailedRefusal). d.detail) (sym s))

pub code-held : (k : ℕ) (x : Answer (List ℕ)) (c : Code) → Ok c ≡ code_read_as k x → Held x c.bytes c.length
unfolding code_as zero_filled
code-held k (accept bs) c e = let s : c ≡ code_as bs = cc in subst (λ (d : Code). Held (accept bs) d.bytes d.length) (sym s) (front bs (replicate (42 - length bs) 0))
code-held k (refuse q) c e = cc

pub code-not : (k : ℕ) (x : Answer (List ℕ)) (f : DetailedRefusal) → Err f ≡ code_read_as k x → x ≡ refuse f.refusal
code-not k (accept bs) f e = cc
code-not k (refuse s) f e = let h : f ≡ with_detail k s = cc in ap (λ (d : DetailedRefusal). refuse d.refusal) (sym h)
