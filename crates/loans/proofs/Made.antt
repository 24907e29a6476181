-- A call on an area that holds good contents makes no change, or one. Over any register.
use Prim.Native.Nat.{ℕ}
use mathlib.Core.Path.{◌≡◌, refl}
use mathlib.Core.List.{List, [], ◌∷◌}
use Rattle.iscc.specs.Answer.{Answer, accept, refuse, ◌>>=◌}
use Rattle.iscc.specs.Doors.{code_bytes}
use Rattle.loans.specs.Map.{Change, issue_code, return_code}
use Rattle.loans.specs.Calls.{Call, issue, take_back, ask, result_of, issued, returned}
use Rattle.loans.specs.Register.{Register, changed_area, call_area}
use Rattle.loans.specs.Good.{IsCode, GoodChange, GoodCall, Sound}
use Rattle.loans.specs.Operations.{made_of, made_by}
use Rattle.loans.proofs.Loan.{code_in}

pub data Made {S : Type 0} (r : Register S) (s : S) (chs : List Change) (area : List ℕ) : Type 0 where
  nothing : chs ≡ [] → area ≡ r.bytes s → Made r s chs area
  change : (ch : Change) (s' : S) → GoodChange ch → r.changes ch s ≡ accept s' → chs ≡ ch ∷ [] → area ≡ r.bytes s' → Made r s chs area

module _ {S : Type 0} (r : Register S) (Good : S → Type 0) (sound : Sound r Good) (area : List ℕ) (s : S) (b : area ≡ r.bytes s) (h : Good s) where
  changed-is : (ch : Change) → changed_area r ch area ≡ (r.changes ch s >>= λ s'. accept (r.bytes s'))
  unfolding changed_area
  changed-is ch = rw (b, sound.valid s h, sound.back s h)

  text-made : (of : List ℕ → Change) → ((c : List ℕ) → IsCode c → GoodChange (of c)) → (t : List ℕ) (x : Answer (List ℕ)) → code_bytes t ≡ x
      → let y = result_of area (x >>= λ c. changed_area r (of c) area) in Made r s (made_of of x y.answer) y.state
  text-made of f t (refuse q) e = nothing refl b
  text-made of f t (accept c) e = rw (changed-is (of c)) (go (r.changes (of c) s) refl)
    where
      go : (y : Answer S) → r.changes (of c) s ≡ y
          → let z = result_of area (y >>= λ s'. accept (r.bytes s')) in Made r s (made_of of (accept c) z.answer) z.state
      go (accept s') a = change (of c) s' (f c (code_in t c e)) a refl refl
      go (refuse q) a = nothing refl b

  pub call-made : (k : Call) → GoodCall k → let y = call_area r k area in Made r s (made_by k y.answer) y.state
  unfolding issued returned
  call-made (issue t n) g = text-made (λ c. issue_code c n) (λ c i. record { code = i; borrower = g }) t (code_bytes t) refl
  call-made (take_back t) g = text-made (λ c. return_code c) (λ c i. i) t (code_bytes t) refl
  call-made (ask t) g = nothing refl b
