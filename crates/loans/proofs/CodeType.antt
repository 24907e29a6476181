-- A code's main type is its first four bits, and one of seven.
use Prim.Native.Nat.{ℕ, ◌/◌, ◌≤◌}
use mathlib.Core.Bool.{true}
use mathlib.Core.Path.{◌≡◌, sym, ◌∙◌, ap, subst}
use mathlib.Core.List.{List}
use lib.ListN.{get_or}
use Rattle.iscc.specs.Item.{read_one}
use Rattle.iscc.proofs.Permitted.{number_small}
use Rattle.iscc.proofs.Item.{item-first}
use Rattle.iscc.proofs.Split.{one-read}
use Rattle.loans.specs.Loan.{one_code}
use Rattle.loans.specs.Counts.{type_in, code_type}
use Rattle.loans.specs.Good.{IsCode}
use Rattle.loans.proofs.Loan.{accepted-by}

type-first : (c : List ℕ) → IsCode c → code_type c ≡ get_or c 0 0 / 16
unfolding code_type one_code
type-first c k =
    let r = accepted-by (read_one c) k.one in
    let o = one-read c r.0 k.bytes r.1 in
    ap type_in r.1 ∙ sym (item-first r.0 o.0) ∙ ap (λ (bs : List ℕ). get_or bs 0 0 / 16) o.1

pub type-small : (c : List ℕ) → one_code c ≡ true → code_type c ≤ 6
unfolding code_type one_code
type-small c e = let r = accepted-by (read_one c) e in subst (λ (n : ℕ). n ≤ 6) (ap type_in (sym r.1)) (number_small r.0.main_type)

pub code-type : (c : List ℕ) → IsCode c → (code_type c ≤ 6) × (code_type c ≡ get_or c 0 0 / 16)
code-type c k = (type-small c k.one, type-first c k)
