-- A code's main type by its first byte.
use Prim.Native.Nat.{ℕ, ◌/◌, ◌<◌}
use mathlib.Core.Path.{◌≡◌, sym, ◌∙◌, ap}
use mathlib.Core.Bool.{true}
use mathlib.Core.List.{List}
use native.Mathlib.Omega.{arith}
use lib.ListN.{length, get_or}
use borrow.Author.Tests.{lt-ltb}
use Rattle.std.specs.Prelude.{Result, Ok, Err}
use Rattle.std.specs.Result.{is_ok}
use Rattle.iscc.specs.Digits.{Below}
use Rattle.iscc.specs.Permitted.{MainType, number, type_of, main_type_of}
use Rattle.iscc.specs.declared.main_type.Name.TheVariants.{Id}
use Rattle.iscc.specs.Refusals.{Refusal}
use Rattle.iscc.specs.Representation.{result_of}
use Rattle.iscc.proofs.Permitted.{number-type}
use Rattle.loans.specs.Loan.{one_code}
use Rattle.loans.specs.Counts.{code_type}
use Rattle.loans.proofs.Loan.{is_code}
use Rattle.loans.proofs.CodeType.{code-type}

type_in : Result MainType Refusal → MainType
type_in (Ok m) = m
type_in (Err q) = Id

module _ (c : List ℕ) (b : Below 256 c) (o : one_code c ≡ true) where
  pub first_byte : 0 < length c
  first_byte = (is_code c b o).some

  module _ (x : ℕ) (e : x ≡ get_or c 0 0) where
    type-read : (x / 16 ≡ code_type c) × (x / 16 < 7)
    type-read =
        let t = code-type c (is_code c b o) in
        let q : x / 16 ≡ code_type c = ap (λ (n : ℕ). n / 16) e ∙ sym t.1 in
        (q, omega (arith, q, t.0))

    taken : result_of (main_type_of (x / 16)) ≡ Ok (type_of (x / 16))
    unfolding main_type_of result_of
    taken = rw (lt-ltb (x / 16) 7 type-read.1)

    module _ (r : Result MainType Refusal) (q : r ≡ result_of (main_type_of (x / 16))) where
      pub is-type : is_ok r ≡ true
      is-type = ap is_ok (q ∙ taken)

      pub type-is : (m : MainType) → r ≡ Ok m → number m ≡ code_type c
      unfolding type_in
      type-is m w = ap (λ (a : Result MainType Refusal). number (type_in a)) (sym w ∙ q ∙ taken) ∙ number-type (x / 16) type-read.1 ∙ type-read.0
