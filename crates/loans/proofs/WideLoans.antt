-- Places and records take wide composites.
use Prim.Native.Nat.{ℕ}
use mathlib.Core.Path.{ap}
use mathlib.Core.Option.{some}
use mathlib.Core.List.{List}
use lib.Dec.{lit<}
use Rattle.iscc.specs.Answer.{is_accepted}
use Rattle.iscc.specs.Meaning.{Sized}
use Rattle.iscc.specs.WideComposites.{wide_bytes}
use Rattle.iscc.proofs.Digits.{below-append}
use Rattle.iscc.proofs.WideComposites.{wide-composites}
use Rattle.loans.specs.Loan.{loan_of, one_code}
use Rattle.loans.specs.Map.{issue_code, return_code}
use Rattle.loans.specs.Good.{IsCode, GoodLoan}
use Rattle.loans.specs.WideLoans.{WideLoans}
use Rattle.loans.proofs.Loan.{is_code}
use Rattle.loans.proofs.Place.{place_is, place-of}
use Rattle.loans.proofs.PendingLog.{numbered_is}

wide-code : (da ins : List ℕ) → Sized 16 da → Sized 16 ins → IsCode (wide_bytes da ins)
unfolding one_code
wide-code da ins a b =
    is_code (wide_bytes da ins) (lit< tt, (lit< tt, below-append 256 da ins a.1 b.1)) (ap is_accepted (wide-composites.each da ins a b).reads_alone)

pub wide-loans : WideLoans
wide-loans da ins borrower a b h =
    let c : IsCode (wide_bytes da ins) = wide-code da ins a b in
    let g : GoodLoan (loan_of (wide_bytes da ins) borrower) = record { code = c; borrower = h } in
    record {
      place = place_is (some (loan_of (wide_bytes da ins) borrower)) g;
      place_back = place-of (some (loan_of (wide_bytes da ins) borrower)) g;
      issue_record = λ n p q. numbered_is (record { number = n; change = issue_code (wide_bytes da ins) borrower }) (record { change = g; some = p; most = q });
      return_record = λ n p q. numbered_is (record { number = n; change = return_code (wide_bytes da ins) }) (record { change = c; some = p; most = q });
    }
