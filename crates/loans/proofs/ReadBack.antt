-- What the writer appends is read back as those records, in their order, and each as its change with its number.
use Prim.Native.Nat.{ℕ, ◌+◌, ◌<◌}
use mathlib.Core.Path.{◌≡◌, sym, ◌∙◌, ap}
use mathlib.Core.Bool.{true, not}
use mathlib.Core.Option.{none}
use mathlib.Core.List.{List, [], ◌∷◌, ◌++◌, map, append-nil, append_assoc}
use native.Mathlib.Nat.{zero-add}
use native.Mathlib.Omega.{arith}
use lib.ListN.{length, take}
use lib.Seq.{length-take-le}
use lib.Dec.{eqb}
use Rattle.iscc.specs.Answer.{accept}
use Rattle.iscc.proofs.Answer.{answered, accept-inj}
use Rattle.iscc.proofs.Booleans.{both_true}
use Rattle.loans.specs.Loan.{one_code}
use Rattle.loans.specs.Map.{Change, issue_code, return_code}
use Rattle.loans.specs.Fields.{field_bytes}
use Rattle.loans.specs.Log.{Records, records_from, laid}
use Rattle.loans.specs.Writer.{Written, Appended}
use Rattle.loans.specs.Records.{code_of}
use Rattle.loans.specs.PendingLog.{NumberedChange, record_of, numbered_of, write_record, write_all}
use Rattle.loans.specs.Operations.{InBytes, AllInBytes}
use Rattle.loans.specs.Good.{GoodChange}
use Rattle.loans.proofs.Loan.{is_code}
use Rattle.loans.proofs.Fields.{length-field}
use Rattle.loans.proofs.Tears.{records-append, records-one}
use Rattle.loans.proofs.PendingLog.{GoodNumbered, record-short, numbered-back, not-zero, written, write-appends}

good-bytes : (ch : Change) → InBytes ch → one_code (code_of ch) ≡ true → GoodChange ch
good-bytes (issue_code c b) k e = record { code = is_code c k.0 e; borrower = k.1 }
good-bytes (return_code c) k e = is_code c k e

module _ (n : NumberedChange) (log : List ℕ) (position : ℕ) (w : Written) (m : n.number < 4294967296) (k : InBytes n.change) (e : write_record n log position ≡ accept w) where
  written-good : GoodNumbered n
  written-good =
      let a = both_true (one_code (code_of n.change)) (not (eqb n.number 0)) (written n log position w e).0 in
      record { change = good-bytes n.change k a.0; some = not-zero n.number a.1; most = m }

  pub same-change : numbered_of (record_of n) ≡ n
  same-change = numbered-back n written-good

  one_more-is : (records_from 0 (take position log)).tear ≡ none
      → records_from 0 (take w.position w.log)
      ≡ record { whole = (records_from 0 (take position log)).whole ++ laid position (record_of n ∷ []); tear = none }
  one_more-is t =
      let a : Appended (field_bytes (record_of n)) log position w = write-appends n log position w e in
      let z : 0 + length (take position log) ≡ position = zero-add (length (take position log)) ∙ length-take-le position log (omega (arith, a.room)) in
      ap (records_from 0) a.front ∙ records-append 0 (take position log) (field_bytes (record_of n)) t
      ∙ rw (z, records-one position (record_of n) (record-short n written-good))

  next-position : w.position ≡ position + (3 + length (record_of n).body)
  next-position = (write-appends n log position w e).moved ∙ ap (λ (n : ℕ). position + n) (length-field (record_of n))

pub reads-back : (ns : List NumberedChange) (log : List ℕ) (position : ℕ) (w : Written) → AllInBytes ns → (records_from 0 (take position log)).tear ≡ none
    → write_all ns (record { log = log; position = position }) ≡ accept w
    → records_from 0 (take w.position w.log)
    ≡ record { whole = (records_from 0 (take position log)).whole ++ laid position (map record_of ns); tear = none }
reads-back [] log position w k t e = rw (sym (accept-inj e), append-nil (records_from 0 (take position log)).whole, sym t)
reads-back (n ∷ ns) log position w k t e =
    let a = answered (write_record n log position) (λ v. write_all ns v) e in
    let o = one_more-is n log position a.0 k.0.0 k.0.1 a.1 t in
    let r = reads-back ns a.0.log a.0.position w k.1 (ap (λ (x : Records). x.tear) o) a.2 in
    r ∙ rw (
      o,
      next-position n log position a.0 k.0.0 k.0.1 a.1,
      append_assoc (records_from 0 (take position log)).whole (laid position (record_of n ∷ [])),
    )
