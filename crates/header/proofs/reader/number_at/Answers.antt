-- A law of `read_varnibble` for each return.
use Rattle.header.proofs.Read.{number-none, number-ones, number_cut, number-here}
use Rattle.header.proofs.reader.number_at.Goals as goal

pub returns-then-bytes-at-clause-number : goal.returns-then-bytes-at-clause-number
returns-then-bytes-at-clause-number c = number-none _ _ c.if-bytes-at.true

pub returns-in_err-row-clause-number : goal.returns-in_err-row-clause-number
returns-in_err-row-clause-number c = rw c.from_residual.ensures (number-ones _ _ c.if-bytes-at.false c.nibble.ensures.value c.in_err-row.ensures.row)

pub returns-then-bytes-at-2-clause-number : goal.returns-then-bytes-at-2-clause-number
returns-then-bytes-at-2-clause-number c =
    number_cut _ _ c.if-bytes-at.false c.nibble.ensures.value c.in_ok-row.row c.in_ok-row.ensures.row c.in_ok-row.ensures.bounds.some c.if-bytes-at-2.true

pub returns-clause-number : goal.returns-clause-number
returns-clause-number c =
    number-here _ _ c.if-bytes-at.false c.nibble.ensures.value c.in_ok-row.row c.in_ok-row.ensures.row c.in_ok-row.ensures.bounds.some c.if-bytes-at-2.false c.value_at-v.ensures
