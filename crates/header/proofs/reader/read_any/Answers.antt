-- A law of `read_header` for each return.
use Rattle.std.proofs.Common.{arith}
use Rattle.header.proofs.Read.{bad-first, bad-second, bad-third, bad-fourth, bad-pad, header-good}
use Rattle.header.proofs.reader.read_any.Goals as goal

pub returns-in_err-main_type : goal.returns-in_err-main_type
returns-in_err-main_type c = rw c.from_residual.ensures (bad-first _ c.in_err-main_type.ensures.number)

pub returns-in_err-subtype : goal.returns-in_err-subtype
returns-in_err-subtype c = rw c.from_residual-in_err-subtype.ensures (bad-second _ c.in_ok-main_type.ensures.number c.in_err-subtype.ensures.number)

pub returns-in_err-version : goal.returns-in_err-version
returns-in_err-version c =
    rw c.from_residual-in_err-version.ensures (bad-third _ c.in_ok-main_type.ensures.number c.in_ok-subtype.ensures.number c.in_err-version.ensures.number)

pub returns-in_err-length_number : goal.returns-in_err-length_number
returns-in_err-length_number c =
    rw c.from_residual-in_err-length_number.ensures
    (bad-fourth _ c.in_ok-main_type.ensures.number c.in_ok-subtype.ensures.number c.in_ok-version.ensures.number c.in_err-length_number.ensures.number)

pub returns-then-not-padded : goal.returns-then-not-padded
returns-then-not-padded c =
    bad-pad _ c.in_ok-main_type.ensures.number c.in_ok-subtype.ensures.number c.in_ok-version.ensures.number c.in_ok-length_number.ensures.number c.padded.ensures c.if-not-padded.true

pub returns : goal.returns
returns c =
    header-good _ c.in_ok-main_type.ensures.number c.in_ok-subtype.ensures.number c.in_ok-version.ensures.number c.in_ok-length_number.ensures.number c.padded.ensures (omega (arith, c.div_ceil.ensures)) c.if-not-padded.false
