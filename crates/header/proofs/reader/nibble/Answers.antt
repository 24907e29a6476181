-- The laws of an index and its half.
use Rattle.std.proofs.Common.{◌≡◌, ◌/◌, ◌∙◌, get_or, arith}
use Rattle.header.proofs.Nibbles.{nibble-past, nibble-even, nibble-odd}
use Rattle.header.proofs.reader.nibble.Goals as goal

pub returns-in_default-clause-value : goal.returns-in_default-clause-value
returns-in_default-clause-value c = nibble-past _ _ (omega (arith, c.in_default.ensures.lookup))

pub returns-then-at-eq0 : goal.returns-then-at-eq0
returns-then-at-eq0 c =
    let r = c.in-Some.ensures.lookup in
    let e : c.in-Some.field-0.now ≡ get_or c.args.bytes.now (c.args.at / 2) 0 = r.4 (omega arith) 0 in
    record { value = c.from.ensures ∙ nibble-even c.args.bytes.now c.args.at e r.3.0 c.if-at-eq0.true; small = omega (arith, c.type_inv.bytes (c.args.at / 2)) }

pub returns : goal.returns
returns c =
    let r = c.in-Some.ensures.lookup in
    let e : c.in-Some.field-0.now ≡ get_or c.args.bytes.now (c.args.at / 2) 0 = r.4 (omega arith) 0 in
    record { value = c.from-2.ensures ∙ nibble-odd c.args.bytes.now c.args.at e r.3.0 c.if-at-eq0.false; small = omega arith }
