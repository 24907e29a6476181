-- `write` meets its contract: exactly one item, or not.
use Rattle.std.proofs.Common.{sym, ◌∙◌, ap, ℕ, List, ◌++◌, length, drop}
use Rattle.iscc.proofs.Digits.{below_all}
use Rattle.unit.proofs.ExactlyOne.{one-is}
use Rattle.composite.specs.Canonical.{detail_of}
use Rattle.composite.proofs.Whole.{canonical-one}
use Rattle.composite.proofs.CodeValue.{short-coded, all_coded}
use Rattle.composite.proofs.code.write.Goals as goal

pub returns-then-out-bytes-clause-answer : goal.returns-then-out-bytes-clause-answer
returns-then-out-bytes-clause-answer c =
    let o = one-is _ _ (sym c.read.ensures ∙ c.in-Ok.is) in
    let e = canonical-one _ o.item (below_all 256 _ (λ k _. (c.type_inv.bytes k).fits)) o.is in
    rw c.with_detail.ensures (short-coded (detail_of c.args.bytes.now) _ c.args.out.now _ e c.if-out-bytes.true).0

pub returns-then-out-bytes-clause-area : goal.returns-then-out-bytes-clause-area
returns-then-out-bytes-clause-area c =
    let o = one-is _ _ (sym c.read.ensures ∙ c.in-Ok.is) in
    let e = canonical-one _ o.item (below_all 256 _ (λ k _. (c.type_inv.bytes k).fits)) o.is in
    (short-coded (detail_of c.args.bytes.now) _ c.args.out.now _ e c.if-out-bytes.true).1

pub returns-else-out-bytes-clause-answer : goal.returns-else-out-bytes-clause-answer
returns-else-out-bytes-clause-answer c =
    let o = one-is _ _ (sym c.read.ensures ∙ c.in-Ok.is) in
    let e = canonical-one _ o.item (below_all 256 _ (λ k _. (c.type_inv.bytes k).fits)) o.is in
    (all_coded (detail_of c.args.bytes.now) _ c.args.out.now _ e _ c.if-out-bytes.false (ap (λ (x : List ℕ). x ++ drop (length c.args.bytes.now) c.args.out.now) c.copy_from_slice.ensures.after)).0

pub returns-else-out-bytes-clause-area : goal.returns-else-out-bytes-clause-area
returns-else-out-bytes-clause-area c =
    let o = one-is _ _ (sym c.read.ensures ∙ c.in-Ok.is) in
    let e = canonical-one _ o.item (below_all 256 _ (λ k _. (c.type_inv.bytes k).fits)) o.is in
    (all_coded (detail_of c.args.bytes.now) _ c.args.out.now _ e _ c.if-out-bytes.false (ap (λ (x : List ℕ). x ++ drop (length c.args.bytes.now) c.args.out.now) c.copy_from_slice.ensures.after)).1
