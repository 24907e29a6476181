-- The count and the area that keep the line begun with the part behind it.
use Rattle.std.proofs.Common.{◌+◌, ◌-◌, length, refl, arith}
use Rattle.lines.proofs.Held.{add-long, add-over, add-all}
use Rattle.lines.proofs.begun.add.Goals as goal

pub returns-then-held-gt-LONGEST_LINE : goal.returns-then-held-gt-LONGEST_LINE
returns-then-held-gt-LONGEST_LINE c =
    let k = add-long c.args.line.now c.args.held c.args.part.now c.requires c.if-held-gt-LONGEST_LINE.true in
    record { count = k.0; area = k.1 }

pub returns-then-held-part : goal.returns-then-held-part
returns-then-held-part c =
    let k = add-over c.args.line.now c.args.held c.args.part.now c.requires c.if-held-gt-LONGEST_LINE.false c.if-held-part.true in
    record { count = k.0; area = k.1 }

pub returns : goal.returns
returns c =
    let k = add-all c.args.line.now c.args.held c.args.part.now c.requires _ (c.args.held + length c.args.part.now) (c.args.held + length c.args.part.now - c.args.held) c.if-held-gt-LONGEST_LINE.false c.if-held-part.false refl (omega arith) (rw c.copy_from_slice.ensures.after refl) in
    record { count = k.0; area = k.1 }
