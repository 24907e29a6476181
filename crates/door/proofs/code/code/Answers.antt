-- `code` meets its contract. The test of the area goes by arithmetic, so that it stands whatever number it compares with.
use Rattle.std.proofs.Common.{◌∙◌, arith, ap, ◌++◌, drop, length, ℕ, List}
use Rattle.iscc.proofs.Answer.{exit-same}
use Rattle.door.proofs.Codes.{code-short, code-refused, code-room, code-written}
use Rattle.door.proofs.code.code.Goals as goal

pub returns-then-out-lt-LONGEST_CODE-clause-answer : goal.returns-then-out-lt-LONGEST_CODE-clause-answer
returns-then-out-lt-LONGEST_CODE-clause-answer c =
    (code-short c.args.text.now c.args.out.now (omega arith)).0

pub returns-then-out-lt-LONGEST_CODE-clause-area : goal.returns-then-out-lt-LONGEST_CODE-clause-area
returns-then-out-lt-LONGEST_CODE-clause-area c =
    (code-short c.args.text.now c.args.out.now (omega arith)).1

pub returns-in_err-code-clause-answer : goal.returns-in_err-code-clause-answer
returns-in_err-code-clause-answer c =
    exit-same _ c.from_residual.ensures ∙ (code-refused _ _ c.read.ensures _ _ (omega arith) c.in_err-code.was).0

pub returns-in_err-code-clause-area : goal.returns-in_err-code-clause-area
returns-in_err-code-clause-area c =
    (code-refused _ _ c.read.ensures _ _ (omega arith) c.in_err-code.was).1

pub slice_bounds-copy_from_slice-end : goal.slice_bounds-copy_from_slice-end
slice_bounds-copy_from_slice-end c = code-room _ _ c.read.ensures _ c.in_ok-code.was _ c.as_bytes-bytes.ensures _ (omega arith)

pub returns-clause-answer : goal.returns-clause-answer
returns-clause-answer c =
    (code-written _ _ c.read.ensures _ c.in_ok-code.was _ c.as_bytes-bytes.ensures _ _ (omega arith)
    (ap (λ (x : List ℕ). x ++ drop (length c.as_bytes-bytes.result.now) c.args.out.now) c.copy_from_slice.ensures.after)).0

pub returns-clause-area : goal.returns-clause-area
returns-clause-area c =
    (code-written _ _ c.read.ensures _ c.in_ok-code.was _ c.as_bytes-bytes.ensures _ _ (omega arith)
    (ap (λ (x : List ℕ). x ++ drop (length c.as_bytes-bytes.result.now) c.args.out.now) c.copy_from_slice.ensures.after)).1
