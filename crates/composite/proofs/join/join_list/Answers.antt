-- `join_list` meets its contract: what `write_list` tells, without the detail.
use Rattle.std.proofs.Common.{◌∙◌}
use Rattle.iscc.proofs.Answer.{exit-same}
use Rattle.composite.specs.Joined.{composed_bytes}
use Rattle.composite.specs.Canonical.{detail_of}
use Rattle.composite.proofs.CodeValue.{coded-length, coded-refused}
use Rattle.composite.proofs.join.join_list.Goals as goal

pub returns-in_err-write_list-clause-answer : goal.returns-in_err-write_list-clause-answer
returns-in_err-write_list-clause-answer c =
    exit-same _ c.from_residual.ensures
    ∙ coded-refused (detail_of c.args.bytes.now) (composed_bytes c.args.bytes.now) c.args.out.now _ _ c.write_list.ensures.answer c.in_err-write_list.was

pub returns-clause-answer : goal.returns-clause-answer
returns-clause-answer c =
    coded-length (detail_of c.args.bytes.now) (composed_bytes c.args.bytes.now) c.args.out.now _ _ c.write_list.ensures.answer c.in_ok-write_list.was
