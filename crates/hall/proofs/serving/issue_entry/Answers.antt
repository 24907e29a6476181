-- `serving::issue_entry`: the record in front of its area.
use Rattle.std.proofs.Common.{ap, arith}
use Rattle.std.specs.Prelude.{is_ok}
use Rattle.hall.proofs.Entries.{is-read, value-is, code_fits, issue-written, issue-put}
use Rattle.hall.proofs.serving.issue_entry.Goals as goal

pub unwrap-code-requires : goal.unwrap-code-requires
unwrap-code-requires c = ap is_ok (is-read _ _ c.read.ensures c.requires.0)

pub slice_bounds-issue-end-2 : goal.slice_bounds-issue-end-2
slice_bounds-issue-end-2 c = omega (arith, code_fits _ _ (value-is _ _ _ c.read.ensures c.requires.0 c.unwrap-code.ensures) c.requires.0)

pub unwrap-requires : goal.unwrap-requires
unwrap-requires c = issue-written _ _ (value-is _ _ _ c.read.ensures c.requires.0 c.unwrap-code.ensures) c.requires.0 _ c.requires.1 _ (omega arith) _ _ _ (omega arith) (c.issue.ensures.answer, c.issue.ensures.log)

pub returns-clause-size : goal.returns-clause-size
returns-clause-size c = (issue-put _ _ (value-is _ _ _ c.read.ensures c.requires.0 c.unwrap-code.ensures) c.requires.0 _ c.requires.1 _ (omega arith) _ _ _ (omega arith) (c.issue.ensures.answer, c.issue.ensures.log) _ c.unwrap.ensures).0

pub returns-clause-entry : goal.returns-clause-entry
returns-clause-entry c = (issue-put _ _ (value-is _ _ _ c.read.ensures c.requires.0 c.unwrap-code.ensures) c.requires.0 _ c.requires.1 _ (omega arith) _ _ _ (omega arith) (c.issue.ensures.answer, c.issue.ensures.log) _ c.unwrap.ensures).1
