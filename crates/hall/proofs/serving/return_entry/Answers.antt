-- `serving::return_entry`: the record in front of its area.
use Rattle.std.proofs.Common.{ap, arith}
use Rattle.std.specs.Prelude.{is_ok}
use Rattle.hall.proofs.Entries.{is-read, value-is, code_fits, return-written, return-put}
use Rattle.hall.proofs.serving.return_entry.Goals as goal

pub unwrap-code-requires : goal.unwrap-code-requires
unwrap-code-requires c = ap is_ok (is-read _ _ c.read.ensures c.requires.0)

pub slice_bounds-take_back-end-2 : goal.slice_bounds-take_back-end-2
slice_bounds-take_back-end-2 c = omega (arith, code_fits _ _ (value-is _ _ _ c.read.ensures c.requires.0 c.unwrap-code.ensures) c.requires.0)

pub unwrap-requires : goal.unwrap-requires
unwrap-requires c = return-written _ _ (value-is _ _ _ c.read.ensures c.requires.0 c.unwrap-code.ensures) c.requires.0 _ c.requires.1 _ (omega arith) _ _ (c.take_back.ensures.answer, c.take_back.ensures.log)

pub returns-clause-size : goal.returns-clause-size
returns-clause-size c = (return-put _ _ (value-is _ _ _ c.read.ensures c.requires.0 c.unwrap-code.ensures) c.requires.0 _ c.requires.1 _ (omega arith) _ _ (c.take_back.ensures.answer, c.take_back.ensures.log) _ c.unwrap.ensures).0

pub returns-clause-entry : goal.returns-clause-entry
returns-clause-entry c = (return-put _ _ (value-is _ _ _ c.read.ensures c.requires.0 c.unwrap-code.ensures) c.requires.0 _ c.requires.1 _ (omega arith) _ _ (c.take_back.ensures.answer, c.take_back.ensures.log) _ c.unwrap.ensures).1
