-- The row of each range of first nibbles.
use Rattle.std.proofs.Common.{◌≡◌, ◌<◌, arith}
use Rattle.iscc.specs.Varnibble.{first_of, prefix_of, row_by}
use Rattle.iscc.proofs.Cases.{tests}
use Rattle.header.proofs.rows.row_by.Goals as goal

pub returns-in-0-to-7-clause-row : goal.returns-in-0-to-7-clause-row
unfolding first_of prefix_of row_by
returns-in-0-to-7-clause-row c = let l : c.args.first < 15 = omega arith in search tests

pub returns-in-8-to-11-clause-row : goal.returns-in-8-to-11-clause-row
unfolding first_of prefix_of row_by
returns-in-8-to-11-clause-row c = let l : c.args.first < 15 = omega arith in search tests

pub returns-in-12-to-13-clause-row : goal.returns-in-12-to-13-clause-row
unfolding first_of prefix_of row_by
returns-in-12-to-13-clause-row c = let l : c.args.first < 15 = omega arith in search tests

pub returns-in-14-clause-row : goal.returns-in-14-clause-row
unfolding first_of prefix_of row_by
returns-in-14-clause-row c = let e : c.args.first ≡ 14 = omega arith in rw e
