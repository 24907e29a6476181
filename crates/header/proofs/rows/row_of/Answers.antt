-- The row of each range of numbers.
use Rattle.iscc.specs.Varnibble.{first_of, prefix_of, row_of}
use Rattle.iscc.proofs.Cases.{tests}
use Rattle.header.proofs.rows.row_of.Goals as goal

pub returns-in-0-to-7-clause-row : goal.returns-in-0-to-7-clause-row
unfolding first_of prefix_of row_of
returns-in-0-to-7-clause-row c = search tests

pub returns-in-8-to-71-clause-row : goal.returns-in-8-to-71-clause-row
unfolding first_of prefix_of row_of
returns-in-8-to-71-clause-row c = search tests

pub returns-in-72-to-583-clause-row : goal.returns-in-72-to-583-clause-row
unfolding first_of prefix_of row_of
returns-in-72-to-583-clause-row c = search tests

pub returns-in_default-clause-row : goal.returns-in_default-clause-row
unfolding first_of prefix_of row_of
returns-in_default-clause-row c = search tests
