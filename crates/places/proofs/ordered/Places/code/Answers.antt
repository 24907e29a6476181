-- `Places::code` meets its contract.
use Rattle.std.proofs.Common.{rules}
use Rattle.places.proofs.Searching.{code_fits, code_read, code-short}
use Rattle.places.proofs.ordered.Places.code.Goals as goal

pub slice_bounds-result-end : goal.slice_bounds-result-end
slice_bounds-result-end c = search (rules, code_fits c.args.self)

pub returns : goal.returns
returns c = (code_read c.args.self _ c.requires _ c.from-n.ensures, code-short c.args.self _ c.requires _ c.from-n.ensures)
