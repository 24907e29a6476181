-- `serving::issue` meets its contract.
use native.Mathlib.Omega.{arith}
use borrow.Author.Rules.{rules}
use Rattle.iscc.proofs.Digits.{below_all}
use Rattle.hall.proofs.Tellings.{issue-recordable, issue-done, issue-refused}
use Rattle.hall.proofs.serving.issue.Statement.{statement}
use Rattle.hall.proofs.serving.issue.Tie as tie

issued-requires : tie.Need-issued-requires
issued-requires c κs =
    let bytes = below_all 256 c.args.area.now (λ k _. (c.slice_known-1.given k).fits) in
    issue-recordable _ bytes _ _ _ c.in-Ok.is _ (omega arith) c.issue.ensures.0

returns : tie.Need-returns-in-Ok
returns c =
    issue-done c.args.text.now c.args.area.now _ _ _ _ _ c.issue.ensures.0 c.issue.ensures.1.1.1 _ _ c.in-Ok.is c.issued.ensures

returns-2 : tie.Need-returns-in-Err
returns-2 c =
    issue-refused c.args.text.now c.args.area.now _ _ _ _ _ c.issue.ensures.0 c.issue.ensures.1.1.1 _ c.in-Err.is c.refused.ensures

pub issue_spec : {M : Type 1} → statement M
issue_spec =
    tie.close
    (tie.spec
    (λ c κs. search rules)
    (λ c. search rules)
    issued-requires
    (λ c. search rules)
    (λ c κs. search rules)
    (λ c. search rules)
    returns
    (λ c. search rules)
    returns-2)
