-- `Used::may_follow` meets its contract.
use Rattle.std.proofs.Common.{rules, ◌∙◌}
use Rattle.places.proofs.OrderTests.{follow-is}
use Rattle.places.proofs.place.Used.may_follow.Goals as goal

pub returns : goal.returns
returns c =
    c.is_lt.ensures ∙ follow-is _ _ c.args.self.used c.args.earlier.used _ _ c.code-before.ensures c.code-code.ensures _ _ c.front_of.ensures _ (λ w. search rules) c.then_with.ensures
