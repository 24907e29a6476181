-- `order::in_turn` meets its contract.
use Rattle.std.proofs.Common.{rules}
use Rattle.places.proofs.OrderTests.{order-whole}
use Rattle.places.proofs.CountedPlaces.{none-first, counted_none, counted-first, none-next, not-next, counted_next}
use Rattle.places.proofs.order.in_turn.Goals as goal

pub returns-in_default-clause-order : goal.returns-in_default-clause-order
returns-in_default-clause-order c = (search rules, none-first _ c.requires.0 _ c.as_chunks.ensures.front c.in_default.ensures.used)

pub returns-in_default-clause-counts : goal.returns-in_default-clause-counts
returns-in_default-clause-counts c = counted_none _ _ c.requires.1

pub loop-i-init : goal.loop-i-init
loop-i-init c =
    counted-first _ c.requires.0 _ c.as_chunks.ensures.front _ _ _ _ c.in-Some.ensures.used c.in-Some.ensures.place c.requires.1
    c.main_type.ensures c.one_more.ensures

pub returns-in_default-from_bytes-clause-order : goal.returns-in_default-from_bytes-clause-order
returns-in_default-from_bytes-clause-order c = (
  search rules,
  none-next _ c.requires.0 _ c.as_chunks.ensures.front _ _ _ c.loop-i.invariant c.loop-i-test.true c.in_default-from_bytes.ensures.used,
)

pub returns-in_default-from_bytes-clause-counts : goal.returns-in_default-from_bytes-clause-counts
returns-in_default-from_bytes-clause-counts c = c.loop-i.invariant.counts

pub returns-then-not-may_follow-clause-order : goal.returns-then-not-may_follow-clause-order
returns-then-not-may_follow-clause-order c = (
  search rules,
  not-next _ c.requires.0 _ c.as_chunks.ensures.front _ _ _ c.loop-i.invariant c.loop-i-test.true _ c.in-Some-from_bytes.ensures.place
      c.in-Some-from_bytes.ensures.used _ c.may_follow.ensures c.if-not-may_follow.true,
)

pub returns-then-not-may_follow-clause-counts : goal.returns-then-not-may_follow-clause-counts
returns-then-not-may_follow-clause-counts c = c.loop-i.invariant.counts

pub loop-i-preserved : goal.loop-i-preserved
loop-i-preserved c =
    counted_next _ c.requires.0 _ c.as_chunks.ensures.front _ _ _ c.loop-i.invariant c.loop-i-test.true _ c.in-Some-from_bytes.ensures.place
    c.in-Some-from_bytes.ensures.used _ c.may_follow.ensures c.if-not-may_follow.false _ _ c.main_type-in-loop-i.ensures c.one_more-in-loop-i.ensures

pub returns-clause-order : goal.returns-clause-order
returns-clause-order c = (search rules, order-whole _ c.requires.0 _ c.loop-i.invariant.order (search rules))

pub returns-clause-counts : goal.returns-clause-counts
returns-clause-counts c = search (rules, c.loop-i.invariant.counts)
