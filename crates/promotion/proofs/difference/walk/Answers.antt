-- `difference::walk` meets its contract.
use Rattle.std.proofs.Common.{arith, ◌∙◌, sym, ap, Some, ◌≡◌}
use Rattle.promotion.proofs.Walk.{only-first, only-second, no_more, differs-here, one_more}
use Rattle.promotion.proofs.difference.walk.Goals as goal

pub returns-then-is_some : goal.returns-then-is_some
returns-then-is_some c =
    differs-here _ _ c.loop-i.i c.loop-i.invariant (omega (arith, c.requires, c.min-i-end.ensures)) (omega (arith, c.requires, c.min-i-end.ensures))
    _ c.in_place-least.ensures (sym c.is_some.ensures ∙ c.if-is_some.true)

pub loop-i-preserved : goal.loop-i-preserved
loop-i-preserved c =
    one_more _ _ c.loop-i.i c.loop-i.invariant (omega (arith, c.requires, c.min-i-end.ensures)) (omega (arith, c.requires, c.min-i-end.ensures))
    _ c.in_place-least.ensures (sym c.is_some.ensures ∙ c.if-is_some.false)

pub returns-then-m-n : goal.returns-then-m-n
returns-then-m-n c =
    let i = c.loop-i.invariant in
    let k : c.loop-i.i ≡ c.args.m = omega (arith, c.requires, c.min-i-end.ensures, i.second, c.loop-i-test.false) in
    ap Some c.code_in.ensures ∙ only-first _ _ c.loop-i.i i _ k (omega (arith, k, c.requires)) (omega (arith, k, c.requires))

pub returns-then-n-m : goal.returns-then-n-m
returns-then-n-m c =
    let i = c.loop-i.invariant in
    let k : c.loop-i.i ≡ c.args.n = omega (arith, c.requires, c.min-i-end.ensures, i.first, c.loop-i-test.false) in
    ap Some c.code_in-then-n-m.ensures ∙ only-second _ _ c.loop-i.i i _ k (omega (arith, k, c.requires)) (omega (arith, k, c.requires))

pub returns : goal.returns
returns c =
    no_more _ _ c.loop-i.i c.loop-i.invariant (omega (arith, c.requires, c.min-i-end.ensures, c.loop-i-test.false)) (omega (arith, c.requires, c.min-i-end.ensures, c.loop-i-test.false))
