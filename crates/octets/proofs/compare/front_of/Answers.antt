-- `front_of` meets its contract: std's order of the first four bytes.
use Rattle.std.proofs.Common.{rules, ◌≡◌, ◌<◌, ◌≤◌, length, take, List, ℕ}
use mathlib.Core.Path.{◌∙◌, ap₂}
use borrow.Author.Tests.{le-leb, lt-leb}
use Rattle.octets.specs.Representation.{order_as, front_as}
use Rattle.std.specs.declared.cmp.Ordering.TheVariants.{Equal}
use Rattle.std.specs.Ordering.{nat_cmp}
use Rattle.iscc.proofs.Digits.{below_all}
use Rattle.octets.proofs.Words.{by_front}
use Rattle.octets.proofs.compare.front_of.Goals as goal

first-short : (a b : List ℕ) → length a < 4 → Equal ≡ front_as a b
unfolding front_as
first-short a b h = rw (lt-leb 4 (length a) h)

second-short : (a b : List ℕ) → 4 ≤ length a → length b < 4 → Equal ≡ front_as a b
unfolding front_as
second-short a b h k = rw (le-leb 4 (length a) h, lt-leb 4 (length b) k)

both : (a b : List ℕ) → 4 ≤ length a → 4 ≤ length b → order_as (take 4 a) (take 4 b) ≡ front_as a b
unfolding front_as
both a b h k = rw (le-leb 4 (length a) h, le-leb 4 (length b) k)

pub returns-in-Some-Some : goal.returns-in-Some-Some
returns-in-Some-Some c =
    let h = c.in-Some-Some.ensures.cases in
    let g = c.in-Some-Some.ensures'.cases in
    c.cmp.ensures ∙ ap₂ nat_cmp c.from_be_bytes.ensures c.from_be_bytes-in-Some-Some.ensures
    ∙ by_front c.args.a.now c.args.b.now c.in-Some-Some.x.now c.in-Some-Some.y.now h.same g.same h.enough g.enough
    (below_all 256 c.args.a.now (λ k _. (c.type_inv.a k).fits)) (below_all 256 c.args.b.now (λ k _. (c.type_inv.b k).fits))
    ∙ both c.args.a.now c.args.b.now h.enough g.enough

pub returns-in_default : goal.returns-in_default
returns-in_default c = let h = c.in_default.ensures.cases in second-short _ _ h.enough (search rules)

pub returns-in_default-2 : goal.returns-in_default-2
returns-in_default-2 c = first-short _ _ c.in_default.ensures.cases
