-- `from_list` meets its contract.
use Rattle.std.proofs.Common.{ℕ, ◌≡◌, ◌∙◌, ap, rules, arith, subst, sym, take, drop, ◌≤◌, ◌+◌, length}
use Rattle.iscc.specs.Permitted.{set_of, set_length_number}
use Rattle.tables.specs.Representation.{unit_set_as}
use Rattle.composite.specs.Bodies.{parts, filled_bodies, set_of_offsets, body_offset, Makes, composite_as}
use Rattle.iscc.specs.Meaning.{Meaning}
use Rattle.composite.proofs.Joins.{makes-sound}
use Rattle.composite.proofs.FromSummary.{units-there, summary-composite}
use Rattle.composite.proofs.gather.from_list.Goals as goal

pub bodies_at-found-requires-clause-room : goal.bodies_at-found-requires-clause-room
bodies_at-found-requires-clause-room c = λ i at h p.
    let k = c.requires in
    let e : at ≡ body_offset c.args.list.now.offsets c.unit_set-set.result.units i = search rules in
    subst (λ (x : ℕ). x + 8 ≤ length c.args.bytes.now) (sym e)
    (units-there _ _ k.0 k.1 _ (c.unit_set-set.ensures.0 ∙ ap (λ (n : ℕ). unit_set_as (set_of n)) c.set_length_number-length_number.ensures.0) i (omega (arith, c.from.ensures)))

-- the parts are those of what the list means
composed : (c : goal.After-subtype_of) (m : Meaning) → Makes c.args.bytes.now c.args.list.now m
    → parts c.set_length_number-length_number.result c.subtype_of.result c.bodies_at-found.result ≡ composite_as m
composed c m k =
    let n = c.set_length_number-length_number.ensures.0 in
    ap (λ (x : ℕ). parts x c.subtype_of.result c.bodies_at-found.result) n
    ∙ ap (λ (x : ℕ). parts (set_length_number (set_of_offsets c.args.list.now.offsets)) x c.bodies_at-found.result) c.subtype_of.ensures
    ∙ summary-composite _ _ m k _ (c.unit_set-set.ensures.0 ∙ ap (λ (x : ℕ). unit_set_as (set_of x)) n) _
    (c.bodies_at-found.ensures (body_offset c.args.list.now.offsets c.unit_set-set.result.units) (λ i at h p. search rules)
    ∙ ap (λ (x : ℕ). filled_bodies (λ i. take 8 (drop (body_offset c.args.list.now.offsets c.unit_set-set.result.units i) c.args.bytes.now)) x 5) (omega (arith, c.from.ensures)))

pub invariant_of-result : goal.invariant_of-result
invariant_of-result c = makes-sound _ _ c.requires.0 c.requires.1 _ (composed c c.requires.0 c.requires.1)

pub returns : goal.returns
returns c = composed c
