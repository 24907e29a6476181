-- `Begun::answer` keeps the line begun: each call of `feed` takes at least a byte, and none that is not of the piece.
use Rattle.std.proofs.Common.{arith, rules, ◌≡◌, refl, ◌≤◌, ◌<◌, length, take, drop, ℕ, ◌+◌, ◌-◌, List}
use Rattle.std.proofs.Math.ListN.{length-take, length-drop}
use Rattle.iscc.specs.Answer.{accept, area_after}
use Rattle.lines.specs.Feeding.{begun_after, line_for, fed_by, fed_as}
use Rattle.lines.specs.declared.feed.Fed.{Fed}
use Rattle.lines.proofs.Pieces.{FedBounds, fed-bounds}
use Rattle.lines.proofs.Stops.{keeps-fed}
use Rattle.line_program.proofs.Begun.answer.Goals as goal

-- what is left of the piece
abbrev rest : List ℕ → ℕ → List ℕ
rest piece at = take (length piece - at) (drop at piece)

rest-length : (piece : List ℕ) (at : ℕ) → at ≤ length piece → length (rest piece at) ≡ length piece - at
rest-length piece at h = simp (length-take, length-drop) (omega arith)

record FitsRest (line after piece out area : List ℕ) (at : ℕ) (r : Fed) : Type 0 where
  bounds : FedBounds line after (rest piece at) out area r
  taken : at + r.used ≤ length piece

fits-rest : (line after piece out area : List ℕ) (held at : ℕ) (r : Fed) → 1024 ≤ length line → length out ≡ 65536 → at < length piece
    → r ≡ fed_as (fed_by line held (rest piece at) (length out)) → after ≡ line_for (fed_by line held (rest piece at) (length out)).begun line
    → area ≡ area_after (accept (fed_by line held (rest piece at) (length out)).answers) out → FitsRest line after piece out area at r
fits-rest line after piece out area held at r room space l e f g =
    let n : length (rest piece at) ≡ length piece - at = rest-length piece at (omega arith) in
    let b : FedBounds line after (rest piece at) out area r = fed-bounds line after (rest piece at) out area held r room (omega arith) (omega arith) e f g in
    record { bounds = b; taken = omega (arith, b.used, n) }

pub loop-at-init : goal.loop-at-init
unfolding begun_after
loop-at-init c = (omega arith, refl)

pub overflow_add-at : goal.overflow_add-at
overflow_add-at c =
    let v = c.loop-at.invariant in
    let f = c.feed-fed.ensures in
    let b = fits-rest _ _ c.args.piece.now _ _ c.loop-at.self.held c.loop-at.at _ (search rules) (search rules) c.loop-at-test.true f.answer f.begun f.area in
    omega (arith, b.taken)

pub loop-at-smaller : goal.loop-at-smaller
loop-at-smaller c =
    let v = c.loop-at.invariant in
    let f = c.feed-fed.ensures in
    let b = fits-rest _ _ c.args.piece.now _ _ c.loop-at.self.held c.loop-at.at _ (search rules) (search rules) c.loop-at-test.true f.answer f.begun f.area in
    omega (arith, b.taken, b.bounds.some)

pub loop-at-preserved : goal.loop-at-preserved
loop-at-preserved c =
    let v = c.loop-at.invariant in
    let f = c.feed-fed.ensures in
    let b = fits-rest _ _ c.args.piece.now _ _ c.loop-at.self.held c.loop-at.at _ (search rules) (search rules) c.loop-at-test.true f.answer f.begun f.area in
    (b.taken, keeps-fed _ _ _ _ _ _ _ _ (search rules) v.1 f.answer f.begun)
