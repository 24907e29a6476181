-- What was taken of the piece is of it, and no offset is so far that a piece behind it would be past the largest number.
use Rattle.std.proofs.Common.{rules, arith, ◌≤◌, ◌∙◌, ap, Err}
use Rattle.std.proofs.lemmas.List.{length-take}
use Rattle.files.proofs.Offsets.{fed_within}
use Rattle.files.proofs.log_file.replay_piece.Goals as goal

pub overflow_add-result : goal.overflow_add-result
overflow_add-result c =
    let near : c.args.offset ≤ 4611686018427387904 = search rules in
    omega (arith, near, fed_within _ _ _ _ _ c.feed.ensures.answer (c.in-Err-At.is ∙ ap Err c.in-Err-At.field-0-is))

pub overflow_add-result-in-Err-At : goal.overflow_add-result-in-Err-At
overflow_add-result-in-Err-At c =
    let near : c.args.offset ≤ 4611686018427387904 = search rules in
    omega (arith, near, fed_within _ _ _ _ _ c.feed.ensures.answer (c.in-Err-At.is ∙ ap Err c.in-Err-At.field-0-is))

pub overflow_add-result-then-count-eq-PIECE : goal.overflow_add-result-then-count-eq-PIECE
overflow_add-result-then-count-eq-PIECE c =
    let near : c.args.offset ≤ 4611686018427387904 = search rules in
    omega (arith, near, fed_within _ _ _ _ _ c.feed.ensures.answer c.in-Ok.is)

pub overflow_add-end : goal.overflow_add-end
overflow_add-end c =
    let near : c.args.offset ≤ 4611686018427387904 = search rules in
    omega (arith, near, fed_within _ _ _ _ _ c.feed.ensures.answer c.in-Ok.is)

pub slice_bounds-piece-end-2 : goal.slice_bounds-piece-end-2
slice_bounds-piece-end-2 c = fed_within _ _ _ _ _ c.feed.ensures.answer c.in-Ok.is

pub slice_bounds-number_reached-end : goal.slice_bounds-number_reached-end
slice_bounds-number_reached-end c =
    omega (arith, fed_within _ _ _ _ _ c.feed.ensures.answer c.in-Ok.is, length-take c.in-Ok.used c.read.new.area)
