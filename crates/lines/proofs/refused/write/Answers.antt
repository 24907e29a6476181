-- The number's digits and LF behind the word.
use Rattle.std.proofs.Common.{◌+◌, ◌-◌, ◌∙◌, ap, length, refl, arith}
use Rattle.std.specs.Fmt.{decimal}
use Rattle.lines.proofs.Refusals.{number_fits, last_fits, refusing}
use Rattle.lines.proofs.refused.write.Goals as goal

pub slice_bounds-copy_from_slice-end : goal.slice_bounds-copy_from_slice-end
slice_bounds-copy_from_slice-end c = omega (arith, number_fits c.args.q _ c.requires.number (c.as_bytes-number.ensures.value ∙ c.format.ensures.text ∙ ap decimal c.number.ensures), c.requires.room)

pub bounds-out-end : goal.bounds-out-end
bounds-out-end c =
    last_fits c.args.q c.requires.number _ _ c.requires.room c.put_word.ensures _ _ (8 + length c.as_bytes-number.result.now - 8) (c.as_bytes-number.ensures.value ∙ c.format.ensures.text ∙ ap decimal c.number.ensures) (omega arith) (rw c.copy_from_slice.ensures.after refl)

pub returns : goal.returns
returns c =
    let r = refusing c.args.q c.requires.number _ _ c.requires.room c.put_word.ensures _ _ (8 + length c.as_bytes-number.result.now - 8) (c.as_bytes-number.ensures.value ∙ c.format.ensures.text ∙ ap decimal c.number.ensures) (omega arith) (rw c.copy_from_slice.ensures.after refl) in
    record { answer = r.answer; area = r.area }
