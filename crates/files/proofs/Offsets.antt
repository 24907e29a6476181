-- The offset that a replay tells is one of the bytes that were replayed, or their end.
use Rattle.std.proofs.Common.{Ok, Err, arith, ◌≡◌, ◌∙◌, refl, sym, ap, ◌≤◌, ℕ, ◌+◌, zero, suc, List, [], ◌∷◌, length, take, drop, Bool, true, false}
use Rattle.std.proofs.Math.ListN.{length-take, length-drop}
use Rattle.iscc.specs.Answer.{Answer, accept, refuse, ◌>>◌, ◌otherwise◌}
use Rattle.iscc.specs.Refusals.{not_register}
use Rattle.loans.specs.Fields.{Field, first_size, first_is_whole, first_field}
use Rattle.loans.specs.Replay as replays
use Rattle.loans.specs.Replay.{End, end_offset, Replayed, replay_from, in_bytes, replayed, replay_offset}
use Rattle.loans.specs.PendingLog.{replay_log}
use Rattle.loans.specs.Register.{Register}
use Rattle.loans.proofs.Fields.{size-least, whole-size, nil-torn, none_left}
use Rattle.loans.proofs.Replay.{replay-end, replay-torn, replay-step}
use Rattle.recovery.specs.Representation.{Fed, fed_as, fed_end}
use Rattle.recovery.specs.declared.pieces.Halt.TheVariants as halts

module _ {S : Type 0} (apply : Field → S → Answer S) where
  within-torn : (offset : ℕ) (bs : List ℕ) (s : S) → first_is_whole bs ≡ false → end_offset (replay_from apply offset bs s).end ≤ offset + length bs
  within-torn offset [] s w = rw (replay-end apply offset s) (omega arith)
  within-torn offset (b ∷ bs) s w = rw (replay-torn apply offset b bs s w) (omega arith)

  within-up-to : (n offset : ℕ) (bs : List ℕ) (s : S) → length bs ≤ n → end_offset (replay_from apply offset bs s).end ≤ offset + length bs
  within-up-to zero offset bs s l = within-torn offset bs s (ap first_is_whole (none_left bs l) ∙ nil-torn)
  within-up-to (suc n) offset bs s l =
      go (first_is_whole bs) refl (apply (first_field bs) s) refl (λ s'. within-up-to n (offset + first_size bs) (drop (first_size bs) bs) s')
    where
      go : (b : Bool) → first_is_whole bs ≡ b → (x : Answer S) → apply (first_field bs) s ≡ x
          → ((s' : S) → length (drop (first_size bs) bs) ≤ n
          → end_offset (replay_from apply (offset + first_size bs) (drop (first_size bs) bs) s').end ≤ offset + first_size bs + length (drop (first_size bs) bs))
          → end_offset (replay_from apply offset bs s).end ≤ offset + length bs
      go false w x a ih = within-torn offset bs s w
      go true w (refuse q) a ih = rw (replay-step apply offset bs s w, a) (omega arith)
      go true w (accept s') a ih =
          let d = length-drop (first_size bs) bs in
          let f = whole-size bs w in
          rw (replay-step apply offset bs s w, a) (omega (arith, d, f, ih s' (omega (arith, size-least bs, f, d))))

  within-replayed : (r : Register S) (log area : List ℕ) → replay_offset (replayed r apply log area) ≤ length log
  unfolding replayed
  within-replayed r log area = go (r.valid area)
    where
      go : (v : Bool) → replay_offset (v otherwise not_register >> accept (in_bytes r apply (replay_from apply 0 log (r.contents area)))) ≤ length log
      go true = omega (arith, within-up-to (length log) 0 log (r.contents area) (omega arith))
      go false = omega arith

-- how many bytes were taken, or where a record stopped the replay
abbrev pub fed_offset : Fed → ℕ
fed_offset (Ok used) = used
fed_offset (Err (halts.At q at)) = at
fed_offset (Err (halts.Refused q)) = 0

offset-in : (count : ℕ) (x : Answer (Replayed (List ℕ))) → replay_offset x ≤ count → fed_offset (fed_as count x) ≤ count
offset-in count (refuse q) l = omega arith
offset-in count (accept x) l = go x.end l
  where
    go : (e : End) → end_offset e ≤ count → fed_offset (fed_end count e) ≤ count
    go replays.ended m = omega arith
    go (replays.torn offset) m = m
    go (replays.stopped q offset) m = m

-- of the first bytes of a piece
pub fed_within : (piece area : List ℕ) (count : ℕ) (r e : Fed) → r ≡ fed_as (length (take count piece)) (replay_log (take count piece) area) → r ≡ e
    → fed_offset e ≤ length piece
fed_within piece area count r e t k =
    let bytes : List ℕ = take count piece in
    let l = offset-in (length bytes) (replay_log bytes area) (within-replayed _ _ bytes area) in
    let same : fed_offset e ≡ fed_offset (fed_as (length bytes) (replay_log bytes area)) = ap fed_offset (sym k ∙ t) in
    omega (arith, l, same, length-take count piece)
