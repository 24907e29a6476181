-- Given exactly when: how far `feed` gets in a piece, and the one number that `finish` can give.
use Rattle.std.specs.Prelude.{ℕ, ◌-◌, ◌<◌, ◌≡◌, Bool, true, cond, ◌↔◌, List, [], ◌∷◌, length, take, leb, ltb}
use Rattle.iscc.specs.Refusals.{refusal_number, area_too_short}
use Rattle.iscc.specs.Exactly.{Rule, HoldAt, BrokenAt, Exactly, rule, once}
use Rattle.lines.specs.Feeding.{Feeding, feeding, finishing, begun_after, answers_to}

-- before byte j of the piece is taken, 74 bytes are left beside the answers to the lines that end before it
abbrev pub room_at : ℕ → List ℕ → List ℕ → ℕ → Bool
room_at room p piece j = cond (ltb j (length piece)) (leb 74 (room - length (answers_to p (take j piece)))) true

abbrev pub feed_stage : ℕ → List ℕ → List ℕ → List Rule
feed_stage room p piece = rule area_too_short (room_at room p piece)

-- `feed` gives no number: it takes all of a piece exactly where there is room at every byte, and else stops at the first byte at
-- which there is none. What it keeps and answers is what the bytes that it took leave and end.
pub record Stops (room : ℕ) (p piece : List ℕ) (f : Feeding) : Type 0 where
  pub whole : (f.used ≡ length piece) ↔ ((j : ℕ) → HoldAt (feed_stage room p piece) j)
  pub stopped : (k : ℕ) → k < length piece
      → (f.used ≡ k) ↔ (((j : ℕ) → j < k → HoldAt (feed_stage room p piece) j) × BrokenAt (feed_stage room p piece) (refusal_number area_too_short) k)
  pub begun : f.begun ≡ begun_after p (take f.used piece)
  pub answers : f.answers ≡ answers_to p (take f.used piece)

-- 15 where a line was begun and the area is below 74 bytes
abbrev pub last_fits : ℕ → List ℕ → Bool
last_fits room [] = true
last_fits room (c ∷ p) = leb 74 room

abbrev pub finish_stages : ℕ → List ℕ → List (List Rule)
finish_stages room p = once area_too_short (last_fits room p) ∷ []

pub record LineTests : Type 1 where
  pub feed_tests : (room : ℕ) (p piece : List ℕ) → Stops room p piece (feeding room p piece)
  pub finish_tests : (room : ℕ) (p : List ℕ) → Exactly (finish_stages room p) (finishing room p)
