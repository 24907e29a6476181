-- A log that is replayed in pieces, however it is cut.
use Prim.Native.Nat.{ℕ, zero, suc, ◌+◌, ◌*◌, ◌≤◌, ◌<◌}
use mathlib.Core.Path.{◌≡◌, refl, sym, ◌∙◌, ap}
use mathlib.Core.Bool.{Bool, true, false, cond}
use mathlib.Core.List.{List, [], ◌∷◌, ◌++◌, flatten, append-nil, append_assoc}
use native.Mathlib.Nat.{lt_of_lt_of_le}
use native.Mathlib.Omega.{arith}
use lib.ListN.{length, take, drop, length-take, take-append-drop, drop_of_length-le}
use lib.Pow.{pow_mono}
use lib.Seq.{length-take-le}
use lib.Dec.{leb}
use borrow.Author.Tests.{leb-true, leb-false}
use Rattle.iscc.specs.Answer.{Answer, accept, refuse}
use Rattle.iscc.specs.Refusals.{Refusal}
use Rattle.iscc.specs.Digits.{Below}
use Rattle.iscc.proofs.Digits.{below-take, below-drop, value-lt}
use Rattle.loans.specs.Fields.{Field, first_size, first_is_whole, first_field}
use Rattle.loans.specs.Log.{Record, Records, records_up_to, records_from, tear_at, with_record}
use Rattle.loans.specs.Replay.{End, ended, torn, stopped, Replayed, go_on, replay_all, replay_from}
use Rattle.loans.proofs.Replay.{replay-append, replay-end, replay-torn, replay-step}
use Rattle.loans.proofs.Fields.{nil-torn, size-least}
use Rattle.loans.proofs.Settled.{settled, rest-unread}
use Rattle.recovery.specs.Pieces.{Feeding, going, halted, fed_at, fed, fed_all, finished, InPieces}

-- ---- a replay from a later offset tells its offsets so much later

abbrev later_end : ℕ → End → End
later_end k ended = ended
later_end k (torn offset) = torn (k + offset)
later_end k (stopped q offset) = stopped q (k + offset)

abbrev later : {S : Type 0} → ℕ → Replayed S → Replayed S
later k x = record { state = x.state; end = later_end k x.end }

size-most : (bs : List ℕ) → Below 256 bs → first_size bs ≤ 65538
unfolding first_size
size-most bs k =
    let ds : List ℕ = take 2 (drop 1 bs) in
    let l : length ds ≤ 2 = simp length-take (omega arith) in
    let b : Below 256 ds = below-take 256 2 (drop 1 bs) (below-drop 256 1 bs k) in
    omega (arith, lt_of_lt_of_le (value-lt 8 ds b) (pow_mono {i = 8 * length ds} {j = 16} (omega arith)))

module _ {S : Type 0} (apply : Field → S → Answer S) where
  abbrev replay_records : Records → S → Replayed S
  replay_records rs s = replay_all apply rs.whole rs.tear s

  later-torn : (k offset : ℕ) (bs : List ℕ) (s : S)
      → replay_all apply [] (tear_at (k + offset) bs) s ≡ later k (replay_all apply [] (tear_at offset bs) s)
  unfolding replay_all
  later-torn k offset [] s = refl
  later-torn k offset (b ∷ bs) s = refl

  later-up-to : (n k offset : ℕ) (bs : List ℕ) (s : S)
      → replay_records (records_up_to n (k + offset) bs) s ≡ later k (replay_records (records_up_to n offset bs) s)
  unfolding records_up_to replay_all
  later-up-to zero k offset bs s = later-torn k offset bs s
  later-up-to (suc n) k offset bs s =
      let z : k + offset + first_size bs ≡ k + (offset + first_size bs) = omega arith in
      rw z (go (first_is_whole bs) (λ s'. later-up-to n k (offset + first_size bs) (drop (first_size bs) bs) s'))
    where
      more : ℕ → Records
      more at = records_up_to n at (drop (first_size bs) bs)

      Later : Type 0
      Later = (s' : S) → replay_records (more (k + (offset + first_size bs))) s' ≡ later k (replay_records (more (offset + first_size bs)) s')

      step : (x : Answer S) → Later
          → go_on apply s (k + offset) x (λ s'. replay_records (more (k + (offset + first_size bs))) s')
          ≡ later k (go_on apply s offset x (λ s'. replay_records (more (offset + first_size bs)) s'))
      step (accept s') ih = ih s'
      step (refuse q) ih = refl

      first : ℕ → Record
      first at = record { offset = at; field = first_field bs }

      none-whole : ℕ → Records
      none-whole at = record { whole = []; tear = tear_at at bs }

      go : (b : Bool) → Later
          → replay_records (cond b (with_record (first (k + offset)) (more (k + (offset + first_size bs)))) (none-whole (k + offset))) s
          ≡ later k (replay_records (cond b (with_record (first offset) (more (offset + first_size bs))) (none-whole offset)) s)
      go false ih = later-torn k offset bs s
      go true ih = step (apply (first_field bs) s) ih

  later-by : (k offset : ℕ) (bs : List ℕ) (s : S) → replay_from apply (k + offset) bs s ≡ later k (replay_from apply offset bs s)
  unfolding records_from
  later-by k offset bs s = later-up-to (length bs) k offset bs s

  later-start : (k : ℕ) (bs : List ℕ) (s : S) → replay_from apply k bs s ≡ later k (replay_from apply 0 bs s)
  later-start k bs s = let z : k + 0 ≡ k = omega arith in rw z at (later-by k 0 bs s)

  not-before : (k : ℕ) (bs : List ℕ) (s : S) (at : ℕ) → (replay_from apply k bs s).end ≡ torn at → k ≤ at
  not-before k bs s at e = go (replay_from apply 0 bs s).end (sym (ap (λ (x : Replayed S). x.end) (later-start k bs s)) ∙ e)
    where
      go : (x : End) → later_end k x ≡ torn at → k ≤ at
      go ended d = let z : ◌≡◌ {A = ℕ} 0 1 = cc in absurd (omega arith)
      go (torn offset) d = let z : k + offset ≡ at = cc in omega arith
      go (stopped q offset) d = let z : ◌≡◌ {A = ℕ} 0 1 = cc in absurd (omega arith)

  -- ---- a log that is torn: what is behind the tear is the start of one record

  module _ (bs : List ℕ) (s s' : S) (at : ℕ) (e : replay_from apply 0 bs s ≡ record { state = s'; end = torn at }) where
    front-runs : replay_from apply 0 (take at bs) s ≡ record { state = s'; end = ended }
    front-runs = rw e at (settled apply bs s)

    behind-front : (xs : List ℕ) → replay_from apply 0 (bs ++ xs) s ≡ replay_from apply (length (take at bs)) (drop at bs ++ xs) s'
    behind-front xs =
        ap (λ (l : List ℕ). replay_from apply 0 (l ++ xs) s) (sym (take-append-drop at bs))
        ∙ ap (λ (l : List ℕ). replay_from apply 0 l s) (append_assoc (take at bs) (drop at bs) xs)
        ∙ replay-append apply (take at bs) (drop at bs ++ xs) s s' front-runs

    rest-torn : replay_from apply (length (take at bs)) (drop at bs) s' ≡ record { state = s'; end = torn at }
    rest-torn = rw append-nil at (sym (behind-front []) ∙ ap (λ (l : List ℕ). replay_from apply 0 l s) (append-nil bs) ∙ e)

    tear-inside : at < length bs
    tear-inside = go (leb (length bs) at) refl
      where
        go : (b : Bool) → leb (length bs) at ≡ b → at < length bs
        go false w = leb-false (length bs) at w
        go true w =
            let d : drop at bs ≡ [] = drop_of_length-le bs {i = at} (leb-true (length bs) at w) in
            let r = sym (replay-end apply (length (take at bs)) s') ∙ (rw d at rest-torn) in
            let h : ended ≡ torn at = ap (λ (x : Replayed S). x.end) r in
            let z : ◌≡◌ {A = ℕ} 0 1 = cc in
            absurd (omega arith)

    front_length : length (take at bs) ≡ at
    front_length = length-take-le at bs (omega (arith, tear-inside))

    rest-not-whole : first_is_whole (drop at bs) ≡ false
    rest-not-whole = go (first_is_whole (drop at bs)) refl
      where
        rest : List ℕ
        rest = drop at bs

        size : ℕ
        size = first_size rest

        step : (x : Answer S) → (go_on apply s' at x (λ s''. replay_from apply (at + size) (drop size rest) s'')).end ≡ torn at → ⊥
        step (accept s'') d = omega (arith, not-before (at + size) (drop size rest) s'' at d, size-least rest)
        step (refuse q) d = let z : ◌≡◌ {A = ℕ} 0 1 = cc in omega arith

        go : (b : Bool) → first_is_whole rest ≡ b → first_is_whole rest ≡ false
        go false w = w
        go true w =
            absurd (step (apply (first_field rest) s')
            (ap (λ (x : Replayed S). x.end) (sym (replay-step apply at rest s' w) ∙ (rw front_length at rest-torn))))

  -- ---- a piece

  -- what it leaves, with any bytes behind it, is replayed as the piece with these bytes would be
  abbrev Carries : ℕ → List ℕ → S → Feeding S → Type 0
  Carries offset bs s (going s' at left) =
      (first_is_whole left ≡ false) × ((xs : List ℕ) → replay_from apply offset (bs ++ xs) s ≡ replay_from apply at (left ++ xs) s')
  Carries offset bs s (halted s' q at) = (xs : List ℕ) → replay_from apply offset (bs ++ xs) s ≡ record { state = s'; end = stopped q at }

  stays-halted : (bs xs : List ℕ) (s s' : S) (q : Refusal) (at : ℕ) → replay_from apply 0 bs s ≡ record { state = s'; end = stopped q at }
      → replay_from apply 0 (bs ++ xs) s ≡ record { state = s'; end = stopped q at }
  stays-halted bs xs s s' q at e =
      let n : ℕ = at + first_size (drop at bs) in
      ap (λ (l : List ℕ). replay_from apply 0 (l ++ xs) s) (sym (take-append-drop n bs))
      ∙ ap (λ (l : List ℕ). replay_from apply 0 l s) (append_assoc (take n bs) (drop n bs) xs)
      ∙ rest-unread apply bs (drop n bs ++ xs) s q at (ap (λ (x : Replayed S). x.end) e) ∙ e

  carries : (offset : ℕ) (bs : List ℕ) (s s' : S) (end : End) → replay_from apply 0 bs s ≡ record { state = s'; end = end }
      → Carries offset bs s (fed_at offset bs s' end)
  carries offset bs s s' ended e = (
    nil-torn,
    λ xs. later-start offset (bs ++ xs) s ∙ ap (later offset) (replay-append apply bs xs s s' e) ∙ sym (later-by offset (length bs) xs s'),
  )
  carries offset bs s s' (torn at) e = (
    rest-not-whole bs s s' at e,
    λ xs. later-start offset (bs ++ xs) s ∙ ap (later offset) (behind-front bs s s' at e xs)
        ∙ rw (front_length bs s s' at e) (sym (later-by offset at (drop at bs ++ xs) s')),
  )
  carries offset bs s s' (stopped q at) e = λ xs. later-start offset (bs ++ xs) s ∙ ap (later offset) (stays-halted bs xs s s' q at e)

  -- ---- all pieces

  finished-torn : (s : S) (offset : ℕ) (left : List ℕ) → first_is_whole left ≡ false
      → finished (going s offset left) ≡ replay_from apply offset left s
  finished-torn s offset [] w = sym (replay-end apply offset s)
  finished-torn s offset (b ∷ bs) w = sym (replay-torn apply offset b bs s w)

  fed-halted : (ps : List (List ℕ)) (s : S) (q : Refusal) (offset : ℕ) → fed_all apply ps (halted s q offset) ≡ halted s q offset
  unfolding fed_all
  fed-halted [] s q offset = refl
  fed-halted (p ∷ ps) s q offset = fed-halted ps s q offset

  fed-all : (ps : List (List ℕ)) (s : S) (offset : ℕ) (left : List ℕ) → first_is_whole left ≡ false
      → finished (fed_all apply ps (going s offset left)) ≡ replay_from apply offset (left ++ flatten ps) s
  unfolding fed_all flatten
  fed-all [] s offset left w = rw append-nil (finished-torn s offset left w)
  fed-all (p ∷ ps) s offset left w =
      rw (← append_assoc left p (flatten ps))
      (go (fed apply p (going s offset left)) (carries offset (left ++ p) s _ _ refl) (λ s' at rest. fed-all ps s' at rest))
    where
      go : (f : Feeding S) → Carries offset (left ++ p) s f
          → ((s' : S) (at : ℕ) (rest : List ℕ) → first_is_whole rest ≡ false
          → finished (fed_all apply ps (going s' at rest)) ≡ replay_from apply at (rest ++ flatten ps) s')
          → finished (fed_all apply ps f) ≡ replay_from apply offset ((left ++ p) ++ flatten ps) s
      go (going s' at rest) c ih = ih s' at rest c.0 ∙ sym (c.1 (flatten ps))
      go (halted s' q at) c ih = ap finished (fed-halted ps s' q at) ∙ sym (c (flatten ps))

  any-cut : (ps : List (List ℕ)) (s : S) → finished (fed_all apply ps (going s 0 [])) ≡ replay_from apply 0 (flatten ps) s
  any-cut ps s = fed-all ps s 0 [] nil-torn

  taken-some : (bs : List ℕ) (s : S) → Below 256 bs → 65538 ≤ length bs → (at : ℕ) → (replay_from apply 0 bs s).end ≡ torn at → 0 < at
  unfolding first_is_whole
  taken-some bs s k l zero e =
      let x : S = (replay_from apply 0 bs s).state in
      let w = rest-not-whole bs s x 0 (ap (λ (d : End). record { state = x; end = d }) e) in
      absurd (omega (arith, leb-false (first_size bs) (length bs) w, size-most bs k))
  taken-some bs s k l (suc at) e = omega arith

  pub in_pieces : InPieces apply
  in_pieces =
      record {
        any_cut = any-cut;
        same = λ ps qs s e. any-cut ps s ∙ ap (λ (l : List ℕ). replay_from apply 0 l s) e ∙ sym (any-cut qs s);
        goes = taken-some;
      }
