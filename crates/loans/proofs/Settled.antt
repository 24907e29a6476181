-- What a replay applied of a log, and why it went no further: so its answer settles the register, and what is behind a stop is not read.
use Prim.Native.Nat.{ℕ, zero, suc, ◌+◌, ◌≤◌}
use mathlib.Core.Path.{◌≡◌, refl, sym, ◌∙◌, ap, ap₂}
use mathlib.Core.Bool.{Bool, true, false}
use mathlib.Core.List.{List, [], ◌∷◌, ◌++◌, append-nil, append_assoc}
use native.Mathlib.Nat.{zero-add, le_refl}
use native.Mathlib.Omega.{arith}
use lib.ListN.{length, take, drop, length-append, length-drop, take-append-drop}
use lib.Seq.{length-take-le, take-append_seam, drop_at, take-append-add}
use Rattle.iscc.specs.Answer.{Answer, accept, refuse}
use Rattle.iscc.specs.Refusals.{Refusal}
use Rattle.loans.specs.Fields.{Field, first_size, first_is_whole, first_field}
use Rattle.loans.specs.Replay.{End, ended, torn, stopped, Replayed, go_on, replay_all, replay_from}
use Rattle.loans.specs.Tears.{applied_log, RestUnread, Settled}
use Rattle.loans.proofs.LogOrder.{stop-inj}
use Rattle.loans.proofs.Fields.{size-least, whole-size, nil-torn, none_left}
use Rattle.loans.proofs.Tears.{first_then}
use Rattle.loans.proofs.Replay.{replay-end, replay-torn, replay-step}

module _ {S : Type 0} (apply : Field → S → Answer S) where
  -- what a replay met where it ended
  data Halt (offset : ℕ) (rest : List ℕ) (s : S) (end : End) : Type 0 where
    nothing : rest ≡ [] → end ≡ ended → Halt offset rest s end
    tear : end ≡ torn offset → Halt offset rest s end
    stop : (q : Refusal) → first_is_whole rest ≡ true → apply (first_field rest) s ≡ refuse q → end ≡ stopped q offset → Halt offset rest s end

  -- the bytes that a replay applied, and the rest; with others behind the first it goes on to them
  record Parts (offset : ℕ) (bs : List ℕ) (s : S) (x : Replayed S) : Type 0 where
    front : List ℕ
    rest : List ℕ
    both : bs ≡ front ++ rest
    runs : (xs : List ℕ) → replay_from apply offset (front ++ xs) s ≡ replay_from apply (offset + length front) xs x.state
    halt : Halt (offset + length front) rest x.state x.end

  abbrev PartsOf : ℕ → List ℕ → S → Type 0
  PartsOf offset bs s = Parts offset bs s (replay_from apply offset bs s)

  replay-first : (offset : ℕ) (bs xs : List ℕ) (s : S) → first_is_whole bs ≡ true
      → replay_from apply offset (take (first_size bs) bs ++ xs) s
      ≡ go_on apply s offset (apply (first_field bs) s) (λ s'. replay_from apply (offset + first_size bs) xs s')
  unfolding replay_all
  replay-first offset bs xs s w = rw (first_then offset bs xs w)

  -- nothing is applied
  at_once : (offset : ℕ) (bs : List ℕ) (s : S) (end : End) → Halt offset bs s end → Parts offset bs s (record { state = s; end = end })
  at_once offset bs s end h =
      let z : offset + 0 ≡ offset = omega arith in
      record { front = []; rest = bs; both = refl; runs = λ xs. rw z; halt = rw z h }

  parts-torn : (offset : ℕ) (bs : List ℕ) (s : S) → first_is_whole bs ≡ false → PartsOf offset bs s
  parts-torn offset [] s w = rw (replay-end apply offset s) (at_once offset [] s ended (nothing refl refl))
  parts-torn offset (b ∷ bs) s w = rw (replay-torn apply offset b bs s w) (at_once offset (b ∷ bs) s (torn offset) (tear refl))

  module _ (offset : ℕ) (bs : List ℕ) (s : S) (w : first_is_whole bs ≡ true) where
    parts-stop : (q : Refusal) → apply (first_field bs) s ≡ refuse q → PartsOf offset bs s
    parts-stop q a = rw (replay-step apply offset bs s w, a) (at_once offset bs s (stopped q offset) (stop q w a refl))

    parts_more : (s' : S) → apply (first_field bs) s ≡ accept s'
        → PartsOf (offset + first_size bs) (drop (first_size bs) bs) s' → PartsOf offset bs s
    parts_more s' a p =
        let n : length (take (first_size bs) bs) ≡ first_size bs = length-take-le (first_size bs) bs (whole-size bs w) in
        let z : offset + length (take (first_size bs) bs ++ p.front) ≡ offset + first_size bs + length p.front = simp length-append (omega arith) in
        rw (replay-step apply offset bs s w, a) (record {
          front = take (first_size bs) bs ++ p.front;
          rest = p.rest;
          both = sym (take-append-drop (first_size bs) bs) ∙ ap (λ (l : List ℕ). take (first_size bs) bs ++ l) p.both
              ∙ sym (append_assoc (take (first_size bs) bs) p.front p.rest);
          runs = λ xs. rw (z, append_assoc (take (first_size bs) bs) p.front xs, replay-first offset bs (p.front ++ xs) s w, a) (p.runs xs);
          halt = rw z p.halt;
        })

  parts-up-to : (n offset : ℕ) (bs : List ℕ) (s : S) → length bs ≤ n → PartsOf offset bs s
  parts-up-to zero offset bs s l = parts-torn offset bs s (ap first_is_whole (none_left bs l) ∙ nil-torn)
  parts-up-to (suc n) offset bs s l =
      go (first_is_whole bs) refl (apply (first_field bs) s) refl (λ s'. parts-up-to n (offset + first_size bs) (drop (first_size bs) bs) s')
    where
      go : (b : Bool) → first_is_whole bs ≡ b → (x : Answer S) → apply (first_field bs) s ≡ x
          → ((s' : S) → length (drop (first_size bs) bs) ≤ n → PartsOf (offset + first_size bs) (drop (first_size bs) bs) s')
          → PartsOf offset bs s
      go false w x a ih = parts-torn offset bs s w
      go true w (refuse q) a ih = parts-stop offset bs s w q a
      go true w (accept s') a ih = parts_more offset bs s w s' a (ih s' (omega (arith, size-least bs, whole-size bs w, length-drop (first_size bs) bs)))

  parts : (log : List ℕ) (s : S) → PartsOf 0 log s
  parts log s = parts-up-to (length log) 0 log s (le_refl (length log))

  -- ---- the answer settles the register

  applied-is : (log : List ℕ) (s : S) (x : Replayed S) (p : Parts 0 log s x) → applied_log log x.end ≡ p.front
  applied-is log s x p =
      let z : 0 + length p.front ≡ length p.front = zero-add (length p.front) in
      ap (λ (l : List ℕ). applied_log l x.end) p.both ∙ elim p.halt [
        | nothing r e ↦ rw (e, r) (append-nil p.front)
        | tear e ↦ rw (e, z) (take-append_seam p.front p.rest)
        | stop q w a e ↦ rw (e, z) (take-append_seam p.front p.rest)
      ]

  pub settled : Settled apply
  settled log s =
      let p = parts log s in
      ap (λ (l : List ℕ). replay_from apply 0 l s) (applied-is log s (replay_from apply 0 log s) p ∙ sym (append-nil p.front))
      ∙ p.runs [] ∙ replay-end apply (0 + length p.front) (replay_from apply 0 log s).state

  -- ---- a stop

  -- the record that gave its number is the first of the rest
  module _ (log : List ℕ) (s : S) (x : Replayed S) (q : Refusal) (offset : ℕ) (e : x.end ≡ stopped q offset) (p : Parts 0 log s x) where
    stop-at : (length p.front ≡ offset) × (first_is_whole p.rest ≡ true) × (apply (first_field p.rest) x.state ≡ refuse q)
    stop-at =
        elim p.halt [
          | nothing r d ↦ let z : ◌≡◌ {A = ℕ} 0 1 = cc in absurd (omega arith)
          | tear d ↦ let z : ◌≡◌ {A = ℕ} 0 1 = cc in absurd (omega arith)
          | stop r w a d ↦ let i = stop-inj r q _ offset (sym d ∙ e) in (sym (zero-add (length p.front)) ∙ i.1, w, a ∙ ap refuse i.0)
        ]

    unread : (rest : List ℕ) → replay_from apply 0 (take (offset + first_size (drop offset log)) log ++ rest) s ≡ x
    unread rest =
        let h = stop-at in
        let b : drop offset log ≡ p.rest = ap (drop offset) p.both ∙ drop_at p.front p.rest offset h.0 in
        let t : take (offset + first_size p.rest) log ≡ p.front ++ take (first_size p.rest) p.rest =
        ap₂ (λ (i : ℕ) (l : List ℕ). take (i + first_size p.rest) l) (sym h.0) p.both
        ∙ take-append-add p.front p.rest (first_size p.rest) in
        rw (b, t, append_assoc p.front (take (first_size p.rest) p.rest) rest) (p.runs _)
        ∙ replay-first (0 + length p.front) p.rest rest x.state h.1
        ∙ rw (h.2, zero-add (length p.front), h.0) (ap (λ (end : End). record { state = x.state; end = end }) (sym e))

  pub rest-unread : RestUnread apply
  rest-unread log rest s q offset e = unread log s (replay_from apply 0 log s) q offset e (parts log s) rest

  -- a stop's number is that of a record, on some state
  pub stop-number : (P : Refusal → Type 0) → ((f : Field) (s : S) (q : Refusal) → apply f s ≡ refuse q → P q)
      → (log : List ℕ) (s : S) (q : Refusal) (offset : ℕ) → (replay_from apply 0 log s).end ≡ stopped q offset → P q
  stop-number P h log s q offset e = h _ _ q (stop-at log s (replay_from apply 0 log s) q offset e (parts log s)).2
