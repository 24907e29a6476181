-- Bytes appended to a log, and a record made of its parts.
use Rattle.std.specs.Prelude.{Result, Ok, Err}
use Prim.Native.Nat.{ℕ, ◌+◌, ◌-◌, ◌≤◌, ◌<◌}
use mathlib.Core.Path.{◌≡◌, refl, sym, ◌∙◌, ap, subst}
use mathlib.Core.Bool.{Bool, true, false, not, ◌&&◌}
use mathlib.Core.List.{List, [], ◌∷◌, ◌++◌, append-nil, append_assoc}
use native.Mathlib.Omega.{arith}
use lib.ListN.{length, take, drop, length-append}
use lib.Seq.{take_at, drop_at, drop-drop}
use lib.Dec.{eqb}
use borrow.Author.Tests.{le-leb, lt-leb, eq-eqb, ne_eqb}
use Rattle.iscc.specs.Refusals.{Refusal, area_too_short, not_record}
use Rattle.iscc.specs.Answer.{Answer, accept}
use Rattle.iscc.specs.Digits.{digits, Below}
use Rattle.iscc.proofs.Booleans.{both_true}
use Rattle.iscc.proofs.Digits.{length_digits}
use Rattle.loans.specs.Loan.{one_code}
use Rattle.loans.specs.Map.{issue_code, return_code}
use Rattle.loans.specs.Moves.{pasted}
use Rattle.loans.specs.Fields.{field_bytes}
use Rattle.loans.specs.Writer.{Written, appended, written_after, Appended}
use Rattle.loans.specs.PendingLog.{write_record}
use Rattle.loans.proofs.Loan.{is_code}
use Rattle.loans.proofs.Replay.{append-writes}
use Rattle.pending_log.specs.AppendedRecord.{appended_record}
use Rattle.pending_log.specs.Representation.{appended_as}

-- the code's answer r, and the log l that it leaves, are those of an answer a
abbrev pub Tells : List ℕ → ℕ → Answer Written → Result ℕ Refusal → List ℕ → Type 0
Tells log position a r l = (r ≡ appended_as a) × (l ≡ (written_after log position a).log)

-- ---- bytes at a position

-- a copy into a log from an offset on, said of the whole
pub put_written : (bs log e : List ℕ) (offset n : ℕ) → e ≡ bs → n ≡ length bs → take offset log ++ (e ++ drop n (drop offset log)) ≡ pasted offset bs log
unfolding pasted
put_written bs log e offset n p q = rw (p, q, drop-drop (length bs) offset log)

module _ (bs log : List ℕ) (position : ℕ) (h : position + length bs ≤ length log) where
  room : appended bs log position ≡ accept (record { log = pasted position bs log; position = position + length bs })
  unfolding appended
  room = rw (le-leb (position + length bs) (length log) h)

  written : Appended bs log position (record { log = pasted position bs log; position = position + length bs })
  written = append-writes bs log position _ room

  next : (cs l : List ℕ) → take (position + length bs) l ≡ take position log ++ bs → drop (position + length bs) l ≡ drop (position + length bs) log
      → pasted (position + length bs) cs l ≡ pasted position (bs ++ cs) log
  unfolding pasted
  next cs l f r =
      let d : drop (position + length bs + length cs) l ≡ drop (position + length (bs ++ cs)) log =
      sym (drop-drop (length cs) (position + length bs) l) ∙ ap (drop (length cs)) r ∙ drop-drop (length cs) (position + length bs) log
      ∙ let k : position + length bs + length cs ≡ position + length (bs ++ cs) = omega (arith, length-append bs cs) in ap (λ (i : ℕ). drop i log) k in
      rw (f, d) (simp append_assoc)

  -- first some bytes, then others behind them
  pub put_next : (cs : List ℕ) → pasted (position + length bs) cs (pasted position bs log) ≡ pasted position (bs ++ cs) log
  put_next cs = next cs (pasted position bs log) written.front written.rest

-- what was put at an offset: the offset behind it, and the log
abbrev pub Put : ℕ → List ℕ → List ℕ → ℕ → List ℕ → Type 0
Put offset bs log n l = (n ≡ offset + length bs) × (l ≡ pasted offset bs log)

module _ (hs fs cs log : List ℕ) (position : ℕ) where
  abbrev whole : List ℕ
  whole = hs ++ fs ++ cs

  size : length whole ≡ length hs + length fs + length cs
  size = omega (arith, length-append (hs ++ fs) cs, length-append hs fs)

  no_room : length log - position < length hs + length fs + length cs → Tells log position (appended whole log position) (Err area_too_short) log
  unfolding appended
  no_room h = rw (lt-leb (position + length whole) (length log) (omega (arith, h, size))) (refl, refl)

  all-put : position + (length hs + length fs + length cs) ≤ length log → (n₁ n₂ n₃ : ℕ) (l₁ l₂ l₃ : List ℕ)
      → Put position hs log n₁ l₁ → Put n₁ fs l₁ n₂ l₂ → Put n₂ cs l₂ n₃ l₃
      → Tells log position (appended whole log position) (Ok n₃) l₃
  all-put h n₁ n₂ n₃ l₁ l₂ l₃ p q r =
      let n : n₂ ≡ position + length (hs ++ fs) = omega (arith, p.0, q.0, length-append hs fs) in
      let m : n₃ ≡ position + length whole = omega (arith, p.0, q.0, r.0, size) in
      let e : l₂ ≡ pasted position (hs ++ fs) log =
      q.1 ∙ ap (λ (i : ℕ). pasted i fs l₁) p.0 ∙ ap (pasted (position + length hs) fs) p.1 ∙ put_next hs log position (omega arith) fs in
      let w : l₃ ≡ pasted position whole log =
      r.1 ∙ ap (λ (i : ℕ). pasted i cs l₂) n ∙ ap (pasted (position + length (hs ++ fs)) cs) e
      ∙ put_next (hs ++ fs) log position (omega (arith, length-append hs fs)) cs in
      rw (room whole log position (omega (arith, size))) (ap Ok m, w)

-- ---- the tests of a record

pub number-zero : (c : List ℕ) (n : ℕ) → n ≡ 0 → false ≡ one_code c && not (eqb n 0)
number-zero c n e = rw (eq-eqb n 0 e) (go (one_code c))
  where
    go : (b : Bool) → false ≡ b && false
    go true = refl
    go false = refl

pub number-some : (c : List ℕ) (n : ℕ) → (n ≡ 0 → ⊥) → (r : Bool) → r ≡ one_code c → r ≡ one_code c && not (eqb n 0)
number-some c n h r e = rw (ne_eqb n 0 h) (go (one_code c) e)
  where
    go : (b : Bool) → r ≡ b → r ≡ b && true
    go true k = k
    go false k = k

-- a code that passed the test 24 fits
pub code_fits : (c : List ℕ) (n : ℕ) → Below 256 c → (x : Bool) → x ≡ one_code c && not (eqb n 0) → x ≡ true → length c ≤ 42
code_fits c n k x e t = (is_code c k (both_true (one_code c) (not (eqb n 0)) (sym e ∙ t)).0).most

module _ (tag n : ℕ) (front c log : List ℕ) (position : ℕ) (x : Bool) (e : x ≡ one_code c && not (eqb n 0)) where
  pub no_record : x ≡ false → Tells log position (appended_record tag n front c log position) (Err not_record) log
  unfolding appended_record
  no_record t = rw (sym e ∙ t) (refl, refl)

  abbrev head : List ℕ
  head = tag ∷ (digits 8 2 (4 + length front + length c) ++ digits 8 4 n)

  head-size : length head ≡ 7
  head-size = omega (arith, length-append (digits 8 2 (4 + length front + length c)) (digits 8 4 n), length_digits 8 2 (4 + length front + length c), length_digits 8 4 n)

  record-told : x ≡ true → (r : Result ℕ Refusal) (l : List ℕ) → Tells log position (appended (head ++ front ++ c) log position) r l
      → Tells log position (appended_record tag n front c log position) r l
  unfolding appended_record field_bytes
  record-told t r l q =
      let m : length (digits 8 4 n ++ (front ++ c)) ≡ 4 + length front + length c =
      omega (arith, length-append (digits 8 4 n) (front ++ c), length-append front c, length_digits 8 4 n) in
      let f : tag ∷ (digits 8 2 (length (digits 8 4 n ++ (front ++ c))) ++ (digits 8 4 n ++ (front ++ c))) ≡ head ++ front ++ c =
      rw m (simp append_assoc) in
      rw (sym e ∙ t, f) q

  module _ (t : x ≡ true) (room : ℕ) (k : room ≡ length log - position) where
    pub room-lacks : room < 7 + length front + length c → Tells log position (appended_record tag n front c log position) (Err area_too_short) log
    room-lacks h = record-told t (Err area_too_short) log (no_room head front c log position (omega (arith, h, k, head-size)))

    pub record-put : 7 + length front + length c ≤ room → (hs : List ℕ) → hs ≡ head → (n₁ n₂ n₃ : ℕ) (l₁ l₂ l₃ : List ℕ)
        → Put position hs log n₁ l₁ → Put n₁ front l₁ n₂ l₂ → Put n₂ c l₂ n₃ l₃ → Tells log position (appended_record tag n front c log position) (Ok n₃) l₃
    record-put h hs w n₁ n₂ n₃ l₁ l₂ l₃ p q r =
        let p' = rw w at p in
        record-told t (Ok n₃) l₃ (all-put head front c log position (omega (arith, h, k, head-size)) n₁ n₂ n₃ l₁ l₂ l₃ p' q r)

-- ---- the head: two bytes, and four behind them

module _ (tag m n : ℕ) (d e : List ℕ) (pd : d ≡ digits 8 2 m) where
  abbrev zeros : List ℕ
  zeros = 0 ∷ 0 ∷ 0 ∷ 0 ∷ []

  two : length d ≡ 2
  two = ap length pd ∙ length_digits 8 2 m

  pub head-made : e ≡ digits 8 (length (take 4 (drop 2 (d ++ zeros)))) n
      → tag ∷ (take 2 (d ++ zeros) ++ (e ++ drop 4 (drop 2 (d ++ zeros)))) ≡ tag ∷ (digits 8 2 m ++ digits 8 4 n)
  head-made pe =
      let s : drop 2 (d ++ zeros) ≡ zeros = drop_at d zeros 2 two in
      let w : e ≡ digits 8 4 n = pe ∙ ap (λ (l : List ℕ). digits 8 (length (take 4 l)) n) s in
      rw (take_at d zeros 2 two, s, w, append-nil (digits 8 4 n), pd)

-- ---- the record of a change

module _ (n : ℕ) (c log : List ℕ) (position : ℕ) (r : Result ℕ Refusal) (l : List ℕ) where
  pub issue-told : (b : ℕ) (front : List ℕ) → front ≡ digits 8 4 b → Tells log position (appended_record 3 n front c log position) r l
      → Tells log position (write_record (record { number = n; change = issue_code c b }) log position) r l
  unfolding appended_record write_record
  issue-told b front e t = subst (λ (f : List ℕ). Tells log position (appended_record 3 n f c log position) r l) e t

  pub return-told : Tells log position (appended_record 4 n [] c log position) r l
      → Tells log position (write_record (record { number = n; change = return_code c }) log position) r l
  unfolding appended_record write_record
  return-told t = t
