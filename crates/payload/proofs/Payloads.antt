-- The bytes that a typed text holds: the answer from its tests.
use Rattle.iscc.specs.Detailed.{with_detail}
use Rattle.std.specs.Prelude.{Ok, Err}
use Prim.Native.Nat.{ℕ, zero, suc, ◌-◌, ◌*◌, ◌/◌, ◌≤◌, ◌<◌}
use mathlib.Core.Path.{◌≡◌, refl, sym, ◌∙◌, ap}
use mathlib.Core.List.{List}
use mathlib.Core.Bool.{true}
use native.Mathlib.Omega.{arith}
use lib.ListN.{length, take}
use lib.Seq.{take_all}
use borrow.Author.Tests.{lt-ltb, le-ltb, le-leb, lt-leb, leb-true}
use Rattle.iscc.specs.Refusals.{Refusal, long_text, empty_text, long_run}
use Rattle.iscc.specs.Answer.{Answer, accept, refuse, ◌>>◌, ◌otherwise◌, into, area_after}
use Rattle.iscc.specs.Lists.{first_not}
use Rattle.iscc.specs.Digits.{byte_count}
use Rattle.iscc.specs.Alphabet.{is_digit, decode}
use Rattle.iscc.specs.Base32.{base32, read_base32}
use Rattle.iscc.specs.Doors.{behind_scheme, drop_hyphens, cleaned, decode_run, payload}
use Rattle.iscc.specs.Representation.{written_as}
use Rattle.iscc.specs.Representation.{Written}
use lib.Dec.{leb, ltb}
use Rattle.iscc.proofs.Answer.{passed}
use Rattle.iscc.proofs.Alphabet.{encode-decode}
use Rattle.iscc.proofs.Base32.{sound32}
use Rattle.iscc.proofs.Doors.{run_of}
use Rattle.payload.specs.Offsets.{offset_of}
use Rattle.payload.specs.Runs.{no_hyphen, Dropped}
use Rattle.payload.specs.Payloads.{first_bad, bad_offset, payload_detail, payload_answer_as}
use Rattle.payload.specs.Payloads.{PayloadAnswer}
use Rattle.payload.proofs.Runs.{Clear, plain-run, front-counted}

-- ---- the first bad character

module _ (t chars : List ℕ) (b : ℕ) (of : chars ≡ cleaned t) (found : b ≡ first_not (is_digit base32) chars) where
  first-bad : b ≡ first_not (is_digit base32) (cleaned t)
  first-bad = found ∙ ap (first_not (is_digit base32)) of

  pub bad-there : b < length chars → (r : ℕ) → r ≡ offset_of t b → r ≡ bad_offset t
  unfolding bad_offset
  bad-there l r e =
      let l' : b < length (cleaned t) = rw of at l in
      rw (← first-bad, lt-ltb b (length (cleaned t)) l') e

  pub bad-nowhere : length chars ≤ b → 0 ≡ bad_offset t
  unfolding bad_offset
  bad-nowhere l =
      let l' : length (cleaned t) ≤ b = rw of at l in
      rw (← first-bad, le-ltb b (length (cleaned t)) l')

-- ---- how an answer is told

as-accepted : (k : ℕ) (r : Answer (List ℕ)) (n : ℕ) → Ok n ≡ written_as r → Ok n ≡ payload_answer_as k r
as-accepted k (accept bs) n e = let q : n ≡ length bs = cc in ap Ok q
as-accepted k (refuse p) n e = let z : ◌≡◌ {A = ℕ} 0 1 = cc in absurd (omega arith)

as-refused : (k : ℕ) (r : Answer (List ℕ)) (q : Refusal) → Err q ≡ written_as r → Err (with_detail k q) ≡ payload_answer_as k r
as-refused k (accept bs) q e = let z : ◌≡◌ {A = ℕ} 0 1 = cc in absurd (omega arith)
as-refused k (refuse p) q e = let f : q ≡ p = cc in ap (λ (q : Refusal). Err (with_detail k q)) f

ne-pos : (n : ℕ) → (n ≡ 0 → ⊥) → 0 < n
ne-pos zero h = absurd (h refl)
ne-pos (suc n) h = omega arith

-- ---- what the contract says of the answer r and the area e, once d was lent

abbrev pub Answered : List ℕ → List ℕ → PayloadAnswer → List ℕ → Type 0
Answered t d r e = (r ≡ payload_answer_as (payload_detail t) (into (length d) (payload t))) × (e ≡ area_after (into (length d) (payload t)) d)

refused : (t d : List ℕ) (q : Refusal) → payload t ≡ refuse q → payload_detail t ≡ 0 → Answered t d (Err (with_detail 0 q)) d
refused t d q e z = rw (e, z) (refl, refl)

-- ---- 1, 3

over-long : (t d : List ℕ) → length t ≤ 1024 → 80 < length (cleaned t) → Answered t d (Err (with_detail 0 long_run)) d
unfolding payload decode_run payload_detail
over-long t d short l =
    let a = le-leb (length t) 1024 short in
    let b = lt-leb (length (cleaned t)) 80 l in
    refused t d long_run (rw (a, lt-ltb 0 (length (cleaned t)) (omega arith), b)) (rw (a, b))

module _ (t chars : List ℕ) (short : length t ≤ 1024) (of : chars ≡ cleaned t) where
  counted : length chars ≡ length (cleaned t)
  counted = ap length of

  pub run-empty : (d : List ℕ) → length chars ≡ 0 → Answered t d (Err (with_detail 0 empty_text)) d
  unfolding payload decode_run payload_detail bad_offset
  run-empty d e =
      let a = le-leb (length t) 1024 short in
      let n : length (cleaned t) ≡ 0 = sym counted ∙ e in
      refused t d empty_text (rw (a, n)) (rw (a, n, le-ltb (first_bad t) 0 (omega arith)))

  pub run-over : (d : List ℕ) → 80 < length chars → Answered t d (Err (with_detail 0 long_run)) d
  run-over d l = let n = counted in over-long t d short (omega arith)

  -- ---- 4, 5, 6, 15: as the base32 reader says
  module _ (some : length chars ≡ 0 → ⊥) (most : length chars ≤ 80) where
    run-decoded : payload t ≡ decode base32 (cleaned t)
    unfolding payload
    run-decoded =
        let n = counted in
        let z : 0 < length (cleaned t) = ne-pos (length (cleaned t)) (λ e. some (counted ∙ e)) in
        rw (le-leb (length t) 1024 short) (run_of base32 80 (cleaned t) z (omega arith))

    pointed : payload_detail t ≡ bad_offset t
    unfolding payload_detail
    pointed = let n = counted in rw (le-leb (length t) 1024 short, le-leb (length (cleaned t)) 80 (omega arith))

    module _ (d e : List ℕ) (w : Written)
        (answered : w ≡ written_as (read_base32 chars (length d))) (after : e ≡ area_after (read_base32 chars (length d)) d) where
      read_is : read_base32 chars (length d) ≡ into (length d) (payload t)
      read_is = rw of (ap (into (length d)) (sym run-decoded))

      area-after : e ≡ area_after (into (length d) (payload t)) d
      area-after = after ∙ ap (λ (x : Answer (List ℕ)). area_after x d) read_is

      answered-as : w ≡ written_as (into (length d) (payload t))
      answered-as = answered ∙ ap written_as read_is

      pub run-accepted : (n : ℕ) → w ≡ Ok n → Answered t d (Ok n) e
      run-accepted n f = (as-accepted (payload_detail t) (into (length d) (payload t)) n (sym f ∙ answered-as), area-after)

      pub run-refused : (q : Refusal) (k : ℕ) → w ≡ Err q → k ≡ bad_offset t → Answered t d (Err (with_detail k q)) e
      run-refused q k f g = (rw g (ap (λ (j : ℕ). Err (with_detail j q)) (sym pointed) ∙ as-refused (payload_detail t) (into (length d) (payload t)) q (sym f ∙ answered-as)), area-after)

-- ---- what stands behind the scheme: without hyphens it is the run, and with them their dropping is

pub code-dropped : (t code : List ℕ) → code ≡ behind_scheme t → drop_hyphens code ≡ cleaned t
unfolding cleaned
code-dropped t code e = ap drop_hyphens e

pub plain-cleaned : (t code : List ℕ) (f : ℕ) → code ≡ behind_scheme t → no_hyphen (take f code) ≡ true → f ≡ length code → code ≡ cleaned t
plain-cleaned t code f e k q =
    let a : take f code ≡ code = take_all f code (omega arith) in
    sym (plain-run code (ap no_hyphen (sym a) ∙ k)) ∙ code-dropped t code e

module _ (t typed : List ℕ) (short : length t ≤ 1024) (passed : drop_hyphens typed ≡ cleaned t) where
  pub front-over : (d : List ℕ) (f : ℕ) → Clear typed f → 80 < f → Answered t d (Err (with_detail 0 long_run)) d
  front-over d f k l = over-long t d short (omega (arith, front-counted typed f k, ap length passed))

  pub hyphened-over : (d area : List ℕ) (n : ℕ) → Dropped typed area n → 80 < n → Answered t d (Err (with_detail 0 long_run)) d
  hyphened-over d area n k l = over-long t d short (omega (arith, k.counted, ap length passed))

  pub characters : (area : List ℕ) (n : ℕ) → Dropped typed area n → n ≤ length area → take (n - 0) area ≡ cleaned t
  characters area n k h = let z : n - 0 ≡ n = omega arith in ap (λ (j : ℕ). take j area) z ∙ k.stored h ∙ passed

-- ---- an area of 50 bytes has room: 80 characters hold no more

into-fits : (area : ℕ) (r : Answer (List ℕ)) → ((bs : List ℕ) → r ≡ accept bs → length bs ≤ area) → into area r ≡ r
into-fits area (accept bs) h = rw (le-leb (length bs) area (h bs refl))
into-fits area (refuse q) h = refl

payload-most : (t bs : List ℕ) → payload t ≡ accept bs → length bs ≤ 50
unfolding payload decode_run byte_count base32
payload-most t bs e =
    let p = passed (leb (length t) 1024) _ (decode_run base32 80 (cleaned t)) e in
    let q = passed (ltb 0 (length (cleaned t))) _ (leb (length (cleaned t)) 80 otherwise long_run >> decode base32 (cleaned t)) p.1 in
    let r = passed (leb (length (cleaned t)) 80) _ (decode base32 (cleaned t)) q.1 in
    let l : length (cleaned t) ≤ 80 = leb-true (length (cleaned t)) 80 r.0 in
    let n : length bs ≡ 5 * length (cleaned t) / 8 = (encode-decode base32 sound32 (cleaned t) bs r.1).count in
    omega arith

pub payload-fits : (t : List ℕ) → into 50 (payload t) ≡ payload t
payload-fits t = into-fits 50 (payload t) (payload-most t)

-- ---- 2

pub payload-long : (t : List ℕ) → 1024 < length t → (payload t ≡ refuse long_text) × (payload_detail t ≡ 0)
unfolding payload payload_detail
payload-long t l = let b = lt-leb (length t) 1024 l in (rw b, rw b)

pub text-long : (t d : List ℕ) → 1024 < length t → Answered t d (Err (with_detail 0 long_text)) d
text-long t d l = let h = payload-long t l in refused t d long_text h.0 h.1
