-- The text of a code written to the front of an area: the scheme, then base32 behind it.
use Rattle.std.specs.Prelude.{Ok, Err}
use Prim.Native.Nat.{ℕ, ◌+◌, ◌-◌, ◌*◌, ◌/◌, ◌≤◌, ◌<◌}
use mathlib.Core.Path.{◌≡◌, refl, sym, ◌∙◌, ap}
use mathlib.Core.Bool.{Bool, true, false}
use mathlib.Core.List.{List, [], ◌++◌, append-nil}
use native.Mathlib.Omega.{arith}
use lib.ListN.{length, take, drop, length-append, length-drop, length-take, drop_of_length-le, take-append-drop}
use lib.Seq.{take_all, drop-drop, drop-append_seam}
use lib.Dec.{leb}
use borrow.Author.Tests.{le-leb, lt-leb, leb-true, leb-false}
use Rattle.iscc.specs.Refusals.{Refusal, area_too_short}
use Rattle.iscc.specs.Answer.{accept, refuse, ◌>>◌, ◌otherwise◌, into, area_after}
use Rattle.iscc.specs.Digits.{Below, digit_count}
use Rattle.iscc.specs.Alphabet.{encode}
use Rattle.iscc.specs.Base32.{base32, write_base32}
use Rattle.iscc.specs.Item.{Item, item_bytes, read_one, meaning_of}
use Rattle.iscc.specs.Doors.{scheme, text_of, write_text}
use Rattle.iscc.specs.Representation.{written_as}
use Rattle.iscc.specs.Representation.{Written}
use Rattle.iscc.proofs.Alphabet.{length-encode}
use Rattle.iscc.proofs.Meaning.{item_back}
use Rattle.iscc.proofs.Split.{one-read}
use Rattle.unit.specs.Representation.{one_read_as}
use Rattle.unit.specs.declared.reader.Unit as code
use Rattle.unit.specs.Representation.{UnitRead}
use Rattle.unit.proofs.ExactlyOne.{OneIs, one-is, one-not}
use Rattle.door.specs.Codes.{text_of_code}
use Rattle.door.proofs.Answers.{Told, told}

-- ---- a writer that gives 15 alone

fitted : (area : ℕ) (out : List ℕ) → length out ≤ area → into area (accept out) ≡ accept out
fitted area out l = rw (le-leb (length out) area l)

not-fitted : (area : ℕ) (out : List ℕ) → area < length out → into area (accept out) ≡ refuse area_too_short
not-fitted area out l = rw (lt-leb (length out) area l)

wrote : (area n : ℕ) (out : List ℕ) → Ok n ≡ written_as (into area (accept out)) → (length out ≤ area) × (n ≡ length out)
wrote area n out e = go (leb (length out) area) refl e
  where
    go : (b : Bool) → leb (length out) area ≡ b → Ok n ≡ written_as (b otherwise area_too_short >> accept out) → (length out ≤ area) × (n ≡ length out)
    go true f g = let q : n ≡ length out = cc in (leb-true (length out) area f, q)
    go false f g = let o : ◌≡◌ {A = ℕ} 0 1 = cc in absurd (omega arith)

wrote-not : (area : ℕ) (out : List ℕ) (q : Refusal) → Err q ≡ written_as (into area (accept out)) → (area < length out) × (q ≡ area_too_short)
wrote-not area out q e = go (leb (length out) area) refl e
  where
    go : (b : Bool) → leb (length out) area ≡ b → Err q ≡ written_as (b otherwise area_too_short >> accept out) → (area < length out) × (q ≡ area_too_short)
    go true f g = let o : ◌≡◌ {A = ℕ} 0 1 = cc in absurd (omega arith)
    go false f g = let p : q ≡ area_too_short = cc in (leb-false (length out) area f, p)

-- ---- base32 behind the first five bytes of the area d, and then the scheme

text-length : (bs : List ℕ) → length (text_of_code bs) ≡ 5 + length (encode base32 bs)
unfolding scheme
text-length bs = length-append scheme (encode base32 bs)

pub no-scheme : (bs d : List ℕ) → length d < 5 → Told (into (length d) (accept (text_of_code bs))) d (Err area_too_short) d
no-scheme bs d l = let n = text-length bs in told d d _ (not-fitted (length d) (text_of_code bs) (omega arith)) (refl, refl)

module _ (bs d : List ℕ) (room : 5 ≤ length d) where
  abbrev part : List ℕ
  part = take (length d - 5) (drop 5 d)

  part-is : part ≡ drop 5 d
  part-is = let l = length-drop 5 d in take_all (length d - 5) (drop 5 d) (omega arith)

  length_part : length part ≡ length d - 5
  length_part = ap length part-is ∙ length-drop 5 d

  -- the area once the part e behind the scheme is handed back
  abbrev back : List ℕ → List ℕ
  back e = take 5 d ++ (e ++ drop (length d - 5) (drop 5 d))

  back_is : (e : List ℕ) → back e ≡ take 5 d ++ e
  back_is e =
      let l = length-drop 5 d in
      let z : drop (length d - 5) (drop 5 d) ≡ [] = drop_of_length-le (drop 5 d) {i = length d - 5} (omega arith) in
      rw (z, append-nil e)

  module _ (w : Written) (e : List ℕ) (answer : w ≡ written_as (write_base32 bs (length part))) (area : e ≡ area_after (write_base32 bs (length part)) part) where
    pub text-not : (q : Refusal) → w ≡ Err q → Told (into (length d) (accept (text_of_code bs))) d (Err q) (back e)
    text-not q f =
        let n = wrote-not (length part) (encode base32 bs) q (sym f ∙ answer) in
        let g : e ≡ part = area ∙ rw (not-fitted (length part) (encode base32 bs) n.0) in
        let h : back e ≡ d = back_is e ∙ ap (λ (x : List ℕ). take 5 d ++ x) (g ∙ part-is) ∙ take-append-drop 5 d in
        told d (back e) _ (not-fitted (length d) (text_of_code bs) (omega (arith, n.0, length_part, text-length bs))) (ap Err n.1, h)

    module _ (n : ℕ) (f : w ≡ Ok n) where
      pub text-within : 5 + n ≤ length d
      text-within = let s = wrote (length part) n (encode base32 bs) (sym f ∙ answer) in omega (arith, s.0, s.1, length_part)

      pub text-put : (a : List ℕ) → a ≡ scheme ++ drop 5 (back e) → Told (into (length d) (accept (text_of_code bs))) d (Ok (5 + n)) a
      unfolding scheme
      text-put a g =
          let cs : List ℕ = encode base32 bs in
          let s = wrote (length part) n cs (sym f ∙ answer) in
          let x : e ≡ cs ++ drop (length cs) (drop 5 d) = area ∙ rw (fitted (length part) cs s.0) (ap (λ (p : List ℕ). cs ++ drop (length cs) p) part-is) in
          let k : length (take 5 d) ≡ 5 = length-take 5 d ∙ omega arith in
          let y : drop 5 (back e) ≡ e = ap (drop 5) (back_is e) ∙ ap (λ (j : ℕ). drop j (take 5 d ++ e)) (sym k) ∙ drop-append_seam (take 5 d) e in
          let m = text-length bs in
          let z : a ≡ text_of_code bs ++ drop (length (text_of_code bs)) d =
          g ∙ ap (λ (p : List ℕ). scheme ++ p) (y ∙ x) ∙ ap (λ (p : List ℕ). scheme ++ (cs ++ p)) (drop-drop (length cs) 5 d)
          ∙ ap (λ (j : ℕ). (scheme ++ cs) ++ drop j d) (sym m) in
          told d a _ (fitted (length d) (text_of_code bs) (omega (arith, s.0, length_part, text-length bs))) (ap Ok (omega (arith, s.1, text-length bs)), z)

-- ---- the text of the first n bytes, as the code hands over a part from its start

pub text-front : (bs d e : List ℕ) (n : ℕ) (w : Written) → Told (into (length d) (accept (text_of_code (take (n - 0) bs)))) d w e → Told (into (length d) (accept (text_of_code (take n bs)))) d w e
text-front bs d e n w h =
    let z : n ≡ n - 0 = omega arith in
    told d e w (ap (λ (m : ℕ). into (length d) (accept (text_of_code (take m bs)))) z) h

-- ---- the text of a code of at most 42 bytes fits 73

pub text-fits : (bs : List ℕ) (area : ℕ) → length bs ≤ 42 → 73 ≤ area → into area (accept (text_of_code bs)) ≡ accept (text_of_code bs)
unfolding digit_count base32
text-fits bs area l m =
    let e : length (encode base32 bs) ≡ (8 * length bs + 4) / 5 = length-encode base32 bs in
    fitted area (text_of_code bs) (omega (arith, text-length bs))

-- ---- the call: 15, then as the reader of exactly one says

-- the text of what one item means is the text of its bytes
text-of-one : (bs : List ℕ) (i : Item) → Below 256 bs → read_one bs ≡ accept i → text_of (meaning_of i) ≡ text_of_code bs
unfolding text_of
text-of-one bs i b e = let r = one-read bs i b e in ap (λ (cs : List ℕ). scheme ++ encode base32 cs) (ap item_bytes (item_back i r.0) ∙ r.1)

pub text-short : (bs d : List ℕ) → length d < 73 → Told (write_text bs (length d)) d (Err area_too_short) d
unfolding write_text
text-short bs d l = rw (lt-leb 73 (length d) l) (refl, refl)

module _ (bs d : List ℕ) (room : 73 ≤ length d) (r : UnitRead) (of : r ≡ one_read_as bs (read_one bs)) where
  pub text-refused : (q : Refusal) → r ≡ Err q → Told (write_text bs (length d)) d (Err q) d
  unfolding write_text
  text-refused q e = rw (le-leb 73 (length d) room, one-not bs q (sym of ∙ e)) (refl, refl)

  pub text-written : (u : code.Unit) → r ≡ Ok u → Below 256 bs → (w : Written) (e : List ℕ)
      → Told (into (length d) (accept (text_of_code bs))) d w e → Told (write_text bs (length d)) d w e
  unfolding write_text
  text-written u f b w e h =
      let o : OneIs bs u = one-is bs u (sym of ∙ f) in
      told {x = write_text bs (length d)} {y = into (length d) (accept (text_of_code bs))} d e w
      (rw (le-leb 73 (length d) room, o.is, text-of-one bs o.item b o.is) (sym (text-fits bs (length d) o.most room))) h
