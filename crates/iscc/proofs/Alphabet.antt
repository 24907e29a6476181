-- Reading and writing with an alphabet, once for every alphabet whose characters read back.
use Prim.Native.Nat.{ℕ, ◌^◌, ◌≤◌, ◌<◌}
use mathlib.Core.Path.{◌≡◌, refl, sym, ◌∙◌, ap}
use mathlib.Core.Bool.{Bool, true, false}
use mathlib.Core.List.{List, [], ◌∷◌, map}
use native.Mathlib.Nat.{le_of_suc-le-suc}
use native.Mathlib.Omega.{arith}
use lib.ListN.{length, get_or, length-map}
use lib.Dec.{eqb}
use borrow.Author.Tests.{eqb-true}
use Rattle.iscc.specs.Answer.{accept}
use Rattle.iscc.specs.Digits.{Below, all_below, digit_count, to_digits, byte_count, from_digits}
use Rattle.iscc.specs.Alphabet.{Alphabet, folded, index_of, char_in, digit_in, encode, decode}
use Rattle.iscc.proofs.Answer.{passed}
use Rattle.iscc.proofs.Digits.{all_below-true, below_of}
use Rattle.iscc.proofs.ByteDigits.{length-to_digits, to_digits-below, from-to, to-from, Read}

-- 1 to 8 bits, a character for each digit, and each digit's character reads back
pub record Sound (a : Alphabet) : Type 0 where
  pub some : 0 < a.bits
  pub most : a.bits ≤ 8
  pub count : length a.chars ≡ 2 ^ a.bits
  pub back : (d : ℕ) → d < 2 ^ a.bits → digit_in a (char_in a d) ≡ d

pub index_of-get_d : (c : ℕ) (xs : List ℕ) → index_of c xs < length xs → get_or xs (index_of c xs) 0 ≡ c
unfolding index_of
index_of-get_d c [] h = absurd (omega (arith, h))
index_of-get_d c (x ∷ xs) h = go (λ k. index_of-get_d c xs k) (eqb c x) refl
  where
    go : (index_of c xs < length xs → get_or xs (index_of c xs) 0 ≡ c) → (b : Bool) → eqb c x ≡ b → get_or (x ∷ xs) (index_of c (x ∷ xs)) 0 ≡ c
    go ih true e = rw (e, index_of) (sym (eqb-true c x e))
    go ih false e = rw (e, index_of) (ih (le_of_suc-le-suc (rw (e, index_of) at h)))

-- what is read: bytes; written again they are the text, in capitals where the alphabet folds
pub record ReadText (a : Alphabet) (t bs : List ℕ) : Type 0 where
  pub bytes : Below 256 bs
  pub count : length bs ≡ byte_count a.bits (length t)
  pub digits : to_digits a.bits bs ≡ map (digit_in a) t
  pub again : encode a bs ≡ map (folded a.either_case) t

module _ (a : Alphabet) (s : Sound a) where
  digits-chars : (ds : List ℕ) → Below (2 ^ a.bits) ds → map (digit_in a) (map (char_in a) ds) ≡ ds
  digits-chars [] h = refl
  digits-chars (d ∷ ds) h = rw (s.back d h.0, digits-chars ds h.1)

  -- a character's digit, written, is the character, folded
  pub char-digit : (c : ℕ) → digit_in a c < 2 ^ a.bits → char_in a (digit_in a c) ≡ folded a.either_case c
  unfolding digit_in char_in
  char-digit c h = index_of-get_d (folded a.either_case c) a.chars (rw s.count h)

  chars-digits : (t : List ℕ) → Below (2 ^ a.bits) (map (digit_in a) t) → map (char_in a) (map (digit_in a) t) ≡ map (folded a.either_case) t
  chars-digits [] h = refl
  chars-digits (c ∷ cs) h = rw (char-digit c h.0, chars-digits cs h.1)

  -- what is written reads back
  pub decode-encode : (bs : List ℕ) → Below 256 bs → decode a (encode a bs) ≡ accept bs
  unfolding encode decode
  decode-encode bs h =
      let ds : List ℕ = to_digits a.bits bs in
      let b : Below (2 ^ a.bits) ds = to_digits-below a.bits bs in
      rw (digits-chars ds b, all_below-true (2 ^ a.bits) ds b, from-to a.bits s.some s.most bs h)

  pub encode-decode : (t bs : List ℕ) → decode a t ≡ accept bs → ReadText a t bs
  unfolding encode decode
  encode-decode t bs e =
      let ds : List ℕ = map (digit_in a) t in
      let p = passed (all_below (2 ^ a.bits) ds) _ (from_digits a.bits ds) e in
      let b : Below (2 ^ a.bits) ds = below_of (2 ^ a.bits) ds p.0 in
      let r : Read a.bits ds bs = to-from a.bits s.some s.most ds bs b p.1 in
      record {
        bytes = r.bytes;
        count = r.count ∙ ap (byte_count a.bits) (length-map t (digit_in a));
        digits = r.again;
        again = ap (map (char_in a)) r.again ∙ chars-digits t b;
      }

pub length-encode : (a : Alphabet) (bs : List ℕ) → length (encode a bs) ≡ digit_count a.bits (length bs)
unfolding encode
length-encode a bs = length-map (to_digits a.bits bs) (char_in a) ∙ length-to_digits a.bits bs
