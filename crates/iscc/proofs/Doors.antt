-- The laws of the doors from which demand 3 follows: what a text means is permitted (`meant`), the text of a permitted meaning has
-- that meaning (`back`), and it has at most 73 characters (`short`).
use Prim.Native.Nat.{ℕ, ◌+◌, ◌*◌, ◌/◌, ◌≤◌, ◌<◌}
use mathlib.Core.Path.{◌≡◌, refl, sym, ◌∙◌, ap}
use mathlib.Core.Bool.{false, not}
use mathlib.Core.List.{List, [], ◌∷◌, ◌++◌, map, append-nil}
use native.Mathlib.Omega.{arith}
use lib.ListN.{length}
use lib.Dec.{eqb, leb, ltb}
use borrow.Author.Tests.{le-leb, lt-ltb, not-true}
use Rattle.iscc.specs.Answer.{accept}
use Rattle.iscc.specs.Digits.{Below, digit_count, to_digits}
use Rattle.iscc.specs.Alphabet.{Alphabet, upper, char_in, encode, decode}
use Rattle.iscc.specs.Base32.{base32}
use Rattle.iscc.specs.Meaning.{Meaning, Permitted}
use Rattle.iscc.specs.Item.{Item, item_bytes, item_of}
use Rattle.iscc.specs.Items.{read_items, items_bytes, meaning_of_items}
use Rattle.iscc.specs.Lists.{same_bytes}
use Rattle.iscc.specs.Doors.{is_blank, trim_start, trim_end, scheme, scheme_length, drop_hyphens, trimmed, behind_scheme, cleaned, decode_run, payload, items_of_text, meaning_of_text, text_of}
use Rattle.iscc.proofs.Answer.{passed, answered}
use Rattle.iscc.proofs.ByteDigits.{to_digits-below}
use Rattle.iscc.proofs.Table.{up_to, at}
use Rattle.iscc.proofs.Alphabet.{decode-encode, encode-decode, length-encode}
use Rattle.iscc.proofs.Base32.{sound32}
use Rattle.iscc.proofs.Item.{PermittedItem, length-item, item-most, item-below}
use Rattle.iscc.proofs.Meaning.{meaning-back, item-permitted}
use Rattle.iscc.proofs.Items.{items-read, means-permitted, read-items}
use Rattle.iscc.specs.Demands.{Demand3}
use Rattle.iscc.proofs.Demand3.{demand3-from}

-- ---- what a text means is permitted

pub run-read : (a : Alphabet) (most : ℕ) (cs bs : List ℕ) → decode_run a most cs ≡ accept bs → decode a cs ≡ accept bs
unfolding decode_run
run-read a most cs bs e =
    let p = passed (ltb 0 (length cs)) _ _ e in
    (passed (leb (length cs) most) _ (decode a cs) p.1).1

pub run_of : (a : Alphabet) (most : ℕ) (cs : List ℕ) → 0 < length cs → length cs ≤ most → decode_run a most cs ≡ decode a cs
unfolding decode_run
run_of a most cs h l = rw (lt-ltb 0 (length cs) h, le-leb (length cs) most l)

pub payload-below : (t bs : List ℕ) → payload t ≡ accept bs → Below 256 bs
unfolding payload
payload-below t bs e =
    let p = passed (leb (length t) 1024) _ (decode_run base32 80 (cleaned t)) e in
    (encode-decode base32 sound32 (cleaned t) bs (run-read base32 80 (cleaned t) bs p.1)).bytes

pub meant : (t : List ℕ) (m : Meaning) → meaning_of_text t ≡ accept m → Permitted m
unfolding meaning_of_text items_of_text
meant t m e =
    let a = answered (items_of_text t) meaning_of_items e in
    let b = answered (payload t) read_items a.1 in
    means-permitted a.0 m (items-read b.0 a.0 (payload-below t b.0 b.1) b.2).permitted a.2

-- ---- cleaning leaves the base32 text of a written code

-- neither a blank nor a hyphen
abbrev Plain : List ℕ → Type 0
Plain [] = Unit {0}
Plain (c ∷ cs) = (is_blank c ≡ false) × (eqb c 45 ≡ false) × Plain cs

char-plain : (d : ℕ) → d < 32 → (is_blank (char_in base32 d) ≡ false) × (eqb (char_in base32 d) 45 ≡ false)
unfolding up_to is_blank char_in base32
char-plain d h = (
  not-true (is_blank (char_in base32 d)) (at 32 (λ k. not (is_blank (char_in base32 k))) refl d h),
  not-true (eqb (char_in base32 d) 45) (at 32 (λ k. not (eqb (char_in base32 k) 45)) refl d h),
)

chars-plain : (ds : List ℕ) → Below 32 ds → Plain (map (char_in base32) ds)
chars-plain [] h = tt
chars-plain (d ∷ ds) h = let p = char-plain d h.0 in (p.0, p.1, chars-plain ds h.1)

base32-plain : (bs : List ℕ) → Plain (encode base32 bs)
unfolding encode base32
base32-plain bs = chars-plain (to_digits 5 bs) (to_digits-below 5 bs)

trim_end-plain : (t : List ℕ) → Plain t → trim_end t ≡ t
unfolding trim_end
trim_end-plain [] p = refl
trim_end-plain (c ∷ []) p = rw p.0
trim_end-plain (c ∷ d ∷ ds) p = rw (trim_end-plain (d ∷ ds) p.2)

drop_hyphens-plain : (t : List ℕ) → Plain t → drop_hyphens t ≡ t
unfolding drop_hyphens
drop_hyphens-plain [] p = refl
drop_hyphens-plain (c ∷ cs) p = rw (p.1, drop_hyphens-plain cs p.2)

pub cleaned-plain : (t : List ℕ) → Plain t → cleaned (scheme ++ t) ≡ t
unfolding cleaned behind_scheme trimmed trim_start is_blank scheme scheme_length same_bytes upper
cleaned-plain t p =
    rw (trim_end-plain (scheme ++ t) (refl, refl, (refl, refl, (refl, refl, (refl, refl, (refl, refl, p)))))) (drop_hyphens-plain t p)

-- ---- the text of a permitted meaning

-- a written code has 4 to 68 characters behind the scheme
pub record Length (m : Meaning) : Type 0 where
  pub some : 0 < length (encode base32 (item_bytes (item_of m)))
  pub most : length (encode base32 (item_bytes (item_of m))) ≤ 68

pub length-of : (m : Meaning) → Permitted m → Length m
unfolding digit_count base32
length-of m p =
    let q : PermittedItem (item_of m) = item-permitted m p in
    let bs : List ℕ = item_bytes (item_of m) in
    let l : length bs ≤ 42 = item-most (item_of m) q in
    let k = length-item (item_of m) q in
    let b : length (encode base32 bs) ≡ (8 * length bs + 4) / 5 = length-encode base32 bs in
    record { some = omega arith; most = omega arith }

pub short : (m : Meaning) → Permitted m → length (text_of m) ≤ 73
unfolding text_of scheme
short m p = let l : Length m = length-of m p in omega arith

pub back : (m : Meaning) → Permitted m → meaning_of_text (text_of m) ≡ accept m
unfolding meaning_of_text items_of_text payload text_of meaning_of_items items_bytes
back m p =
    let i : Item = item_of m in
    let q : PermittedItem i = item-permitted m p in
    let bs : List ℕ = item_bytes i in
    let l : Length m = length-of m p in
    let cs : List ℕ = encode base32 bs in
    let c : cleaned (scheme ++ cs) ≡ cs = cleaned-plain cs (base32-plain bs) in
    let n : length (scheme ++ cs) ≤ 73 = short m p in
    let n' : length (scheme ++ cs) ≤ 1024 = omega arith in
    let n'' : length cs ≤ 80 = omega arith in
    let r : read_items bs ≡ accept (i ∷ []) = ap read_items (sym (append-nil bs)) ∙ read-items i [] (q, tt) in
    let e : meaning_of_items (i ∷ []) ≡ accept m = ap accept (meaning-back m p) in
    rw (c, le-leb (length (scheme ++ cs)) 1024 n', run_of base32 80 cs l.some n'', decode-encode base32 sound32 bs (item-below i q), r) e

pub demand3 : Demand3
demand3 = demand3-from meant back short
