-- Wide composites are what the specification says of them.
use Prim.Native.Nat.{ℕ, ◌+◌, ◌≤◌, ◌<◌}
use mathlib.Core.Path.{◌≡◌, refl, sym, ◌∙◌, ap}
use mathlib.Core.Bool.{Bool, true, false, false≢true, ◌&&◌, and-false}
use mathlib.Core.List.{List, [], ◌∷◌, ◌++◌}
use native.Mathlib.Omega.{arith}
use lib.ListN.{length, length-append}
use lib.Dec.{eqb}
use borrow.Author.Tests.{ne_eqb, lt-leb}
use Rattle.iscc.specs.Refusals.{not_permitted, short_body, not_joinable, not_64_bits, lacks_data_or_instance, no_distance}
use Rattle.iscc.specs.Answer.{accept, refuse}
use Rattle.iscc.specs.Digits.{Below, digit_count}
use Rattle.iscc.specs.Lists.{every}
use Rattle.iscc.specs.Alphabet.{encode}
use Rattle.iscc.specs.Base32.{base32}
use Rattle.iscc.specs.Varnibble.{parsed}
use Rattle.iscc.specs.Header.{Header, header_with_numbers, Writable, header_bytes, read_header}
use Rattle.iscc.specs.Permitted.{MainType, number, composite_subtype, is_wide, row, permits, body_bytes}
use Rattle.iscc.specs.declared.main_type.Name.TheVariants.{Meta, Semantic, Content, Data, Instance, Iscc, Id}
use Rattle.iscc.specs.Meaning.{Meaning, wide, Sized, Permitted}
use Rattle.iscc.specs.Item.{Item, item_bytes, item_of, read_item, read_one, unit_bytes, meaning_of}
use Rattle.iscc.specs.Items.{same_type, joinable, composite_from, meaning_of_items, joined_meaning, joined_bytes, unit128, split_bytes}
use Rattle.iscc.specs.Doors.{scheme, meaning_of_text, text_of, strict}
use Rattle.iscc.specs.Distance.{has_distance, comparable, distance}
use Rattle.iscc.specs.Demands.{JoinBack}
use Rattle.iscc.specs.WideComposites.{wide_bytes, wide_item, is_wide_meaning, WideComposite, WideComposites}
use Rattle.iscc.proofs.Answer.{never, accept-inj, passed}
use Rattle.iscc.proofs.Alphabet.{length-encode}
use Rattle.iscc.proofs.Header.{short-bytes, read-header}
use Rattle.iscc.proofs.Permitted.{main_type_of-number, subtype-small}
use Rattle.iscc.proofs.Item.{read-item}
use Rattle.iscc.proofs.Meaning.{meaning-back, item-permitted}
use Rattle.iscc.proofs.Items.{composite_from-parts, two-or-more}
use Rattle.iscc.proofs.Split.{read_one-is, wide-parts, wide-joined, join-makes}
use Rattle.iscc.proofs.Doors.{back, demand3}

-- ---- the header

header_is : header_bytes (header_with_numbers (number Iscc) 7 0 0) ≡ 0x57 ∷ 0x00 ∷ []
header_is = short-bytes 5 7 0 0 (omega arith) (omega arith) (omega arith) (omega arith)

-- what is read behind it, where the table does not permit the numbers, or the body is cut off
module _ (v l : ℕ) (rest : List ℕ) (w : Writable (header_with_numbers (number Iscc) 7 v l)) where
  abbrev h : Header
  h = header_with_numbers (number Iscc) 7 v l

  header_read : read_header (header_bytes h ++ rest) ≡ accept (parsed h (length (header_bytes h)))
  header_read = read-header h rest w

  refused-8 : permits Iscc 7 v l ≡ false → read_item (header_bytes h ++ rest) ≡ refuse not_permitted
  unfolding read_item
  refused-8 n = rw (header_read, main_type_of-number Iscc, n)

  refused-9 : permits Iscc 7 v l ≡ true → length rest < body_bytes Iscc 7 l → read_item (header_bytes h ++ rest) ≡ refuse short_body
  unfolding read_item
  refused-9 p c =
      let n : length (header_bytes h ++ rest) < length (header_bytes h) + body_bytes Iscc 7 l = omega (arith, length-append (header_bytes h) rest) in
      rw (header_read, main_type_of-number Iscc, p, lt-leb (length (header_bytes h) + body_bytes Iscc 7 l) (length (header_bytes h ++ rest)) n)

no_row : (l : ℕ) → 0 < l → row Iscc 7 l ≡ false
unfolding row is_wide
no_row l h = rw (ne_eqb l 0 (λ e. omega (arith, e)), sevens (composite_subtype l 7) refl)
  where
    sevens : (b : Bool) → composite_subtype l 7 ≡ b → composite_subtype l 7 ≡ false
    sevens true e = absurd (omega (arith, subtype-small l 7 e))
    sevens false e = e

-- ---- one wide composite

not-every : (p : Item → Bool) (is js : List Item) (i : Item) → p i ≡ false → every p (is ++ (i ∷ js)) ≡ false
unfolding every
not-every p [] js i e = rw e
not-every p (k ∷ is) js i e = rw (not-every p is js i e) (and-false (p k))

not-joinable : (is : List Item) → every joinable is ≡ false → composite_from is ≡ refuse not_joinable
unfolding composite_from
not-joinable is e = rw e

-- no main type has a distance to a composite
type-apart : (m : MainType) → same_type m Iscc && has_distance m ≡ false
type-apart Meta = refl
type-apart Semantic = refl
type-apart Content = refl
type-apart Data = refl
type-apart Instance = refl
type-apart Iscc = refl
type-apart Id = refl

module _ (da ins : List ℕ) (a : Sized 16 da) (b : Sized 16 ins) where
  abbrev m : Meaning
  m = wide 7 0 da ins

  permitted : Permitted m
  permitted = record { subtype = refl; version = refl; data_sized = a; instance_sized = b }

  bytes-are : item_bytes (item_of m) ≡ wide_bytes da ins
  unfolding item_bytes item_of
  bytes-are = rw header_is

  size : length (wide_bytes da ins) ≡ 34
  size = omega (arith, length-append da ins, a.0, b.0)

  reads : (rest : List ℕ) → read_item (wide_bytes da ins ++ rest) ≡ accept (parsed (wide_item da ins) 34)
  unfolding item_of
  reads rest =
      ap (λ (bs : List ℕ). read_item (bs ++ rest)) (sym bytes-are) ∙ read-item (item_of m) rest (item-permitted m permitted)
      ∙ ap (λ (n : ℕ). accept (parsed (wide_item da ins) n)) (ap length bytes-are ∙ size)

  read-alone : read_one (wide_bytes da ins) ≡ accept (wide_item da ins)
  unfolding item_of
  read-alone = ap read_one (sym bytes-are) ∙ read_one-is (item_of m) (item-permitted m permitted)

  means : meaning_of (wide_item da ins) ≡ m
  unfolding item_of
  means = meaning-back m permitted

  strict-text : strict (scheme ++ encode base32 (wide_bytes da ins)) ≡ accept m
  strict-text =
      ap (λ (bs : List ℕ). strict (scheme ++ encode base32 bs)) (sym bytes-are) ∙ ap strict (sym (demand3.spelling m)) ∙ demand3.one m permitted

  own-kind : (k : Meaning) → Permitted k → is_wide_meaning k ≡ false → text_of k ≡ text_of m → ⊥
  own-kind k p n e =
      let s : k ≡ m = accept-inj (sym (back k p) ∙ ap meaning_of_text e ∙ back m permitted) in
      false≢true (sym n ∙ ap is_wide_meaning s)

  characters : length (encode base32 (wide_bytes da ins)) ≡ 55
  unfolding digit_count base32
  characters = length-encode base32 (wide_bytes da ins) ∙ omega (arith, size)

  listed : meaning_of_items (unit128 Data da ∷ unit128 Instance ins ∷ []) ≡ refuse not_64_bits
  unfolding meaning_of_items composite_from every
  listed = rw a.0

  listed-around : meaning_of_items (unit128 Instance ins ∷ unit128 Data da ∷ []) ≡ refuse not_64_bits
  unfolding meaning_of_items composite_from every
  listed-around = rw b.0

  in_list : (is js : List Item) → 2 ≤ length (is ++ (wide_item da ins ∷ js)) → meaning_of_items (is ++ (wide_item da ins ∷ js)) ≡ refuse not_joinable
  unfolding meaning_of_items
  in_list is js h =
      two-or-more (λ ks. meaning_of_items ks ≡ composite_from ks) (λ x y ys. refl) (is ++ (wide_item da ins ∷ js)) h
      ∙ not-joinable _ (not-every joinable is js (wide_item da ins) refl)

  in-join : (is js : List Item) → joined_meaning (is ++ (wide_item da ins ∷ js)) ≡ refuse not_joinable
  unfolding joined_meaning
  in-join [] [] = refl
  in-join [] (j ∷ js) = not-joinable _ (not-every joinable [] (j ∷ js) (wide_item da ins) refl)
  in-join (i ∷ []) js = not-joinable _ (not-every joinable (i ∷ []) js (wide_item da ins) refl)
  in-join (i ∷ k ∷ is) js = not-joinable _ (not-every joinable (i ∷ k ∷ is) js (wide_item da ins) refl)

  apart : (x : List ℕ) (i : Item) → read_one x ≡ accept i → (distance (wide_bytes da ins) x ≡ refuse no_distance) × (distance x (wide_bytes da ins) ≡ refuse no_distance)
  unfolding distance comparable
  apart x i e =
      let n : same_type Iscc i.main_type && false ≡ false = and-false (same_type Iscc i.main_type) in
      (rw (read-alone, e, n), rw (e, read-alone, type-apart i.main_type))

  one : WideComposite da ins
  one =
      record {
        size = size;
        characters = characters;
        reads = reads;
        reads_alone = read-alone;
        means = means;
        permitted = permitted;
        strict_text = strict-text;
        own_kind = own-kind;
        splits = ap split_bytes (sym bytes-are) ∙ wide-parts 7 0 da ins permitted;
        parts_joined = wide-joined 7 0 da ins permitted;
        listed = listed;
        listed_around = listed-around;
        in_list = in_list;
        in_join = in-join;
        apart = apart;
      }

-- ---- nothing else makes one

composed-narrow : (is : List Item) (m : Meaning) → composite_from is ≡ accept m → is_wide_meaning m ≡ false
composed-narrow is m e = ap is_wide_meaning (sym (composite_from-parts is m e).meaning)

from_list : (is : List Item) (m : Meaning) → 2 ≤ length is → meaning_of_items is ≡ accept m → is_wide_meaning m ≡ false
unfolding meaning_of_items
from_list is m h e = composed-narrow is m (sym (two-or-more (λ ks. meaning_of_items ks ≡ composite_from ks) (λ x y ys. refl) is h) ∙ e)

joined-narrow : (is : List Item) (m : Meaning) → joined_meaning is ≡ accept m → is_wide_meaning m ≡ false
unfolding joined_meaning
joined-narrow [] m e = absurd (never e)
joined-narrow (i ∷ []) m e = absurd (never (passed (joinable i) _ (refuse lacks_data_or_instance) e).1)
joined-narrow (i ∷ j ∷ is) m e = composed-narrow (i ∷ j ∷ is) m e

from-join : (bs out : List ℕ) (i : Item) → Below 256 bs → joined_bytes bs ≡ accept out → read_one out ≡ accept i → is_wide_meaning (meaning_of i) ≡ false
from-join bs out i k e r =
    let j : JoinBack bs out = join-makes bs out k e in
    let s : item_of j.meaning ≡ i = accept-inj (sym j.read ∙ r) in
    ap is_wide_meaning (ap meaning_of (sym s) ∙ meaning-back j.meaning j.permitted) ∙ joined-narrow j.items j.meaning j.joins

from-writer : (h : Header) (body : List ℕ) → h.main_type ≡ number Iscc → unit_bytes h body ≡ refuse not_permitted
unfolding unit_bytes
from-writer h body e = rw (e, main_type_of-number Iscc)

-- ---- the header's bytes without a whole body

cut_off : (rest : List ℕ) → length rest < 32 → read_item (0x57 ∷ 0x00 ∷ rest) ≡ refuse short_body
unfolding row is_wide body_bytes
cut_off rest c = ap (λ (bs : List ℕ). read_item (bs ++ rest)) (sym header_is) ∙ refused-9 0 0 rest (omega arith) refl c

pub wide-composites : WideComposites
wide-composites =
    record {
      each = one;
      only = λ s v da ins p. (p.subtype, p.version, p.data_sized, p.instance_sized);
      other_length = λ v l rest h w. refused-8 v l rest w (rw (no_row l h) (and-false (eqb v 0)));
      cut_off = cut_off;
      not_from_list = from_list;
      not_from_join = from-join;
      not_from_writer = from-writer;
    }
