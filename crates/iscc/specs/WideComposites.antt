-- The specification, "Wide composites": a field for each sentence. The demands speak of every meaning, and so of these too.
use Rattle.std.specs.Prelude.{ℕ, ◌≤◌, ◌<◌, ◌≡◌, Bool, true, false, List, [], ◌∷◌, ◌++◌, length}
use Rattle.iscc.specs.Refusals.{not_permitted, short_body, not_joinable, not_64_bits, no_distance}
use Rattle.iscc.specs.Answer.{accept, refuse}
use Rattle.iscc.specs.Digits.{Below}
use Rattle.iscc.specs.Alphabet.{encode}
use Rattle.iscc.specs.Base32.{base32}
use Rattle.iscc.specs.Varnibble.{parsed}
use Rattle.iscc.specs.Header.{Header, header_with_numbers, Writable, header_bytes}
use Rattle.iscc.specs.Permitted.{number}
use Rattle.iscc.specs.declared.main_type.Name.TheVariants.{Data, Instance, Iscc}
use Rattle.iscc.specs.Meaning.{Meaning, unit, composite, wide, Sized, Permitted}
use Rattle.iscc.specs.Item.{Item, read_item, read_one, unit_bytes, meaning_of}
use Rattle.iscc.specs.Items.{meaning_of_items, joined_meaning, joined_bytes, unit128, items_bytes, split_bytes}
use Rattle.iscc.specs.Doors.{scheme, text_of, strict}
use Rattle.iscc.specs.Distance.{distance}

-- "header 57 00, then 128 bits of DATA and 128 of INSTANCE": the bytes, and the item that they are read as
abbrev pub wide_bytes : List ℕ → List ℕ → List ℕ
wide_bytes da ins = 0x57 ∷ 0x00 ∷ (da ++ ins)

abbrev pub wide_item : List ℕ → List ℕ → Item
wide_item da ins = record { main_type = Iscc; subtype = 7; version = 0; length_number = 0; body = da ++ ins }

-- a meaning of the third kind
abbrev pub is_wide_meaning : Meaning → Bool
is_wide_meaning (unit m s v body) = false
is_wide_meaning (composite s v units bodies) = false
is_wide_meaning (wide s v da ins) = true

-- the wide composite of two bodies
pub record WideComposite (da ins : List ℕ) : Type 0 where
  -- 34 bytes, 55 characters
  pub size : length (wide_bytes da ins) ≡ 34
  pub characters : length (encode base32 (wide_bytes da ins)) ≡ 55
  -- it is read, whatever follows, and means itself
  pub reads : (rest : List ℕ) → read_item (wide_bytes da ins ++ rest) ≡ accept (parsed (wide_item da ins) 34)
  pub reads_alone : read_one (wide_bytes da ins) ≡ accept (wide_item da ins)
  pub means : meaning_of (wide_item da ins) ≡ wide 7 0 da ins
  pub permitted : Permitted (wide 7 0 da ins)
  -- its one strict text is the scheme and the 55 characters
  pub strict_text : strict (scheme ++ encode base32 (wide_bytes da ins)) ≡ accept (wide 7 0 da ins)
  -- a kind of its own: no unit and no composite of the eight sets has its text
  pub own_kind : (m : Meaning) → Permitted m → is_wide_meaning m ≡ false → text_of m ≡ text_of (wide 7 0 da ins) → ⊥
  -- split gives two units of 128 bits
  pub splits : split_bytes (wide_bytes da ins) ≡ accept (items_bytes (unit128 Data da ∷ unit128 Instance ins ∷ []))
  -- which are 11 for join, and as a list, in either order
  pub parts_joined : joined_bytes (items_bytes (unit128 Data da ∷ unit128 Instance ins ∷ [])) ≡ refuse not_64_bits
  pub listed : meaning_of_items (unit128 Data da ∷ unit128 Instance ins ∷ []) ≡ refuse not_64_bits
  pub listed_around : meaning_of_items (unit128 Instance ins ∷ unit128 Data da ∷ []) ≡ refuse not_64_bits
  -- in a list it is 10, for join also alone
  pub in_list : (is js : List Item) → 2 ≤ length (is ++ (wide_item da ins ∷ js)) → meaning_of_items (is ++ (wide_item da ins ∷ js)) ≡ refuse not_joinable
  pub in_join : (is js : List Item) → joined_meaning (is ++ (wide_item da ins ∷ js)) ≡ refuse not_joinable
  -- it has no distance to anything: 18
  pub apart : (x : List ℕ) (i : Item) → read_one x ≡ accept i
      → (distance (wide_bytes da ins) x ≡ refuse no_distance) × (distance x (wide_bytes da ins) ≡ refuse no_distance)

pub record WideComposites : Type 0 where
  pub each : (da ins : List ℕ) → Sized 16 da → Sized 16 ins → WideComposite da ins
  -- there are no others
  pub only : (s v : ℕ) (da ins : List ℕ) → Permitted (wide s v da ins) → (s ≡ 7) × (v ≡ 0) × Sized 16 da × Sized 16 ins
  -- subtype 7 with another length is 8
  pub other_length : (v l : ℕ) (rest : List ℕ) → 0 < l → Writable (header_with_numbers (number Iscc) 7 v l)
      → read_item (header_bytes (header_with_numbers (number Iscc) 7 v l) ++ rest) ≡ refuse not_permitted
  -- 57 00 without its 32 bytes is 9
  pub cut_off : (rest : List ℕ) → length rest < 32 → read_item (0x57 ∷ 0x00 ∷ rest) ≡ refuse short_body
  -- intake is its one writer: a list never means one,
  pub not_from_list : (is : List Item) (m : Meaning) → 2 ≤ length is → meaning_of_items is ≡ accept m → is_wide_meaning m ≡ false
  -- join never makes one,
  pub not_from_join : (bs out : List ℕ) (i : Item) → Below 256 bs → joined_bytes bs ≡ accept out → read_one out ≡ accept i → is_wide_meaning (meaning_of i) ≡ false
  -- and the unit writer refuses every composite: 8
  pub not_from_writer : (h : Header) (body : List ℕ) → h.main_type ≡ number Iscc → unit_bytes h body ≡ refuse not_permitted
