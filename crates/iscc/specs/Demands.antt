-- The specification's three demands, a field for each sentence, over the definitions that the calls' contracts cite.
-- proofs/Demands.antt proves the first two, proofs/Doors.antt the third. A byte string is a list with `Below 256`.
use Rattle.std.specs.Prelude.{ℕ, ◌%◌, ◌≤◌, ◌<◌, ◌≡◌, ◌⊎◌, ◌↔◌, true, cond, not, ◌||◌, List, [], ◌∷◌, ◌++◌, map, eqb, ltb, length, take, drop, pos}
use Rattle.std.specs.Float.{binary32}
use Rattle.std.specs.Float.Ieee.{of_int, mul, eq}
use Rattle.iscc.specs.Refusals.{Refusal, not_64_bits}
use Rattle.iscc.specs.Answer.{Answer, accept, refuse, Accepted, Kept}
use Rattle.iscc.specs.Lists.{All, Reordered}
use Rattle.iscc.specs.Digits.{Below, to_digits, spare_count, from_digits}
use Rattle.iscc.specs.Alphabet.{upper, encode, decode}
use Rattle.iscc.specs.Base32.{base32, read_base32, write_base32}
use Rattle.iscc.specs.Varnibble.{Parsed, parsed, varnibble, read_varnibble}
use Rattle.iscc.specs.Header.{Header, Writable, header_bytes, read_header, write_header}
use Rattle.iscc.specs.Permitted.{Set, unit_types, is_wide}
use Rattle.iscc.specs.declared.main_type.Name.TheVariants.{Data, Instance}
use Rattle.iscc.specs.Meaning.{Meaning, composite, wide, Permitted}
use Rattle.iscc.specs.Item.{Item, header_of, item_bytes, read_item, read_one, unit_bytes, write_unit, meaning_of, item_of}
use Rattle.iscc.specs.Items.{read_items, items_bytes, takes_subtype, unit128, joined_meaning, joined_bytes, split_bytes, join, split}
use Rattle.iscc.specs.Doors.{scheme, items_of_text, meaning_of_text, text_of, read_code, write_text, intake, written_text, strict}
use Rattle.iscc.specs.Distance.{Distance, bits_of, distance, ratio_of}
use Rattle.iscc.specs.Exactly.{Exactly}
use Rattle.iscc.specs.RefusalOrder.{intake_stages, strict_stages, unit_stages, header_stages, read_stages, write_stages, write_unit_stages, write_header_stages, join_all_stages, one_stages, split_stages, distance_stages, read_code_stages, write_text_stages}

-- Demand 1. Every byte string gets an answer from every public call. A refusal bears one number, chosen by a fixed order of
-- tests, and changes no lent byte.
pub record Demand1 : Type 1 where
  -- an answer accepts or refuses, and nothing else; every definition of a call is a function of all inputs
  pub answers : {A : Type 0} (x : Answer A) → ((a : A) × (x ≡ accept a)) ⊎ ((q : Refusal) × (x ≡ refuse q))
  -- each number is given exactly when its rule is the first broken in the order of the call's tests (RefusalOrder.antt)
  pub intake_tests : (t : List ℕ) (area : ℕ) → Exactly (intake_stages t area) (intake t area)
  pub strict_tests : (t : List ℕ) → Exactly (strict_stages t) (strict t)
  pub base32_read_tests : (t : List ℕ) (area : ℕ) → Exactly (read_stages base32 t area) (read_base32 t area)
  pub base32_write_tests : (bs : List ℕ) (area : ℕ) → Exactly (write_stages base32 bs area) (write_base32 bs area)
  pub header_read_tests : (bs : List ℕ) → Exactly (header_stages bs) (read_header bs)
  pub header_write_tests : (h : Header) (area : ℕ) → Exactly (write_header_stages h area) (write_header h area)
  pub unit_read_tests : (bs : List ℕ) → Exactly (unit_stages bs) (read_item bs)
  pub one_tests : (bs : List ℕ) → Exactly (one_stages bs) (read_one bs)
  pub unit_write_tests : (h : Header) (body : List ℕ) (area : ℕ) → Exactly (write_unit_stages h body area) (write_unit h body area)
  pub join_tests : (bs : List ℕ) (area : ℕ) → Below 256 bs → Exactly (join_all_stages bs area) (join bs area)
  pub split_tests : (bs : List ℕ) (area : ℕ) → Exactly (split_stages bs area) (split bs area)
  pub distance_tests : (x y : List ℕ) → Exactly (distance_stages x y) (distance x y)
  pub read_code_tests : (t : List ℕ) (area : ℕ) → Exactly (read_code_stages t area) (read_code t area)
  pub write_text_tests : (bs : List ℕ) (area : ℕ) → Exactly (write_text_stages bs area) (write_text bs area)
  -- 5 in the words of its row: the count of characters leaves 1, 3 or 6 over a multiple of 8
  pub count_over : (k : ℕ) → ltb (spare_count 5 k) 5 ≡ not (eqb (k % 8) 1 || eqb (k % 8) 3 || eqb (k % 8) 6)
  -- a refusal leaves the area as it was, a success the bytes past those written
  pub intake_area : (t area : List ℕ) → Kept (intake t (length area)) area
  pub base32_read_area : (t area : List ℕ) → Kept (read_base32 t (length area)) area
  pub base32_write_area : (bs area : List ℕ) → Kept (write_base32 bs (length area)) area
  pub header_write_area : (h : Header) (area : List ℕ) → Kept (write_header h (length area)) area
  pub unit_write_area : (h : Header) (body area : List ℕ) → Kept (write_unit h body (length area)) area
  pub join_area : (bs area : List ℕ) → Kept (join bs (length area)) area
  pub split_area : (bs area : List ℕ) → Kept (split bs (length area)) area
  pub read_code_area : (t area : List ℕ) → Kept (read_code t (length area)) area
  pub write_text_area : (bs area : List ℕ) → Below 256 bs → Kept (write_text bs (length area)) area

-- The unit writer's bytes read back, whatever follows: the header that was written, and the body area's first bytes.
pub record UnitBack (h : Header) (body out rest : List ℕ) : Type 0 where
  pub item : Item
  pub read : read_item (out ++ rest) ≡ accept (parsed item (length out))
  pub header : header_of item ≡ h
  pub body_is : item.body ≡ take (length item.body) body

-- Join's bytes: the items that were read make a permitted meaning, and what is written reads back as exactly the one item that has it.
pub record JoinBack (bs out : List ℕ) : Type 0 where
  pub items : List Item
  pub from : read_items bs ≡ accept items
  pub meaning : Meaning
  pub joins : joined_meaning items ≡ accept meaning
  pub permitted : Permitted meaning
  pub read : read_one out ≡ accept (item_of meaning)
  pub bytes : item_bytes (item_of meaning) ≡ out

-- Split's bytes: units that are read one by one, in the composite's own order, each with its own body; SEMANTIC and CONTENT have
-- the composite's subtype, and the others 0.
pub record SplitBack (s v : ℕ) (units : Set) (bodies : List (List ℕ)) : Type 0 where
  pub items : List Item
  pub bytes : split_bytes (item_bytes (item_of (composite s v units bodies))) ≡ accept (items_bytes items)
  pub read : read_items (items_bytes items) ≡ accept items
  pub main_types : map (λ i. i.main_type) items ≡ unit_types units
  pub subtypes : map (λ i. i.subtype) items ≡ map (λ m. cond (takes_subtype m) s 0) (unit_types units)
  pub bodies_in : map (λ i. i.body) items ≡ bodies

-- A wide composite's: two units of 128 bits, DATA and INSTANCE, that are read one by one.
pub record WideSplitBack (s v : ℕ) (da ins : List ℕ) : Type 0 where
  pub bytes : split_bytes (item_bytes (item_of (wide s v da ins))) ≡ accept (items_bytes (unit128 Data da ∷ unit128 Instance ins ∷ []))
  pub read : read_items (items_bytes (unit128 Data da ∷ unit128 Instance ins ∷ [])) ≡ accept (unit128 Data da ∷ unit128 Instance ins ∷ [])

-- Demand 2. Everything is read and written as ISO 24138 and RFC 4648 define it, within the specification's limits. What is written
-- reads back; what is read and written again is the same bytes (case of base32 letters apart); units laid end to end are read one
-- by one as they went in, and split from a composite in its own order.
pub record Demand2 : Type 1 where
  -- what is written reads back, whatever bytes follow
  pub base32_back : (bs : List ℕ) → Below 256 bs → decode base32 (encode base32 bs) ≡ accept bs
  pub varnibble_back : (n : ℕ) (rest : List ℕ) → n ≤ 4679 → read_varnibble (varnibble n ++ rest) ≡ accept (parsed n (length (varnibble n)))
  pub header_back : (h : Header) (rest : List ℕ) → Writable h → read_header (header_bytes h ++ rest) ≡ accept (parsed h (length (header_bytes h)))
  pub unit_back : (h : Header) (body out rest : List ℕ) → Below 256 body → unit_bytes h body ≡ accept out → UnitBack h body out rest
  pub code_back : (m : Meaning) (rest : List ℕ) → Permitted m → read_item (item_bytes (item_of m) ++ rest) ≡ accept (parsed (item_of m) (length (item_bytes (item_of m))))
  pub code_means : (m : Meaning) → Permitted m → meaning_of (item_of m) ≡ m
  pub join_back : (bs out : List ℕ) → Below 256 bs → joined_bytes bs ≡ accept out → JoinBack bs out
  -- what is read and written again is the same bytes, the case of base32 letters apart
  pub base32_again : (t bs : List ℕ) → decode base32 t ≡ accept bs → encode base32 bs ≡ map upper t
  pub varnibble_again : (ns : List ℕ) (g : Parsed ℕ) → Below 16 ns → read_varnibble ns ≡ accept g → varnibble g.result ≡ take g.used ns
  pub header_again : (bs : List ℕ) (g : Parsed Header) → Below 256 bs → read_header bs ≡ accept g → header_bytes g.result ≡ take g.used bs
  pub unit_again : (bs : List ℕ) (g : Parsed Item) → Below 256 bs → read_item bs ≡ accept g → item_bytes g.result ≡ take g.used bs
  pub units_again : (bs : List ℕ) (is : List Item) → Below 256 bs → read_items bs ≡ accept is → items_bytes is ≡ bs
  -- units laid end to end are read one by one as they went in: all at once, and by the reader of one unit used again on the rest
  pub laid_end : (m : Meaning) (ms : List Meaning) → All Permitted (m ∷ ms) → read_items (items_bytes (map item_of (m ∷ ms))) ≡ accept (map item_of (m ∷ ms))
  pub one_by_one : (m : Meaning) (ms : List Meaning) → Permitted m
      → (read_item (items_bytes (map item_of (m ∷ ms))) ≡ accept (parsed (item_of m) (length (item_bytes (item_of m)))))
      × (drop (length (item_bytes (item_of m))) (items_bytes (map item_of (m ∷ ms))) ≡ items_bytes (map item_of ms))
  -- split from a composite in its own order, and join of what split gives is the composite again, or 11 if it is wide
  pub split_order : (s v : ℕ) (units : Set) (bodies : List (List ℕ)) → Permitted (composite s v units bodies) → SplitBack s v units bodies
  pub wide_split_order : (s v : ℕ) (da ins : List ℕ) → Permitted (wide s v da ins) → WideSplitBack s v da ins
  pub split_join : (bs out : List ℕ) (i : Item) → Below 256 bs → read_one bs ≡ accept i → split_bytes bs ≡ accept out
      → joined_bytes out ≡ cond (is_wide i.subtype i.length_number) (refuse not_64_bits) (accept bs)
  -- digits, once over the bits per digit
  pub digits_back : (v : ℕ) → 0 < v → v ≤ 8 → (bs : List ℕ) → Below 256 bs → from_digits v (to_digits v bs) ≡ accept bs
  -- the distance: n is the shorter body's bits
  pub distance_shorter : (x y : List ℕ) (i j : Item) (r : Distance) → read_one x ≡ accept i → read_one y ≡ accept j → distance x y ≡ accept r
      → (length i.body ≤ length j.body → r.n ≡ length (bits_of i.body)) × (length j.body ≤ length i.body → r.n ≡ length (bits_of j.body))
  -- d is at most n, n at most 256, and for these n the float product of the ratio and n is d as a float
  pub distance_bounds : (x y : List ℕ) (r : Distance) → distance x y ≡ accept r → (r.d ≤ r.n) × (r.n ≤ 256)
  pub distance_exact : (n : ℕ) → (n ≡ 32) ⊎ (n ≡ 64) ⊎ (n ≡ 128) ⊎ (n ≡ 256) → (d : ℕ) → d ≤ n
      → eq (mul binary32 (ratio_of d n) (of_int binary32 (pos n))) (of_int binary32 (pos d)) ≡ true

-- Demand 3.
pub record Demand3 : Type 1 where
  -- Of any two texts that intake accepts, with any output areas of at least 73 bytes, the written texts are equal exactly when
  -- the codes mean the same.
  pub accepts : (t area : List ℕ) → 73 ≤ length area → Accepted (intake t (length area)) ↔ Accepted (meaning_of_text t)
  pub equal : (t u a b : List ℕ) → 73 ≤ length a → 73 ≤ length b → (m k : Meaning) → meaning_of_text t ≡ accept m → meaning_of_text u ≡ accept k
      → (written_text t a ≡ written_text u b) ↔ (m ≡ k)
  -- The strict door accepts a text exactly when intake accepts it and writes back that very text.
  pub strictly : (t : List ℕ) → Accepted (strict t) ↔ ((a : List ℕ) → 73 ≤ length a → Accepted (intake t (length a)) × (written_text t a ≡ t))
  -- For every permitted meaning there is one strict text
  pub one : (m : Meaning) → Permitted m → strict (text_of m) ≡ accept m
  -- and no second,
  pub no_second : (m : Meaning) (t : List ℕ) → strict t ≡ accept m → t ≡ text_of m
  -- and intake writes it,
  pub written : (m : Meaning) (t a : List ℕ) → 73 ≤ length a → meaning_of_text t ≡ accept m → written_text t a ≡ text_of m
  -- in the specification's spelling,
  pub spelling : (m : Meaning) → text_of m ≡ scheme ++ encode base32 (item_bytes (item_of m))
  -- in at most 73 characters; what a text means is permitted.
  pub short : (t : List ℕ) (m : Meaning) → meaning_of_text t ≡ accept m → Permitted m × (length (text_of m) ≤ 73)
  -- Any order of the same units in a list gives the same answer, refusal number included, from intake
  pub any_order : (t u : List ℕ) (is js : List Item) (area : ℕ) → items_of_text t ≡ accept is → items_of_text u ≡ accept js → Reordered is js → intake t area ≡ intake u area
  -- and from join.
  pub join_any_order : (bs cs : List ℕ) (is js : List Item) (area : ℕ) → read_items bs ≡ accept is → read_items cs ≡ accept js → Reordered is js → join bs area ≡ join cs area
