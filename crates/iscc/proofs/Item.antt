-- The laws of one item.
use Prim.Native.Nat.{ℕ, ◌+◌, ◌/◌, ◌≤◌}
use mathlib.Core.Path.{◌≡◌, sym, ◌∙◌, ap, subst}
use mathlib.Core.Bool.{true, ◌&&◌}
use mathlib.Core.List.{List, ◌++◌, append_assoc}
use native.Mathlib.Omega.{arith}
use lib.ListN.{length, get_or, take, drop, length-append, length-drop}
use lib.Seq.{drop-append_seam, take_at, length-take-le, take-add}
use lib.Dec.{leb}
use borrow.Author.Tests.{le-leb, leb-true}
use Rattle.iscc.specs.Answer.{accept}
use Rattle.iscc.specs.Digits.{Below}
use Rattle.iscc.specs.Varnibble.{Parsed}
use Rattle.iscc.specs.Header.{Header, Writable, header_bytes, read_header}
use Rattle.iscc.specs.Permitted.{MainType, number, main_type_of, is_unit, permits, body_bytes}
use Rattle.iscc.specs.Meaning.{Sized}
use Rattle.iscc.specs.Item.{Item, header_of, item_with, item_bytes, read_item, unit_bytes}
use Rattle.iscc.proofs.Answer.{passed, answered, accept-inj}
use Rattle.iscc.proofs.Booleans.{both_true}
use Rattle.iscc.proofs.Digits.{below-append, below-take, below-drop}
use Rattle.iscc.proofs.Header.{read-header, header-below, length-short, short-bytes, header_read}
use Rattle.iscc.proofs.Permitted.{main_type_of-number, main_type_of-back, number_small, Small, small, body-most}

-- an item whose header the table permits, with a body as long as the table says
pub record PermittedItem (i : Item) : Type 0 where
  pub header : permits i.main_type i.subtype i.version i.length_number ≡ true
  pub body : Sized (body_bytes i.main_type i.subtype i.length_number) i.body

pub writable : (i : Item) → PermittedItem i → Writable (header_of i)
writable i p =
    let s : Small i.subtype i.version i.length_number = small i.main_type i.subtype i.version i.length_number p.header in
    let n : number i.main_type ≤ 6 = number_small i.main_type in
    omega arith

-- what is written reads back, whatever follows
pub read-item : (i : Item) (rest : List ℕ) → PermittedItem i → read_item (item_bytes i ++ rest) ≡ accept (record { result = i; used = length (item_bytes i) })
unfolding read_item item_bytes
read-item i rest p =
    let hb : List ℕ = header_bytes (header_of i) in
    let n : ℕ = body_bytes i.main_type i.subtype i.length_number in
    let len : length i.body ≡ n = p.body.0 in
    let bs : List ℕ = hb ++ (i.body ++ rest) in
    let r : read_header bs ≡ accept (record { result = header_of i; used = length hb }) = read-header (header_of i) (i.body ++ rest) (writable i p) in
    let l : length hb + n ≤ length bs = simp length-append (omega arith) in
    let b : take n (drop (length hb) bs) ≡ i.body = ap (take n) (drop-append_seam hb (i.body ++ rest)) ∙ take_at i.body rest n len in
    let u : length (hb ++ i.body) ≡ length hb + n = simp length-append (omega arith) in
    rw (append_assoc, r, main_type_of-number i.main_type, p.header, le-leb (length hb + n) (length bs) l, b, u)

-- what is read is permitted, and written again it is the same bytes
pub record ReadItem (bs : List ℕ) (g : Parsed Item) : Type 0 where
  pub permitted : PermittedItem g.result
  pub within : g.used ≤ length bs
  pub again : item_bytes g.result ≡ take g.used bs

-- a header that was read, with its main type's name: the tests of the body, and the item
module _ (bs : List ℕ) (h : Parsed Header) (m : MainType) where
  abbrev size : ℕ
  size = body_bytes m h.result.subtype h.result.length_number

  pub record Behind : Type 0 where
    pub read : read_header bs ≡ accept h
    pub main_type : number m ≡ h.result.main_type
    pub permitted : permits m h.result.subtype h.result.version h.result.length_number ≡ true
    pub within : h.used + size ≤ length bs
    pub sized : length (take size (drop h.used bs)) ≡ size

  abbrev pub parsed_item : Parsed Item
  parsed_item = record { result = item_with m h.result (take size (drop h.used bs)); used = h.used + size }

  again : Below 256 bs → Behind → ReadItem bs parsed_item
  unfolding item_bytes
  again k b =
      record {
        permitted = record { header = b.permitted; body = (b.sized, below-take 256 size (drop h.used bs) (below-drop 256 h.used bs k)) };
        within = b.within;
        again = rw (b.main_type, (header_read bs h k b.read).again) (sym (take-add h.used size bs));
      }

-- what holds of every item behind a header that passed the tests holds of an item that was read
pub behind-header {ℓ} : (bs : List ℕ) (P : Parsed Item → Type ℓ) → ((h : Parsed Header) (m : MainType) → Behind bs h m → P (parsed_item bs h m))
    → (g : Parsed Item) → read_item bs ≡ accept g → P g
unfolding read_item
behind-header bs P f g e =
    let r = answered (read_header bs) _ e in
    let q = answered (main_type_of r.0.result.main_type) _ r.2 in
    let p = passed (permits q.0 r.0.result.subtype r.0.result.version r.0.result.length_number) _ _ q.2 in
    let n : ℕ = size bs r.0 q.0 in
    let w = passed (leb (r.0.used + n) (length bs)) _ _ p.1 in
    let l : r.0.used + n ≤ length bs = leb-true (r.0.used + n) (length bs) w.0 in
    subst P (accept-inj w.1)
    (f r.0 q.0
    (record {
      read = r.1;
      main_type = main_type_of-back r.0.result.main_type q.0 q.1;
      permitted = p.0;
      within = l;
      sized = length-take-le n (drop r.0.used bs) (simp length-drop (omega arith));
    }))

pub item-read : (bs : List ℕ) (g : Parsed Item) → Below 256 bs → read_item bs ≡ accept g → ReadItem bs g
item-read bs g k e = behind-header bs (ReadItem bs) (λ h m. again bs h m k) g e

-- ---- an item's bytes: a header of two and a body of at most 40

pub header-two : (i : Item) → PermittedItem i → length (header_bytes (header_of i)) ≡ 2
header-two i p =
    let s : Small i.subtype i.version i.length_number = small i.main_type i.subtype i.version i.length_number p.header in
    let n : number i.main_type ≤ 6 = number_small i.main_type in
    length-short (header_of i) (omega arith) (omega arith) (omega arith) (omega arith)

pub length-item : (i : Item) → PermittedItem i → length (item_bytes i) ≡ 2 + body_bytes i.main_type i.subtype i.length_number
unfolding item_bytes
length-item i p =
    let h : length (header_bytes (header_of i)) ≡ 2 = header-two i p in
    let b : length i.body ≡ body_bytes i.main_type i.subtype i.length_number = p.body.0 in
    simp length-append (omega arith)

pub item-most : (i : Item) → PermittedItem i → length (item_bytes i) ≤ 42
item-most i p =
    let l : length (item_bytes i) ≡ 2 + body_bytes i.main_type i.subtype i.length_number = length-item i p in
    let b : body_bytes i.main_type i.subtype i.length_number ≤ 40 = body-most i.main_type i.subtype i.version i.length_number p.header in
    omega arith

-- the main type is the first nibble
pub item-first : (i : Item) → PermittedItem i → get_or (item_bytes i) 0 0 / 16 ≡ number i.main_type
unfolding item_bytes
item-first i p =
    let s : Small i.subtype i.version i.length_number = small i.main_type i.subtype i.version i.length_number p.header in
    let n : number i.main_type ≤ 6 = number_small i.main_type in
    rw (short-bytes (number i.main_type) i.subtype i.version i.length_number (omega arith) (omega arith) (omega arith) (omega arith)) (omega arith)

pub item-below : (i : Item) → PermittedItem i → Below 256 (item_bytes i)
unfolding item_bytes
item-below i p = below-append 256 (header_bytes (header_of i)) i.body (header-below (header_of i)) p.body.1

-- ---- the unit writer: what it writes is the bytes of a permitted unit

pub record UnitWritten (h : Header) (body out : List ℕ) : Type 0 where
  pub item : Item
  pub permitted : PermittedItem item
  pub header : header_of item ≡ h
  pub body_is : item.body ≡ take (length item.body) body
  pub bytes : out ≡ item_bytes item

module _ (h : Header) (body : List ℕ) (m : MainType) where
  abbrev length-of : ℕ
  length-of = body_bytes m h.subtype h.length_number

  unit-made : Below 256 body → number m ≡ h.main_type → permits m h.subtype h.version h.length_number ≡ true → length-of ≤ length body
      → UnitWritten h body (header_bytes h ++ take length-of body)
  unfolding item_bytes
  unit-made k n p l =
      let e : length (take length-of body) ≡ length-of = length-take-le length-of body l in
      record {
        item = item_with m h (take length-of body);
        permitted = record { header = p; body = (e, below-take 256 length-of body k) };
        header = rw n;
        body_is = rw e;
        bytes = rw n;
      }

pub unit-written : (h : Header) (body out : List ℕ) → Below 256 body → unit_bytes h body ≡ accept out → UnitWritten h body out
unfolding unit_bytes
unit-written h body out k e =
    let r = answered (main_type_of h.main_type) _ e in
    let p = passed (is_unit r.0 && permits r.0 h.subtype h.version h.length_number) _ _ r.2 in
    let q = passed (leb (length-of h body r.0) (length body)) _ _ p.1 in
    subst (UnitWritten h body) (accept-inj q.1)
    (unit-made h body r.0 k (main_type_of-back h.main_type r.0 r.1) (both_true (is_unit r.0) _ p.0).1
    (leb-true (length-of h body r.0) (length body) q.0))
