-- Demands 1 and 2 hold of the definitions. Demand 3 is proved in Doors.antt.
use Prim.Native.Nat.{ℕ, ◌≤◌}
use mathlib.Core.Path.{◌≡◌, refl, sym, ◌∙◌, ap, subst}
use mathlib.Core.Logic.{◌⊎◌, inl, inr}
use mathlib.Core.Bool.{true, cond}
use mathlib.Core.List.{List, ◌∷◌, ◌++◌, map}
use native.Mathlib.Omega.{arith}
use lib.ListN.{length, drop, length-append, length-drop}
use lib.Seq.{take-append_seam, drop-append_seam}
use lib.Dec.{leb, lit≤}
use lib.IntN.{pos}
use lib.Ieee.{binary32, of_int, mul, eq}
use borrow.Author.Tests.{leb-true}
use Rattle.iscc.specs.Refusals.{Refusal, not_64_bits, area_too_short}
use Rattle.iscc.specs.Answer.{Answer, accept, refuse, ◌>>=◌, ◌>>◌, ◌otherwise◌, into, Kept}
use Rattle.iscc.specs.Digits.{Below}
use Rattle.iscc.specs.Alphabet.{encode, decode}
use Rattle.iscc.specs.Base32.{base32}
use Rattle.iscc.specs.Header.{Header, raw_header}
use Rattle.iscc.specs.Lists.{All}
use Rattle.iscc.specs.Permitted.{Set, set_length_number, is_wide}
use Rattle.iscc.specs.Meaning.{Meaning, unit, composite, wide, Permitted}
use Rattle.iscc.specs.Item.{Item, item_bytes, read_item, read_one, unit_bytes, meaning_of, item_of}
use Rattle.iscc.specs.Items.{items_bytes, units_of, joined_bytes, split_bytes}
use Rattle.iscc.specs.Doors.{meaning_of_text, text_of, code_bytes, read_code, write_text, intake}
use Rattle.iscc.specs.Distance.{Distance, bits_of, compared_bits, distance, ratio_of}
use Rattle.iscc.specs.Demands.{Demand1, Demand2, UnitBack, SplitBack, WideSplitBack}
use Rattle.iscc.proofs.Answer.{never, accept-inj, passed, answered, accepted-value}
use Rattle.iscc.proofs.ByteDigits.{from-to}
use Rattle.iscc.proofs.Alphabet.{decode-encode, encode-decode}
use Rattle.iscc.proofs.Base32.{sound32, bad-count}
use Rattle.iscc.proofs.Varnibble.{length-varnibble, read-varnibble, varnibble-read}
use Rattle.iscc.proofs.Header.{read-header, header_read}
use Rattle.iscc.proofs.Permitted.{not_wide}
use Rattle.iscc.proofs.Item.{PermittedItem, UnitWritten, read-item, item-read, unit-written, item-most}
use Rattle.iscc.proofs.Meaning.{meaning-back, item-permitted, meant-item, item_back}
use Rattle.iscc.proofs.Items.{AllPermitted, read-items, items-read}
use Rattle.iscc.proofs.Split.{units, units-types, units-subtypes, units-bodies, split_parts, split-read, split-joined, wide-item, wide-parts, wide_read, wide-joined, one-read, join-makes}
use Rattle.iscc.proofs.Lists.{all-imp, all_map}
use Rattle.iscc.proofs.Distance.{bounded, compared-shorter, shorter-bits, exact-power}
use Rattle.iscc.proofs.Doors.{meant, short}
use Rattle.iscc.proofs.Exactly.{exactly}
use Rattle.iscc.proofs.HeaderTests.{header-by}
use Rattle.iscc.proofs.ItemTests.{unit-by, one-by}
use Rattle.iscc.proofs.CallTests.{intake-by, strict-by, read_by, write-by, unit-write-by, header-write-by, join_by, split_by, distance-by, read-code-by, write-text-by}

-- ---- lent areas

-- what fits is written in front, and the area's own bytes follow
kept : (x : Answer (List ℕ)) (area : List ℕ) → ((out : List ℕ) → x ≡ accept out → length out ≤ length area) → Kept x area
kept (refuse q) area f = record { refused = λ r e. refl; front = λ out e. absurd (never e); past = refl; same = refl }
kept (accept out) area f =
    let l : length out ≤ length area = f out refl in
    record {
      refused = λ r e. absurd (never (sym e));
      front = λ o e. take-append_seam out (drop (length out) area) ∙ accept-inj e;
      past = drop-append_seam out (drop (length out) area);
      same = simp (length-append, length-drop) (omega arith);
    }

kept-into : (x : Answer (List ℕ)) (area : List ℕ) → Kept (into (length area) x) area
kept-into x area = kept (into (length area) x) area (λ out e. fits x out e)
  where
    fits : (x : Answer (List ℕ)) (out : List ℕ) → into (length area) x ≡ accept out → length out ≤ length area
    fits x out e =
        let a = answered x (λ o. leb (length o) (length area) otherwise area_too_short >> accept o) e in
        let p = passed (leb (length a.0) (length area)) _ (accept a.0) a.2 in
        subst (λ (o : List ℕ). length o ≤ length area) (accept-inj p.1) (leb-true (length a.0) (length area) p.0)

-- a call that tests for `room` bytes whatever is written, and writes no more than that
kept-room : (room : ℕ) (x : Answer (List ℕ)) (area : List ℕ) → ((out : List ℕ) → x ≡ accept out → length out ≤ room)
    → Kept (leb room (length area) otherwise area_too_short >> x) area
kept-room room x area f =
    kept (leb room (length area) otherwise area_too_short >> x) area
    (λ out e. let p = passed (leb room (length area)) _ x e in omega (arith, f out p.1, leb-true room (length area) p.0))

kept-intake : (t area : List ℕ) → Kept (intake t (length area)) area
unfolding intake
kept-intake t area =
    kept-room 73 (meaning_of_text t >>= λ m. accept (text_of m)) area
    (accepted-value (meaning_of_text t) text_of (λ out. length out ≤ 73) (λ m e. short m (meant t m e)))

kept-code : (t area : List ℕ) → Kept (read_code t (length area)) area
unfolding read_code code_bytes
kept-code t area =
    kept-room 42 (meaning_of_text t >>= λ m. accept (item_bytes (item_of m))) area
    (accepted-value (meaning_of_text t) (λ m. item_bytes (item_of m)) (λ out. length out ≤ 42)
    (λ m e. item-most (item_of m) (item-permitted m (meant t m e))))

kept-text : (bs area : List ℕ) → Below 256 bs → Kept (write_text bs (length area)) area
unfolding write_text
kept-text bs area k =
    kept-room 73 (read_one bs >>= λ i. accept (text_of (meaning_of i))) area
    (accepted-value (read_one bs) (λ i. text_of (meaning_of i)) (λ out. length out ≤ 73)
    (λ i e. short (meaning_of i) (meant-item i (one-read bs i k e).0)))

-- ---- demand 1

either_way : {A : Type 0} (x : Answer A) → ((a : A) × (x ≡ accept a)) ⊎ ((q : Refusal) × (x ≡ refuse q))
either_way (accept a) = inl (a, refl)
either_way (refuse q) = inr (q, refl)

pub demand1 : Demand1
demand1 =
    record {
      answers = either_way;
      intake_tests = λ t area. exactly _ _ (intake-by t area);
      strict_tests = λ t. exactly _ _ (strict-by t);
      base32_read_tests = λ t area. exactly _ _ (read_by t area);
      base32_write_tests = λ bs area. exactly _ _ (write-by bs area);
      header_read_tests = λ bs. exactly _ _ (header-by bs);
      header_write_tests = λ h area. exactly _ _ (header-write-by h area);
      unit_read_tests = λ bs. exactly _ _ (unit-by bs);
      one_tests = λ bs. exactly _ _ (one-by bs);
      unit_write_tests = λ h body area. exactly _ _ (unit-write-by h body area);
      join_tests = λ bs area b. exactly _ _ (join_by bs area b);
      split_tests = λ bs area. exactly _ _ (split_by bs area);
      distance_tests = λ x y. exactly _ _ (distance-by x y);
      read_code_tests = λ t area. exactly _ _ (read-code-by t area);
      write_text_tests = λ bs area. exactly _ _ (write-text-by bs area);
      count_over = bad-count;
      intake_area = kept-intake;
      base32_read_area = λ t area. kept-into (decode base32 t) area;
      base32_write_area = λ bs area. kept-into (accept (encode base32 bs)) area;
      header_write_area = λ h area. kept-into (raw_header h) area;
      unit_write_area = λ h body area. kept-into (unit_bytes h body) area;
      join_area = λ bs area. kept-into (joined_bytes bs) area;
      split_area = λ bs area. kept-into (split_bytes bs) area;
      read_code_area = kept-code;
      write_text_area = kept-text;
    }

-- ---- demand 2

unit-back : (h : Header) (body out rest : List ℕ) → Below 256 body → unit_bytes h body ≡ accept out → UnitBack h body out rest
unit-back h body out rest k e =
    let w : UnitWritten h body out = unit-written h body out k e in
    record { item = w.item; read = same out w.item w.bytes w.permitted; header = w.header; body_is = w.body_is }
  where
    same : (out : List ℕ) (i : Item) → out ≡ item_bytes i → PermittedItem i → read_item (out ++ rest) ≡ accept (record { result = i; used = length out })
    same out i b p = rw b (read-item i rest p)

items-permitted : (ms : List Meaning) → All Permitted ms → AllPermitted (map item_of ms)
items-permitted ms p = all_map PermittedItem item_of ms (all-imp Permitted item-permitted ms p)

laid-rest : (m : Meaning) (ms : List Meaning) → items_bytes (map item_of (m ∷ ms)) ≡ item_bytes (item_of m) ++ items_bytes (map item_of ms)
unfolding items_bytes
laid-rest m ms = refl

split-order : (s v : ℕ) (u : Set) (bodies : List (List ℕ)) → Permitted (composite s v u bodies) → SplitBack s v u bodies
split-order s v u bodies p =
    record {
      items = units s v u bodies p;
      bytes = split_parts s v u bodies p;
      read = split-read s v u bodies p;
      main_types = units-types s v u bodies p;
      subtypes = units-subtypes s v u bodies p;
      bodies_in = units-bodies s v u bodies p;
    }

wide-split-order : (s v : ℕ) (da ins : List ℕ) → Permitted (wide s v da ins) → WideSplitBack s v da ins
wide-split-order s v da ins p = record { bytes = wide-parts s v da ins p; read = wide_read s v da ins p }

-- what a composite's units make when they are joined: the composite again, or 11
abbrev joined_again : Item → Answer (List ℕ)
joined_again i = cond (is_wide i.subtype i.length_number) (refuse not_64_bits) (accept (item_bytes i))

rejoined : (m : Meaning) → Permitted m → (is : List Item) → units_of m ≡ accept is → joined_bytes (items_bytes is) ≡ joined_again (item_of m)
unfolding units_of item_of
rejoined (unit m s v body) p is u = absurd (never u)
rejoined (composite s v set bodies) p is u =
    ap joined_bytes (ap items_bytes (sym (accept-inj u))) ∙ split-joined s v set bodies p ∙ rw (not_wide s (set_length_number set) p.subtype)
rejoined (wide s v da ins) p is u =
    ap joined_bytes (ap items_bytes (sym (accept-inj u))) ∙ wide-joined s v da ins p ∙ rw (wide-item s v da ins p)

-- what split writes is the units of a permitted composite, whose bytes were read
split-join : (bs out : List ℕ) (i : Item) → Below 256 bs → read_one bs ≡ accept i → split_bytes bs ≡ accept out
    → joined_bytes out ≡ cond (is_wide i.subtype i.length_number) (refuse not_64_bits) (accept bs)
unfolding split_bytes
split-join bs out i k r e =
    let o = one-read bs i k r in
    let b = answered (units_of (meaning_of i)) (λ is. accept (items_bytes is)) (rw r at e) in
    ap joined_bytes (sym (accept-inj b.2)) ∙ rejoined (meaning_of i) (meant-item i o.0) b.0 b.1
    ∙ ap joined_again (item_back i o.0) ∙ ap (λ (cs : List ℕ). cond (is_wide i.subtype i.length_number) (refuse not_64_bits) (accept cs)) o.1

shorter : (x y : List ℕ) (i j : Item) (r : Distance) → read_one x ≡ accept i → read_one y ≡ accept j → distance x y ≡ accept r
    → (length i.body ≤ length j.body → r.n ≡ length (bits_of i.body)) × (length j.body ≤ length i.body → r.n ≡ length (bits_of j.body))
shorter x y i j r f g e =
    let n : r.n ≡ compared_bits i.body j.body = shorter-bits x y i j r f g e in
    (λ l. n ∙ (compared-shorter i.body j.body l).0, λ l. n ∙ (compared-shorter j.body i.body l).1)

exact : (n : ℕ) → (n ≡ 32) ⊎ (n ≡ 64) ⊎ (n ≡ 128) ⊎ (n ≡ 256) → (d : ℕ) → d ≤ n
    → eq (mul binary32 (ratio_of d n) (of_int binary32 (pos n))) (of_int binary32 (pos d)) ≡ true
exact n (inl e) d h = rw e (exact-power 5 d (lit≤ tt) (rw e at h))
exact n (inr (inl e)) d h = rw e (exact-power 6 d (lit≤ tt) (rw e at h))
exact n (inr (inr (inl e))) d h = rw e (exact-power 7 d (lit≤ tt) (rw e at h))
exact n (inr (inr (inr e))) d h = rw e (exact-power 8 d (lit≤ tt) (rw e at h))

pub demand2 : Demand2
unfolding base32
demand2 =
    record {
      base32_back = decode-encode base32 sound32;
      varnibble_back = λ n rest h. rw (length-varnibble n) (read-varnibble n rest h);
      header_back = λ h rest w. read-header h rest w;
      unit_back = unit-back;
      code_back = λ m rest p. read-item (item_of m) rest (item-permitted m p);
      code_means = meaning-back;
      join_back = join-makes;
      base32_again = λ t bs e. (encode-decode base32 sound32 t bs e).again;
      varnibble_again = λ ns g b e. (varnibble-read ns g b e).again;
      header_again = λ bs g b e. (header_read bs g b e).again;
      unit_again = λ bs g b e. (item-read bs g b e).again;
      units_again = λ bs is b e. (items-read bs is b e).again;
      laid_end = λ m ms p. read-items (item_of m) (map item_of ms) (items-permitted (m ∷ ms) p);
      one_by_one =
          λ m ms p. (
            ap read_item (laid-rest m ms) ∙ read-item (item_of m) (items_bytes (map item_of ms)) (item-permitted m p),
            ap (drop (length (item_bytes (item_of m)))) (laid-rest m ms) ∙ drop-append_seam (item_bytes (item_of m)) (items_bytes (map item_of ms)),
          );
      split_order = split-order;
      wide_split_order = wide-split-order;
      split_join = split-join;
      digits_back = λ v p m bs b. from-to v p m bs b;
      distance_shorter = shorter;
      distance_bounds = λ x y r e. let w = bounded x y r e in (w.apart, w.most);
      distance_exact = exact;
    }
