-- Valid areas are exactly the bytes of good contents, and the register answers as the plain map with its number does.
use Prim.Native.Nat.{ℕ, suc, ◌≤◌, ◌<◌}
use mathlib.Core.Path.{◌≡◌, refl, sym, ◌∙◌, ap, ap₂, subst}
use mathlib.Core.Bool.{Bool, true, false, ◌&&◌}
use mathlib.Core.Option.{none}
use mathlib.Core.List.{List, ◌∷◌, ◌++◌}
use native.Mathlib.Omega.{arith}
use lib.ListN.{length, take, drop, length-append, length-drop}
use lib.Seq.{take_at, drop_at, take_all, take-add, drop-drop, length-take-le}
use lib.Dec.{eqb, ltb}
use borrow.Author.Tests.{eq-eqb, eqb-true, ltb-true}
use Rattle.iscc.specs.Answer.{Answer, accept, refuse, ◌>>=◌, ◌>>◌, ◌otherwise◌}
use Rattle.iscc.specs.Digits.{digits, value, Below}
use Rattle.iscc.specs.Refusals.{numbers_spent}
use Rattle.iscc.specs.Lists.{same_bytes}
use Rattle.iscc.proofs.Booleans.{both_true}
use Rattle.iscc.proofs.Digits.{length_digits, value-lt, digits_value, below-take, below-drop}
use Rattle.iscc.proofs.Answer.{accept-inj, never}
use Rattle.iscc.proofs.Demand3.{same_bytes-refl, same_bytes-eq}
use Rattle.loans.specs.Loan.{Loan, find, without}
use Rattle.loans.specs.Map.{Change, map_changed, holder_of, map_asked}
use Rattle.loans.specs.Calls.{Call}
use Rattle.loans.specs.Place.{zeros, places_bytes}
use Rattle.loans.specs.Order.{placed, are_ordered, loans_at, put}
use Rattle.loans.specs.Halving.{asked_loans}
use Rattle.loans.specs.Counts.{counts_bytes}
use Rattle.loans.specs.Register.{changed_area, asked_area}
use Rattle.loans.specs.Numbered.{Contents, nothing, taking_next, map_numbered, map_numbered_asked}
use Rattle.loans.specs.Contents.{counts_part, places_part, number_part, contents_of, is_register, bytes_of, changed_loans, applied, register, empty_register}
use Rattle.loans.specs.Good.{GoodLoan, Rising, GoodList, GoodContents, GoodChange, GoodCalls, Sound}
use Rattle.loans.proofs.Place.{four-bytes-back}
use Rattle.loans.proofs.Places.{free_bytes, zeros-more}
use Rattle.loans.proofs.Map.{Same, same_refl, Both, Held, agrees}
use Rattle.loans.proofs.Calls.{InArea, AllAlike, area-alike}
use Rattle.loans.proofs.Order.{rising-distinct, put-good, put-rising, put_same, without-rising, without-good, fewer}
use Rattle.loans.proofs.OrderedPlaces.{placed-size, placed-back, placed-ordered, loans-few, loans-rising, loans-good, loans-again}
use Rattle.loans.proofs.Halving.{search-finds}
use Rattle.loans.proofs.Counts.{length-counts, no-counts}

-- ---- valid areas are exactly the bytes of good contents

-- what the test says of an area
pub record Known (area : List ℕ) : Type 0 where
  pub size : length area ≡ 12308
  pub places_size : length (places_part area) ≡ 12288
  pub number_size : length (number_part area) ≡ 4
  pub ordered : are_ordered (places_part area) ≡ true
  pub counted : counts_part area ≡ counts_bytes (loans_at (places_part area))

pub register-known : (area : List ℕ) → is_register area ≡ true → Known area
unfolding is_register
register-known area e =
    let counted : Bool = same_bytes (counts_part area) (counts_bytes (loans_at (places_part area))) in
    let a = both_true (eqb (length area) 12308 && are_ordered (places_part area)) counted e in
    let b = both_true (eqb (length area) 12308) (are_ordered (places_part area)) a.0 in
    let n : length area ≡ 12308 = eqb-true (length area) 12308 b.0 in
    record {
      size = n;
      places_size = length-take-le 12288 (drop 16 area) (omega (arith, n, length-drop 16 area));
      number_size = length-take-le 4 (drop 12304 area) (omega (arith, n, length-drop 12304 area));
      ordered = b.1;
      counted = same_bytes-eq (counts_part area) (counts_bytes (loans_at (places_part area))) a.1;
    }

pub contents-rising : (area : List ℕ) → is_register area ≡ true → Rising (contents_of area).loans
contents-rising area e = loans-rising (places_part area) (register-known area e).ordered

is-register : (area : List ℕ) → length area ≡ 12308 → are_ordered (places_part area) ≡ true
    → same_bytes (counts_part area) (counts_bytes (loans_at (places_part area))) ≡ true → is_register area ≡ true
unfolding is_register
is-register area n o c = rw (eq-eqb (length area) 12308 n, o, c)

-- an area cut into its parts, and put together of them
module _ (xs ys zs : List ℕ) (n : length xs ≡ 16) (m : length ys ≡ 12288) (k : length zs ≡ 4) where
  pub first_part : counts_part (xs ++ (ys ++ zs)) ≡ xs
  first_part = take_at xs (ys ++ zs) 16 n

  pub second-part : places_part (xs ++ (ys ++ zs)) ≡ ys
  second-part = ap (take 12288) (drop_at xs (ys ++ zs) 16 n) ∙ take_at ys zs 12288 m

  pub third-part : number_part (xs ++ (ys ++ zs)) ≡ zs
  third-part =
      ap (take 4) (sym (drop-drop 12288 16 (xs ++ (ys ++ zs))) ∙ ap (drop 12288) (drop_at xs (ys ++ zs) 16 n) ∙ drop_at ys zs 12288 m)
      ∙ take_all 4 zs (omega (arith, k))

  pub parts-size : length (xs ++ (ys ++ zs)) ≡ 12308
  parts-size = length-append xs (ys ++ zs) ∙ omega (arith, length-append ys zs, n, m, k)

parts_again : (area : List ℕ) → length area ≡ 12308 → counts_part area ++ (places_part area ++ number_part area) ≡ area
parts_again area n =
    ap (λ (bs : List ℕ). counts_part area ++ (places_part area ++ take 4 bs)) (sym (drop-drop 12288 16 area))
    ∙ ap (λ (bs : List ℕ). counts_part area ++ bs) (sym (take-add 12288 4 (drop 16 area))) ∙ sym (take-add 16 12292 area) ∙ take_all 12308 area (omega (arith, n))

module _ (s : Contents) (g : GoodContents s) where
  abbrev ls : List Loan
  ls = s.loans

  abbrev places : List ℕ
  places = places_bytes (placed 256 ls)

  abbrev number : List ℕ
  number = digits 8 4 s.last

  places-size : length places ≡ 12288
  places-size = placed-size ls g.list.count g.list.loans

  front-is : counts_part (bytes_of s) ≡ counts_bytes ls
  unfolding bytes_of
  front-is = first_part (counts_bytes ls) places number (length-counts ls) places-size (length_digits 8 4 s.last)

  pub behind-is : places_part (bytes_of s) ≡ places_bytes (placed 256 s.loans)
  unfolding bytes_of
  behind-is = second-part (counts_bytes ls) places number (length-counts ls) places-size (length_digits 8 4 s.last)

  number_is : number_part (bytes_of s) ≡ number
  unfolding bytes_of
  number_is = third-part (counts_bytes ls) places number (length-counts ls) places-size (length_digits 8 4 s.last)

  size_is : length (bytes_of s) ≡ 12308
  unfolding bytes_of
  size_is = parts-size (counts_bytes ls) places number (length-counts ls) places-size (length_digits 8 4 s.last)

  loans-held : loans_at (places_part (bytes_of s)) ≡ ls
  loans-held = ap loans_at behind-is ∙ placed-back ls g.list.count g.list.loans

  last-held : value 8 (number_part (bytes_of s)) ≡ s.last
  last-held = ap (value 8) number_is ∙ four-bytes-back s.last g.last

  holds : contents_of (bytes_of s) ≡ s
  holds = ap₂ (λ (l : List Loan) (n : ℕ). record { loans = l; last = n }) loans-held last-held

  ordered : are_ordered (places_part (bytes_of s)) ≡ true
  ordered = ap are_ordered behind-is ∙ placed-ordered ls g.list.count g.list.loans g.list.order

  counted : same_bytes (counts_part (bytes_of s)) (counts_bytes (loans_at (places_part (bytes_of s)))) ≡ true
  counted = ap₂ same_bytes front-is (ap counts_bytes loans-held) ∙ same_bytes-refl (counts_bytes ls)

  written : is_register (bytes_of s) ≡ true
  written = is-register (bytes_of s) size_is ordered counted

module _ (area : List ℕ) (k : Below 256 area) (e : is_register area ≡ true) where
  places-bytes : Below 256 (places_part area)
  places-bytes = below-take 256 12288 (drop 16 area) (below-drop 256 16 area k)

  number-bytes : Below 256 (number_part area)
  number-bytes = below-take 256 4 (drop 12304 area) (below-drop 256 12304 area k)

  good : GoodContents (contents_of area)
  good =
      let p = register-known area e in
      record {
        list =
            record {
              count = loans-few (places_part area);
              loans = loans-good (places_part area) p.ordered p.places_size places-bytes;
              order = contents-rising area e;
            };
        last = rw p.number_size at (value-lt 8 (number_part area) number-bytes);
      }

  number-again : digits 8 4 (contents_of area).last ≡ number_part area
  number-again = ap (λ (j : ℕ). digits 8 j (value 8 (number_part area))) (sym (register-known area e).number_size) ∙ digits_value 8 (number_part area) number-bytes

  again : bytes_of (contents_of area) ≡ area
  unfolding bytes_of
  again =
      let p = register-known area e in
      ap₂ (λ (a b : List ℕ). a ++ b) (sym p.counted)
      (ap₂ (λ (a b : List ℕ). a ++ b) (loans-again (places_part area) p.ordered p.places_size places-bytes) number-again)
      ∙ parts_again area p.size

pub register-sound : Sound register GoodContents
register-sound = record { valid = written; back = holds; good = good; again = again }

-- ---- a change and a question are the map's, with its number

abbrev pub HeldList : List Loan → List Loan → Type 0
HeldList = Held (λ (ls : List Loan). ls) GoodList

pub record HeldContents (s m : Contents) : Type 0 where
  pub list : HeldList s.loans m.loans
  pub last : s.last ≡ m.last
  pub small : s.last < 4294967296

pub held-good : (s m : Contents) → HeldContents s m → GoodContents s
held-good s m h = record { list = h.list.good; last = h.small }

pub held-self : (s : Contents) → GoodContents s → HeldContents s s
held-self s g = record { list = record { good = g.list; same = same_refl s.loans; distinct = rising-distinct s.loans g.list.order }; last = refl; small = g.last }

put-kept : (l : Loan) (ls : List Loan) → GoodList ls → GoodLoan l → length ls < 256 → find l.code ls ≡ none → GoodList (put l ls) × Same (put l ls) (l ∷ ls)
put-kept l ls g gl h o =
    let n : Same (put l ls) (l ∷ ls) = put_same l ls o in
    let q : length (put l ls) ≡ suc (length ls) = n.sizes in
    (record { count = omega arith; loans = put-good l ls gl g.loans; order = put-rising l ls g.order o }, n)

pub without-kept : (c : List ℕ) (ls : List Loan) → GoodList ls → GoodList (without c ls) × (without c ls ≡ without c ls)
without-kept c ls g =
    let n : length ls ≤ 256 = g.count in
    let m : length (without c ls) ≤ length ls = fewer c ls in
    (record { count = omega arith; loans = without-good c ls g.loans; order = without-rising c ls g.order }, refl)

pub list-changes : (ch : Change) (ls m : List Loan) → GoodChange ch → HeldList ls m → Both HeldList (changed_loans ch ls) (map_changed ch m)
list-changes ch ls m g h = agrees (λ (ks : List Loan). ks) put without GoodList (λ ks k. rising-distinct ks k.order) put-kept without-kept ls m h ch g

-- the same number on both
pub with-number : (k : ℕ) → k < 4294967296 → (x y : Answer (List Loan)) → Both HeldList x y
    → Both HeldContents (x >>= λ ls. accept (record { loans = ls; last = k })) (y >>= λ m. accept (record { loans = m; last = k }))
with-number k l (accept ls) (accept m) a = record { list = a; last = refl; small = l }
with-number k l (accept ls) (refuse q) a = a
with-number k l (refuse p) (accept m) a = a
with-number k l (refuse p) (refuse q) a = a

-- `ap`, since `rw` would rewrite inside the record itself, by its fields
next-at : (ch : Change) (m : Contents) (k : ℕ) → k ≡ m.last
    → (ltb k 4294967295 otherwise numbers_spent >> (map_changed ch m.loans >>= λ ls. accept (record { loans = ls; last = suc k }))) ≡ map_numbered ch m
unfolding taking_next
next-at ch m k e = ap (λ (i : ℕ). ltb i 4294967295 otherwise numbers_spent >> (map_changed ch m.loans >>= λ ls. accept (record { loans = ls; last = suc i }))) e

pub register-changes : (ch : Change) (s m : Contents) → GoodChange ch → HeldContents s m → Both HeldContents (applied ch s) (map_numbered ch m)
unfolding taking_next
register-changes ch s m g h = subst (Both HeldContents (applied ch s)) (next-at ch m s.last h.last) (go (ltb s.last 4294967295) refl)
  where
    go : (b : Bool) → ltb s.last 4294967295 ≡ b
        → Both HeldContents (b otherwise numbers_spent >> (changed_loans ch s.loans >>= λ ls. accept (record { loans = ls; last = suc s.last })))
        (b otherwise numbers_spent >> (map_changed ch m.loans >>= λ ls. accept (record { loans = ls; last = suc s.last })))
    go true e =
        let l : s.last < 4294967295 = ltb-true s.last 4294967295 e in
        with-number (suc s.last) (omega (arith, l)) (changed_loans ch s.loans) (map_changed ch m.loans) (list-changes ch s.loans m.loans g h.list)
    go false e = refl

-- what is alike to something is good
pub both-good : (x y : Answer Contents) → Both HeldContents x y → (s : Contents) → x ≡ accept s → GoodContents s
both-good (accept s) (accept m) b s' e = subst GoodContents (accept-inj e) (held-good s m b)
both-good (accept s) (refuse q) b s' e = absurd b
both-good (refuse q) y b s' e = absurd (never e)

-- a change leaves good contents
pub applied-good : (ch : Change) (s s' : Contents) → GoodChange ch → GoodContents s → applied ch s ≡ accept s' → GoodContents s'
applied-good ch s s' g h e = both-good (applied ch s) (map_numbered ch s) (register-changes ch s s g (held-self s h)) s' e

-- the search answers as the map does
pub asks-find : (c : List ℕ) (ls : List Loan) → Rising ls → asked_loans c ls ≡ holder_of (find c ls)
asks-find c ls r = ap holder_of (search-finds c ls r)

pub list-asks : (c : List ℕ) (ls m : List Loan) → HeldList ls m → asked_loans c ls ≡ map_asked c m
unfolding map_asked
list-asks c ls m h = asks-find c ls h.good.order ∙ ap holder_of (h.same.finds c)

pub register-asks : (c : List ℕ) (s m : Contents) → HeldContents s m → asked_loans c s.loans ≡ map_numbered_asked c m
register-asks c s m h = list-asks c s.loans m.loans h.list

-- ---- from the empty area

abbrev pub HoldsContents : List ℕ → Contents → Type 0
HoldsContents = InArea register HeldContents

no_number : digits 8 4 0 ≡ zeros 4
unfolding digits zeros
no_number = refl

pub no-loans : bytes_of nothing ≡ zeros 12308
unfolding bytes_of placed
no-loans =
    ap₂ (λ (a b : List ℕ). a ++ b) no-counts (ap₂ (λ (a b : List ℕ). a ++ b) (free_bytes 256) no_number ∙ zeros-more 12288 4) ∙ zeros-more 16 12292

pub nothing-held : HeldContents nothing nothing
nothing-held = held-self nothing (record { list = record { count = omega arith; loans = tt; order = tt }; last = omega arith })

pub empty-held : HoldsContents empty_register nothing
empty-held = record { contents = nothing; held = nothing-held; bytes = no-loans }

pub register-alike : (ks : List Call) (area : List ℕ) (m : Contents) → GoodCalls ks → HoldsContents area m
    → AllAlike (changed_area register) (asked_area register) map_numbered map_numbered_asked HoldsContents ks area m
register-alike ks area m g h = area-alike register GoodContents register-sound HeldContents held-good map_numbered map_numbered_asked register-changes register-asks ks area m g h
