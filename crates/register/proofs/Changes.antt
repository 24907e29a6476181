-- A question, an issue and a return by their branches: whether a number is left, where the search ended, and what was written.
use Rattle.std.specs.Prelude.{Ok, Err}
use Prim.Native.Nat.{ℕ, suc, ◌+◌, ◌*◌, ◌≤◌, ◌<◌}
use mathlib.Core.Path.{◌≡◌, refl, sym, ◌∙◌, ap, ap₂, subst}
use mathlib.Core.Bool.{Bool, true, false, cond, true≢false}
use mathlib.Core.Option.{none, some}
use Rattle.std.specs.Prelude.{Option, Some, None, Ok, Err}
use mathlib.Core.List.{List, ◌++◌}
use native.Mathlib.Omega.{arith}
use lib.ListN.{length, take, drop}
use lib.Dec.{ltb}
use borrow.Author.Tests.{lt-ltb, ltb-true, le-ltb}
use Rattle.iscc.specs.Answer.{Answer, accept, refuse, ◌>>=◌}
use Rattle.iscc.specs.Digits.{Below, digits, value}
use Rattle.iscc.specs.Refusals.{Refusal, already_out, all_out, not_out, numbers_spent}
use Rattle.loans.specs.Loan.{Loan, loan_of, one_code, is_out, without}
use Rattle.loans.specs.Map.{Change, issue_code, return_code, change_with, holder_of}
use Rattle.loans.specs.Place.{place_bytes}
use Rattle.loans.specs.Order.{are_ordered, put}
use Rattle.loans.specs.Halving.{loan_in, searched, looks}
use Rattle.loans.specs.Calls.{afterwards}
use Rattle.loans.specs.Register.{changed_area, asked_area}
use Rattle.loans.specs.Numbered.{Contents, taking_next}
use Rattle.loans.specs.Contents.{counts_part, places_part, number_part, contents_of, is_register, bytes_of, changed_loans, applied, register}
use Rattle.loans.specs.Counts.{code_type}
use Rattle.loans.specs.Good.{IsCode, GoodChange}
use Rattle.loans.specs.Moves.{put_in, taken_out, number_at, one_more, one_less}
use Rattle.loans.proofs.Loan.{is_code}
use Rattle.loans.proofs.Counts.{number-some}
use Rattle.loans.proofs.CodeType.{code-type}
use Rattle.loans.proofs.OrderedPlaces.{loans-few, borrower-is}
use Rattle.loans.proofs.Halving.{Around, search-out}
use Rattle.loans.proofs.Numbered.{number-left}
use Rattle.loans.proofs.Contents.{register-known, register-sound, applied-good, contents-rising}
use Rattle.loans.proofs.OrderPromises.{not_found, is_found, out-code, issue-moved, return-moved}
use Rattle.register.specs.Representation.{Changed}
use Rattle.register.specs.Representation.{Holder}
use Rattle.places.specs.declared.search.Found.{Found}
use Rattle.places.specs.Representation.{found_as}
use Rattle.places.proofs.Searching.{ended-found, ended-nowhere}
use Rattle.register.specs.Next.{next_number}
use Rattle.register.specs.Representation.{holder_as, asked_as, changed_as}
use Rattle.register.proofs.Areas.{number_behind}

-- what an issue or a return tells of its definition's answer, and what it leaves of the area
abbrev pub Told : Answer (List ℕ) → List ℕ → Changed → List ℕ → Type 0
Told x area y d = (y ≡ changed_as x) × (d ≡ afterwards area x)

pub size-known : (area : List ℕ) → is_register area ≡ true → length area ≡ 12308
size-known area v = (register-known area v).size

pub used-few : (area : List ℕ) (u : ℕ) → u ≡ length (contents_of area).loans → u ≤ 256
used-few area u n = omega (arith, n, loans-few (places_part area))

pub room-left : (area : List ℕ) (u : ℕ) → u ≡ length (contents_of area).loans → (u ≡ 256 → ⊥) → u < 256
room-left area u n h = omega (arith, h, used-few area u n)

-- ---- a change where no number is left, and where one is

abbrev is_left : Option ℕ → Bool
is_left None = false
is_left (Some n) = true

abbrev number_in : Option ℕ → ℕ
number_in None = 0
number_in (Some n) = n

module _ (area : List ℕ) (v : is_register area ≡ true) (o : Option ℕ) (h : o ≡ next_number (contents_of area).last) where
  next-is : (b : Bool) → ltb (contents_of area).last 4294967295 ≡ b → o ≡ cond b (Some (suc (contents_of area).last)) None
  unfolding next_number
  next-is b e = h ∙ ap (λ (x : Bool). cond x (Some (suc (contents_of area).last)) None) e

  pub spent : (ch : Change) → o ≡ None → Told (changed_area register ch area) area (Err numbers_spent) area
  unfolding changed_area taking_next
  spent ch t = go (ltb (contents_of area).last 4294967295) refl
    where
      go : (b : Bool) → ltb (contents_of area).last 4294967295 ≡ b → Told (changed_area register ch area) area (Err numbers_spent) area
      go true e = absurd (omega (arith, ap number_in (sym t ∙ next-is true e)))
      go false e = rw (v, e) (refl, refl)

  -- contents with the next number
  abbrev next : List Loan → Contents
  next ks = record { loans = ks; last = suc (contents_of area).last }

  module _ (l : ℕ) (w : o ≡ Some l) (k : Below 256 area) where
    left : ((contents_of area).last < 4294967295) × (l ≡ suc (contents_of area).last)
    left = go (ltb (contents_of area).last 4294967295) refl
      where
        go : (b : Bool) → ltb (contents_of area).last 4294967295 ≡ b → ((contents_of area).last < 4294967295) × (l ≡ suc (contents_of area).last)
        go true e = (ltb-true (contents_of area).last 4294967295 e, ap number_in (sym w ∙ next-is true e))
        go false e = absurd (true≢false (ap is_left (sym w ∙ next-is false e)))

    taking : (ch : Change) → applied ch (contents_of area) ≡ (changed_loans ch (contents_of area).loans >>= λ ks. accept (next ks))
    taking ch = number-left changed_loans ch (contents_of area) left.0

    not-changed : (ch : Change) (q : Refusal) → changed_loans ch (contents_of area).loans ≡ refuse q
        → Told (changed_area register ch area) area (Err q) area
    unfolding changed_area
    not-changed ch q e = rw (v, taking ch, e) (refl, refl)

    -- the number that is told is the one that stands there now
    changed-done : (ch : Change) (ks : List Loan) (d : List ℕ) → GoodChange ch → changed_loans ch (contents_of area).loans ≡ accept ks
        → d ≡ bytes_of (next ks) → Told (changed_area register ch area) area (Ok l) d
    unfolding changed_area
    changed-done ch ks d g e q =
        let t : applied ch (contents_of area) ≡ accept (next ks) = taking ch ∙ ap (λ (x : Answer (List Loan)). x >>= λ js. accept (next js)) e in
        let b : contents_of (bytes_of (next ks)) ≡ next ks = register-sound.back (next ks) (applied-good ch (contents_of area) (next ks) g (register-sound.good area k v) t) in
        let n : l ≡ (contents_of (bytes_of (next ks))).last = left.1 ∙ sym (ap (λ (s : Contents). s.last) b) in
        rw (v, t) (ap (λ (j : ℕ). Ok j) n, q)

module _ (c area : List ℕ) (v : is_register area ≡ true) (f : Found) (e : f ≡ found_as (searched c (contents_of area).loans)) (p : ℕ) where
  abbrev ls : List Loan
  ls = (contents_of area).loans

  is-out : is_out c ls ≡ (searched c ls).found
  is-out = sym (search-out c ls (contents-rising area v))

  looks-are : f.looks ≡ looks c ls
  looks-are = ap (λ (x : Found). x.looks) e

  module _ (y : f.place ≡ Ok p) where
    there : ((searched c ls).found ≡ true) × (p ≡ (searched c ls).place)
    there = ended-found (searched c ls) f p e y

    out : is_out c ls ≡ true
    out = is-out ∙ there.0

    found-code : (p < length ls) × ((loan_in ls p).code ≡ c)
    found-code = let w = is_found area v c out in (omega (arith, w.0, there.1), ap (λ (k : ℕ). (loan_in ls k).code) there.1 ∙ w.1)

    pub found-few : p < 256
    found-few = omega (arith, found-code.0, loans-few (places_part area))

    -- what a return of it asks for: a code that is out is counted
    pub take-known : Below 256 area → (u : ℕ) → u ≡ length (contents_of area).loans
        → (one_code c ≡ true) × (p < u) × (u ≤ 256) × (0 < number_at 0 (counts_part area)) × (0 < number_at (suc (code_type c)) (counts_part area))
    take-known k u n =
        let i : IsCode c = out-code area v k c p found-code.0 found-code.1 in
        let s = number-some c ls out (code-type c i).0 (loans-few (places_part area)) in
        let w = subst (λ (bs : List ℕ). (0 < number_at 0 bs) × (0 < number_at (suc (code_type c)) bs)) (sym (register-known area v).counted) s in
        (i.one, omega (arith, n, found-code.0), used-few area u n, w.0, w.1)

  module _ (y : f.place ≡ Err p) where
    nowhere : ((searched c ls).found ≡ false) × (p ≡ (searched c ls).place)
    nowhere = ended-nowhere (searched c ls) f p e y

    not-out : is_out c ls ≡ false
    not-out = is-out ∙ nowhere.0

    around : Around c ls p p
    around = subst (λ (k : ℕ). Around c ls k k) (sym nowhere.1) (not_found area v c not-out)

    pub room_within : (u : ℕ) → u ≡ length (contents_of area).loans → p ≤ u
    room_within u n = omega (arith, n, around.within)

  -- ---- a question

  asked_by : (x : Bool) → (searched c ls).found ≡ x → asked_area register c area ≡ holder_of (cond x (some (loan_in ls (searched c ls).place).borrower) none)
  unfolding asked_area
  asked_by x q = rw v (ap (λ (z : Bool). holder_of (cond z (some (loan_in ls (searched c ls).place).borrower) none)) q)

  asked_is : (h : Holder) → h ≡ holder_as (asked_area register c area) → record { holder = h; looks = f.looks } ≡ asked_as (asked_area register c area) (looks c ls)
  asked_is h q = ap₂ (λ (x : Holder) (k : ℕ). record { holder = x; looks = k }) q looks-are

  pub asked-none : f.place ≡ Err p → record { holder = Err not_out; looks = f.looks } ≡ asked_as (asked_area register c area) (looks c ls)
  asked-none y = asked_is (Err not_out) (sym (ap holder_as (asked_by false (nowhere y).0)))

  pub asked-yes : f.place ≡ Ok p → (b : ℕ) (bs : List ℕ) → bs ≡ places_part area → b ≡ value 8 (take 4 (drop (48 * p + 44) bs))
      → record { holder = Ok b; looks = f.looks } ≡ asked_as (asked_area register c area) (looks c ls)
  asked-yes y b bs a w =
      let r = register-known area v in
      let q : (loan_in ls p).borrower ≡ b =
      borrower-is (places_part area) r.ordered r.places_size p (found-code y).0 ∙ ap (λ (xs : List ℕ). value 8 (take 4 (drop (48 * p + 44) xs))) (sym a) ∙ sym w in
      let k : (loan_in ls (searched c ls).place).borrower ≡ b = ap (λ (j : ℕ). (loan_in ls j).borrower) (sym (there y).1) ∙ q in
      asked_is (Ok b) (sym (ap holder_as (asked_by true (there y).0) ∙ ap (λ (x : ℕ). Ok x) k))

  module _ (o : Option ℕ) (h : o ≡ next_number (contents_of area).last) (l : ℕ) (w : o ≡ Some l) (k : Below 256 area) where
    -- ---- a return

    abbrev Returned : Changed → List ℕ → Type 0
    Returned = Told (changed_area register (return_code c) area) area

    pub return-none : f.place ≡ Err p → Returned (Err not_out) area
    unfolding change_with
    return-none y = not-changed area v o h l w k (return_code c) not_out (rw (not-out y))

    pub return-done : f.place ≡ Ok p → (u : ℕ) → u ≡ length (contents_of area).loans → (a d : List ℕ) → length a ≡ length area
        → a ≡ one_less (code_type c) (counts_part area) ++ (taken_out (48 * p) 48 (48 * u) (places_part area) ++ number_part area)
        → d ≡ take 12304 a ++ digits 8 4 l → Returned (Ok l) d
    unfolding change_with
    return-done y u n a d s g q =
        let t : is_out c ls ≡ true = out y in
        changed-done area v o h l w k (return_code c) (without c ls) d (out-code area v k c p (found-code y).0 (found-code y).1) (rw t)
        (number_behind area a (one_less (code_type c) (counts_part area)) (taken_out (48 * p) 48 (48 * u) (places_part area)) d l (size-known area v) s g q
        ∙ ap₂ (λ (x j : ℕ). one_less (code_type c) (counts_part area) ++ (taken_out (48 * p) 48 (48 * x) (places_part area) ++ digits 8 4 j)) n (left area v o h l w k).1
        ∙ sym (return-moved area v k c p (found-code y).0 (found-code y).1 t))

    -- ---- an issue

    module _ (b : ℕ) where
      abbrev Issued : Changed → List ℕ → Type 0
      Issued = Told (changed_area register (issue_code c b) area) area

      pub issue-out : f.place ≡ Ok p → Issued (Err already_out) area
      unfolding change_with
      issue-out y = not-changed area v o h l w k (issue_code c b) already_out (rw (out y))

      module _ (y : f.place ≡ Err p) (u : ℕ) (n : u ≡ length (contents_of area).loans) where
        pub issue-full : u ≡ 256 → Issued (Err all_out) area
        unfolding change_with
        issue-full m = not-changed area v o h l w k (issue_code c b) all_out (rw (not-out y, le-ltb (length ls) 256 (omega (arith, n, m))))

        pub issue-done : (u ≡ 256 → ⊥) → Below 256 c → b < 4294967296 → one_code c ≡ true → (a d : List ℕ) → length a ≡ length area
            → a ≡ one_more (code_type c) (counts_part area) ++ (put_in (48 * p) (48 * u) (place_bytes (some (loan_of c b))) (places_part area) ++ number_part area)
            → d ≡ take 12304 a ++ digits 8 4 l → Issued (Ok l) d
        unfolding change_with
        issue-done m cb small one a d s g q =
            let i : IsCode c = is_code c cb one in
            let j : length ls < 256 = omega (arith, n, m, loans-few (places_part area)) in
            changed-done area v o h l w k (issue_code c b) (put (loan_of c b) ls) d (record { code = i; borrower = small }) (rw (not-out y, lt-ltb (length ls) 256 j))
            (number_behind area a (one_more (code_type c) (counts_part area)) (put_in (48 * p) (48 * u) (place_bytes (some (loan_of c b))) (places_part area)) d l
            (size-known area v) s g q
            ∙ ap₂ (λ (x m : ℕ). one_more (code_type c) (counts_part area) ++ (put_in (48 * p) (48 * x) (place_bytes (some (loan_of c b))) (places_part area) ++ digits 8 4 m)) n (left area v o h l w k).1
            ∙ sym (issue-moved area v k c b p i (around y) j))
