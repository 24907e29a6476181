-- What is promised of the register's order and of a question's looks holds.
use Prim.Native.Nat.{ℕ, suc, ◌+◌, ◌-◌, ◌*◌, ◌≤◌, ◌<◌}
use mathlib.Core.Path.{◌≡◌, refl, sym, ◌∙◌, ap, ap₂, subst}
use mathlib.Core.Bool.{Bool, true, false, not, false≢true, true≢false}
use mathlib.Core.Option.{some}
use mathlib.Core.List.{List, ◌++◌}
use native.Mathlib.Omega.{arith}
use lib.ListN.{length, get_or, take, drop}
use lib.Seq.{drop_at}
use lib.Dec.{ltb}
use borrow.Author.Tests.{ltb-true, not-true}
use Rattle.iscc.specs.Refusals.{already_out, all_out, not_out, not_register}
use Rattle.iscc.specs.Answer.{Answer, accept, refuse, ◌>>=◌, ◌>>◌, ◌otherwise◌}
use Rattle.iscc.specs.Digits.{digits, Below}
use Rattle.iscc.specs.Doors.{code_bytes}
use Rattle.iscc.proofs.Answer.{passed, answered, accept-inj, rest-accepts}
use Rattle.loans.specs.Loan.{Loan, loan_of, is_out, without}
use Rattle.loans.specs.Map.{issue_code, return_code, change_with}
use Rattle.loans.specs.Calls.{issued, returned}
use Rattle.loans.specs.Place.{zeros, place_bytes, places_bytes}
use Rattle.loans.specs.Order.{placed, put}
use Rattle.loans.specs.Halving.{searched, looks, loan_in}
use Rattle.loans.specs.Register.{changed_area}
use Rattle.loans.specs.Numbered.{Contents}
use Rattle.loans.specs.Contents.{counts_part, places_part, contents_of, is_register, bytes_of, changed_loans, applied, register, reported, issue_text, return_text, looks_text}
use Rattle.loans.specs.Counts.{code_type, counts_bytes}
use Rattle.loans.specs.Good.{IsCode, GoodList}
use Rattle.loans.specs.Moves.{put_in, taken_out, one_more, one_less}
use Rattle.loans.specs.OrderPromises.{code_at, InOrder, IssueMoves, ReturnMoves, LooksCounted, SearchFinds, RegisterInOrder}
use Rattle.loans.proofs.Loan.{code_in}
use Rattle.loans.proofs.Numbered.{taken}
use Rattle.loans.proofs.Order.{rising-at, rising-distinct}
use Rattle.loans.proofs.OrderedPlaces.{loans-few, byte-used, code-there}
use Rattle.loans.proofs.Halving.{Around, Ends, there, between, search-ends, search-out, put-between, without_at, nine-looks, search-bound}
use Rattle.loans.proofs.Contents.{register-known, contents-rising, register-sound, behind-is}
use Rattle.loans.proofs.Counts.{one_more-is, counts-put, one_less-is}
use Rattle.loans.proofs.CodeType.{code-type}
use Rattle.loans.proofs.Moves.{used_bytes, used-length, placed-bytes, good-at, issue-bytes, return-bytes}

module _ (area : List ℕ) (v : is_register area ≡ true) where
  abbrev ls : List Loan
  ls = (contents_of area).loans

  abbrev next : List ℕ
  next = digits 8 4 (suc (contents_of area).last)

  abbrev places : List ℕ
  places = places_part area

  -- ---- one place

  code_is : (j : ℕ) → j < length ls → code_at j places ≡ (loan_in ls j).code
  code_is j h =
      let a = register-known area v in
      let k : 48 * j + 1 + get_or places (48 * j) 0 - (48 * j + 1) ≡ get_or places (48 * j) 0 = omega arith in
      ap (λ (n : ℕ). take n (drop (48 * j + 1) places)) (sym k) ∙ code-there places a.ordered a.places_size j h (get_or places (48 * j) 0) refl

  used-byte : (j : ℕ) → j < length ls → 0 < get_or places (48 * j) 0
  used-byte j h = let a = register-known area v in let n = byte-used places a.ordered a.places_size j h in omega (arith, n)

  -- ---- the search

  pub found-there : (c : List ℕ) → SearchFinds c area
  found-there c = record { out = search-out c ls (contents-rising area v); there = λ e. go e (search-ends c ls (contents-rising area v)) }
    where
      go : (searched c ls).found ≡ true → Ends c ls (searched c ls) → (loan_in ls (searched c ls).place).code ≡ c
      go e (there f h q) = q
      go e (between f a) = absurd (true≢false (sym e ∙ f))

  -- a code that is not out, and one that is
  pub not_found : (c : List ℕ) → is_out c ls ≡ false → Around c ls (searched c ls).place (searched c ls).place
  not_found c o = go (search-ends c ls (contents-rising area v))
    where
      go : Ends c ls (searched c ls) → Around c ls (searched c ls).place (searched c ls).place
      go (there f h q) = absurd (true≢false (sym f ∙ search-out c ls (contents-rising area v) ∙ o))
      go (between f a) = a

  pub is_found : (c : List ℕ) → is_out c ls ≡ true → ((searched c ls).place < length ls) × ((loan_in ls (searched c ls).place).code ≡ c)
  is_found c o = go (search-ends c ls (contents-rising area v))
    where
      go : Ends c ls (searched c ls) → ((searched c ls).place < length ls) × ((loan_in ls (searched c ls).place).code ≡ c)
      go (there f h q) = (h, q)
      go (between f a) = absurd (false≢true (sym f ∙ search-out c ls (contents-rising area v) ∙ o))

  module _ (k : Below 256 area) where
    good : GoodList ls
    good = (register-sound.good area k v).list

    -- the bytes of the contents by their parts
    counted : counts_bytes ls ≡ counts_part area
    counted = sym (register-known area v).counted

    placed-again : places_bytes (placed 256 ls) ≡ places
    placed-again = sym (behind-is (contents_of area) (register-sound.good area k v)) ∙ ap places_part (register-sound.again area k v)

    -- ---- the order

    rest-free : drop (48 * length ls) places ≡ zeros (48 * (256 - length ls))
    rest-free =
        ap (drop (48 * length ls)) (sym placed-again ∙ placed-bytes 256 ls (loans-few places))
        ∙ drop_at (used_bytes ls) (zeros (48 * (256 - length ls))) (48 * length ls) (used-length ls good.loans)

    pub in_order-is : InOrder places (length ls)
    in_order-is =
        record {
          most = loans-few places;
          first = used-byte;
          behind = rest-free;
          held = code_is;
          rising = λ i j h m. rw (code_is i (omega (arith, h, m)), code_is j m) (rising-at ls i j (contents-rising area v) h m);
        }

    -- ---- an issue and a return

    pub issue-moved : (c : List ℕ) (b : ℕ) (place : ℕ) → IsCode c → Around c ls place place → length ls < 256
        → bytes_of (record { loans = put (loan_of c b) ls; last = suc (contents_of area).last })
        ≡ one_more (code_type c) (counts_part area) ++ (put_in (48 * place) (48 * length ls) (place_bytes (some (loan_of c b))) places ++ next)
    unfolding bytes_of
    issue-moved c b place i a m =
        let n : counts_bytes (put (loan_of c b) ls) ≡ one_more (code_type c) (counts_part area) =
        counts-put (loan_of c b) ls ∙ sym (one_more-is (loan_of c b) ls (code-type c i).0 (loans-few places)) ∙ ap (one_more (code_type c)) counted in
        let p : places_bytes (placed 256 (put (loan_of c b) ls)) ≡ put_in (48 * place) (48 * length ls) (place_bytes (some (loan_of c b))) places =
        ap (λ (ks : List Loan). places_bytes (placed 256 ks)) (put-between (loan_of c b) ls place a)
        ∙ issue-bytes ls good.loans place (loan_of c b) i.most a.within m
        ∙ ap (put_in (48 * place) (48 * length ls) (place_bytes (some (loan_of c b)))) placed-again in
        ap₂ (λ (x y : List ℕ). x ++ (y ++ next)) n p

    -- a code that is out is a code
    pub out-code : (c : List ℕ) (place : ℕ) → place < length ls → (loan_in ls place).code ≡ c → IsCode c
    out-code c place h e = subst IsCode e (good-at ls place good.loans h).code

    pub return-moved : (c : List ℕ) (place : ℕ) → place < length ls → (loan_in ls place).code ≡ c → is_out c ls ≡ true
        → bytes_of (record { loans = without c ls; last = suc (contents_of area).last })
        ≡ one_less (code_type c) (counts_part area) ++ (taken_out (48 * place) 48 (48 * length ls) places ++ next)
    unfolding bytes_of
    return-moved c place h e o =
        let n : counts_bytes (without c ls) ≡ one_less (code_type c) (counts_part area) =
        sym (one_less-is c ls o (code-type c (out-code c place h e)).0 (loans-few places)) ∙ ap (one_less (code_type c)) counted in
        let p : places_bytes (placed 256 (without c ls)) ≡ taken_out (48 * place) 48 (48 * length ls) places =
        ap (λ (ks : List Loan). places_bytes (placed 256 ks)) (without_at c ls place (contents-rising area v) h e)
        ∙ return-bytes ls good.loans place h (loans-few places) ∙ ap (taken_out (48 * place) 48 (48 * length ls)) placed-again in
        ap₂ (λ (x y : List ℕ). x ++ (y ++ next)) n p

    issue-at : (c : List ℕ) (b : ℕ) → IsCode c → is_out c ls ≡ false → length ls < 256
        → IssueMoves c b area (bytes_of (record { loans = put (loan_of c b) ls; last = suc (contents_of area).last })) (length ls)
    issue-at c b i o m =
        let a = not_found c o in
        record {
          place = (searched c ls).place;
          within = a.within;
          room = m;
          earlier = λ j h. rw (code_is j (omega (arith, h, a.within))) (a.earlier j h);
          later = λ j h n. rw (code_is j n) (a.later j h n);
          bytes = issue-moved c b (searched c ls).place i a m;
        }

    return-at : (c : List ℕ) → is_out c ls ≡ true → ReturnMoves c area (bytes_of (record { loans = without c ls; last = suc (contents_of area).last })) (length ls)
    return-at c o =
        let f = is_found c o in
        record {
          place = (searched c ls).place;
          within = f.0;
          code = code_is (searched c ls).place f.0 ∙ f.1;
          bytes = return-moved c (searched c ls).place f.0 f.1 o;
        }

-- ---- by texts

-- the area after a change that took a number
after-change : (area area' : List ℕ) (s' : Contents) (ls : List Loan) → s'.last ≡ suc (contents_of area).last → s'.loans ≡ ls
    → accept (bytes_of s') ≡ accept area' → bytes_of (record { loans = ls; last = suc (contents_of area).last }) ≡ area'
after-change area area' s' ls n e w = ap₂ (λ (k : List Loan) (l : ℕ). bytes_of (record { loans = k; last = l })) (sym e) (sym n) ∙ accept-inj w

issue-moves : (t c : List ℕ) (b : ℕ) (area area' : List ℕ) → Below 256 area → code_bytes t ≡ accept c → issue_text t b area ≡ accept area'
    → IssueMoves c b area area' (length (contents_of area).loans)
unfolding issued changed_area change_with
issue-moves t c b area area' k f e =
    let ls : List Loan = (contents_of area).loans in
    let p = passed (is_register area) not_register _ (rest-accepts (code_bytes t) (λ d. changed_area register (issue_code d b) area) f e) in
    let a = answered (applied (issue_code c b) (contents_of area)) (λ s. accept (bytes_of s)) p.1 in
    let n = taken changed_loans (issue_code c b) (contents_of area) a.0 a.1 in
    let q = passed (not (is_out c ls)) already_out _ n.loans in
    let w = passed (ltb (length ls) 256) all_out _ q.1 in
    subst (λ (d : List ℕ). IssueMoves c b area d (length ls)) (after-change area area' a.0 _ n.last (sym (accept-inj w.1)) a.2)
    (issue-at area p.0 k c b (code_in t c f) (not-true (is_out c ls) q.0) (ltb-true (length ls) 256 w.0))

return-moves : (t c area area' : List ℕ) → Below 256 area → code_bytes t ≡ accept c → return_text t area ≡ accept area'
    → ReturnMoves c area area' (length (contents_of area).loans)
unfolding returned changed_area change_with
return-moves t c area area' k f e =
    let ls : List Loan = (contents_of area).loans in
    let p = passed (is_register area) not_register _ (rest-accepts (code_bytes t) (λ d. changed_area register (return_code d) area) f e) in
    let a = answered (applied (return_code c) (contents_of area)) (λ s. accept (bytes_of s)) p.1 in
    let n = taken changed_loans (return_code c) (contents_of area) a.0 a.1 in
    let q = passed (is_out c ls) not_out _ n.loans in
    subst (λ (d : List ℕ). ReturnMoves c area d (length ls)) (after-change area area' a.0 _ n.last (sym (accept-inj q.1)) a.2)
    (return-at area p.0 k c q.0)

-- ---- the looks

looks-counted : LooksCounted
unfolding looks_text
looks-counted =
    record {
      steps = λ t c area e v. rw (e, v);
      bound = search-bound;
      nine = λ t area. nine (code_bytes t) area (is_register area);
      no_text = λ t area q e. rw e;
      no_register = λ t area v. rw v (none (code_bytes t) area);
    }
  where
    nine : (x : Answer (List ℕ)) (area : List ℕ) (v : Bool) → reported (x >>= λ c. v otherwise not_register >> accept (looks c (contents_of area).loans)) ≤ 9
    nine (accept c) area true = nine-looks c (contents_of area).loans (loans-few (places_part area))
    nine (accept c) area false = omega arith
    nine (refuse q) area v = omega arith

    none : (x : Answer (List ℕ)) (area : List ℕ) → reported (x >>= λ c. false otherwise not_register >> accept (looks c (contents_of area).loans)) ≡ 0
    none (accept c) area = refl
    none (refuse q) area = refl

pub register-in-order : RegisterInOrder
register-in-order =
    record {
      order = λ area k v. in_order-is area v k;
      apart = λ area v. rising-distinct (contents_of area).loans (contents-rising area v);
      makes_room = issue-moves;
      closes_gap = return-moves;
      finds = λ c area v. found-there area v c;
      looks = looks-counted;
    }
