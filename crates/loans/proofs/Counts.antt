-- The counts in front of the places: their bytes, one code more and one less, whatever the order of the loans.
use Prim.Native.Nat.{ℕ, zero, suc, ◌+◌, ◌-◌, ◌*◌, ◌≤◌, ◌<◌}
use mathlib.Core.Path.{◌≡◌, refl, sym, ◌∙◌, ap, fun_ext}
use mathlib.Core.Bool.{Bool, true, false, cond, false≢true}
use mathlib.Core.List.{List, [], ◌∷◌, ◌++◌, append_assoc}
use native.Mathlib.Decide.{ℕ_discrete}
use native.Mathlib.Nat.{mod-eq_of_lt, not-suc-le-zero, le_of_suc-le-suc}
use native.Mathlib.Omega.{arith}
use lib.ListN.{length, get_or, take, drop, set, length-append, length-set}
use lib.Seq.{take_at, drop_at, take-append-add, drop-append-add, ext_get_or, get_or-set_same, get_or-set_other}
use lib.Dec.{eqb}
use borrow.Author.Tests.{eq-eqb, ne_eqb}
use Rattle.iscc.specs.Digits.{digits, value, Below}
use Rattle.iscc.specs.Lists.{Reordered, nil, keep, swap, then}
use Rattle.iscc.proofs.Digits.{length_digits, value-digits, below_all}
use Rattle.iscc.proofs.Order.{length-reordered}
use Rattle.iscc.proofs.Table.{table, entry}
use Rattle.octets.specs.Order.{before}
use Rattle.loans.specs.Loan.{Loan, find, is_some, is_out, without}
use Rattle.loans.specs.Place.{zeros}
use Rattle.loans.specs.Order.{put}
use Rattle.loans.specs.Counts.{code_type, count_of, counts, in_pairs, counts_bytes}
use Rattle.loans.specs.Moves.{pasted, number_at, with_number, one_more, one_less}
use Rattle.loans.proofs.Loan.{Same?, same, other, same?, find-there, without-here, without-there}

-- ---- numbers in pairs of bytes

length_pairs : (ns : List ℕ) → length (in_pairs ns) ≡ 2 * length ns
unfolding in_pairs
length_pairs [] = refl
length_pairs (n ∷ ns) = let d = length_digits 8 2 n in let r = length_pairs ns in simp length-append (omega arith)

-- what starts behind the first pair
behind-pair : (n : ℕ) (bs : List ℕ) (j k : ℕ) → j ≡ 2 + k → drop j (digits 8 2 n ++ bs) ≡ drop k bs
behind-pair n bs j k e =
    let l : j ≡ length (digits 8 2 n) + k = omega (arith, length_digits 8 2 n, e) in
    ap (λ (i : ℕ). drop i (digits 8 2 n ++ bs)) l ∙ drop-append-add (digits 8 2 n) bs k

number-at : (ns : List ℕ) (i : ℕ) → Below 65536 ns → i < length ns → number_at i (in_pairs ns) ≡ get_or ns i 0
unfolding number_at in_pairs
number-at [] i k h = absurd (not-suc-le-zero h)
number-at (n ∷ ns) zero k h = ap (value 8) (take_at (digits 8 2 n) (in_pairs ns) 2 (length_digits 8 2 n)) ∙ value-digits 8 2 n ∙ mod-eq_of_lt k.0
number-at (n ∷ ns) (suc i) k h =
    ap (λ (bs : List ℕ). value 8 (take 2 bs)) (behind-pair n (in_pairs ns) (2 * suc i) (2 * i) (omega arith)) ∙ number-at ns i k.1 (le_of_suc-le-suc h)

with-number : (ns : List ℕ) (i n : ℕ) → i < length ns → with_number i n (in_pairs ns) ≡ in_pairs (set ns i n)
unfolding with_number pasted in_pairs
with-number [] i n h = absurd (not-suc-le-zero h)
with-number (m ∷ ns) zero n h =
    ap (λ (bs : List ℕ). digits 8 2 n ++ bs) (drop_at (digits 8 2 m) (in_pairs ns) (0 + length (digits 8 2 n)) (omega (arith, length_digits 8 2 m, length_digits 8 2 n)))
with-number (m ∷ ns) (suc i) n h =
    let l : 2 * suc i ≡ length (digits 8 2 m) + 2 * i = omega (arith, length_digits 8 2 m) in
    let t : take (2 * suc i) (digits 8 2 m ++ in_pairs ns) ≡ digits 8 2 m ++ take (2 * i) (in_pairs ns) =
    ap (λ (j : ℕ). take j (digits 8 2 m ++ in_pairs ns)) l ∙ take-append-add (digits 8 2 m) (in_pairs ns) (2 * i) in
    let d : drop (2 * suc i + length (digits 8 2 n)) (digits 8 2 m ++ in_pairs ns) ≡ drop (2 * i + length (digits 8 2 n)) (in_pairs ns) =
    behind-pair m (in_pairs ns) (2 * suc i + length (digits 8 2 n)) (2 * i + length (digits 8 2 n)) (omega arith) in
    rw (t, d)
    (append_assoc (digits 8 2 m) (take (2 * i) (in_pairs ns)) (digits 8 2 n ++ drop (2 * i + length (digits 8 2 n)) (in_pairs ns))
    ∙ ap (λ (bs : List ℕ). digits 8 2 m ++ bs) (with-number ns i n (le_of_suc-le-suc h)))

-- ---- the eight numbers, as the values of one function

unfoldable tally : List Loan → ℕ → ℕ
tally ls zero = length ls
tally ls (suc m) = count_of m ls

tally-at : (ls : List Loan) (i : ℕ) → i < 8 → get_or (counts ls) i 0 ≡ tally ls i
unfolding tally
tally-at ls i h = entry (tally ls) 0 8 i h

pub length-counts : (ls : List Loan) → length (counts_bytes ls) ≡ 16
unfolding counts_bytes
length-counts ls = length_pairs (counts ls)

pub no-counts : counts_bytes [] ≡ zeros 16
unfolding counts_bytes in_pairs count_of digits zeros
no-counts = refl

count-more : (m : ℕ) (l : Loan) (ls : List Loan) → code_type l.code ≡ m → count_of m (l ∷ ls) ≡ suc (count_of m ls)
unfolding count_of
count-more m l ls e = rw (eq-eqb (code_type l.code) m e) (omega arith)

count-others : (m : ℕ) (l : Loan) (ls : List Loan) → (m ≡ code_type l.code → ⊥) → count_of m (l ∷ ls) ≡ count_of m ls
unfolding count_of
count-others m l ls d = rw (ne_eqb (code_type l.code) m (λ e. d (sym e))) (omega arith)

count_most : (m : ℕ) (ls : List Loan) → count_of m ls ≤ length ls
unfolding count_of
count_most m [] = omega arith
count_most m (l ∷ ls) = go (eqb (code_type l.code) m) (count_most m ls)
  where
    go : (b : Bool) → count_of m ls ≤ length ls → cond b 1 0 + count_of m ls ≤ suc (length ls)
    go true h = omega arith
    go false h = omega arith

tally-most : (ls : List Loan) (i : ℕ) → tally ls i ≤ length ls
unfolding tally
tally-most ls zero = omega arith
tally-most ls (suc m) = count_most m ls

pub number_is : (ls : List Loan) → length ls ≤ 256 → (i : ℕ) → i < 8 → number_at i (counts_bytes ls) ≡ get_or (counts ls) i 0
unfolding counts_bytes
number_is ls h i b = number-at (counts ls) i (below_all 65536 (counts ls) (λ k l. omega (arith, tally-at ls k l, tally-most ls k))) b

type-number : (ls : List Loan) → length ls ≤ 256 → (m : ℕ) → m ≤ 6 → number_at (suc m) (counts_bytes ls) ≡ count_of m ls
unfolding tally
type-number ls h m t = number_is ls h (suc m) (omega arith) ∙ tally-at ls (suc m) (omega arith)

-- ---- in whatever order the loans stand

reordered-self : (ls : List Loan) → Reordered ls ls
reordered-self [] = nil
reordered-self (l ∷ ls) = keep l (reordered-self ls)

put-reordered : (l : Loan) (ls : List Loan) → Reordered (put l ls) (l ∷ ls)
unfolding put
put-reordered l [] = reordered-self (l ∷ [])
put-reordered l (k ∷ ks) = go (before l.code k.code) (put-reordered l ks)
  where
    go : (b : Bool) → Reordered (put l ks) (l ∷ ks) → Reordered (cond b (l ∷ k ∷ ks) (k ∷ put l ks)) (l ∷ k ∷ ks)
    go true r = reordered-self (l ∷ k ∷ ks)
    go false r = then (keep k r) (swap k l ks)

snoc-reordered : (l : Loan) (ls : List Loan) → Reordered (ls ++ (l ∷ [])) (l ∷ ls)
snoc-reordered l [] = reordered-self (l ∷ [])
snoc-reordered l (k ∷ ks) = then (keep k (snoc-reordered l ks)) (swap k l ks)

-- the loan of a code that is out, and the others
record TakenFrom (c : List ℕ) (ls : List Loan) : Type 0 where
  loan : Loan
  code : loan.code ≡ c
  order : Reordered ls (loan ∷ without c ls)

taken-from : (c : List ℕ) (ls : List Loan) → is_out c ls ≡ true → TakenFrom c ls
unfolding find
taken-from c [] e = absurd (false≢true e)
taken-from c (l ∷ ls) e = go (same? c l.code) (taken-from c ls)
  where
    go : Same? c l.code → (is_out c ls ≡ true → TakenFrom c ls) → TakenFrom c (l ∷ ls)
    go (same p q) f = record { loan = l; code = sym p; order = rw (without-here c l ls p) (reordered-self (l ∷ ls)) }
    go (other p q) f =
        let t : TakenFrom c ls = f (ap is_some (sym (find-there c l ls p)) ∙ e) in
        record { loan = t.loan; code = t.code; order = rw (without-there c l ls p) (then (keep l t.order) (swap l t.loan (without c ls))) }

count-reordered : (m : ℕ) {ls ks : List Loan} → Reordered ls ks → count_of m ls ≡ count_of m ks
unfolding count_of
count-reordered m nil = refl
count-reordered m (keep l r) = rw (count-reordered m r)
count-reordered m (swap k l ls) = omega arith
count-reordered m (then r q) = count-reordered m r ∙ count-reordered m q

tally-reordered : {ls ks : List Loan} → Reordered ls ks → (i : ℕ) → tally ls i ≡ tally ks i
unfolding tally
tally-reordered r zero = length-reordered r
tally-reordered r (suc m) = count-reordered m r

counts-reordered : (ls ks : List Loan) → Reordered ls ks → counts_bytes ls ≡ counts_bytes ks
unfolding counts_bytes tally
counts-reordered ls ks r = ap (λ (f : ℕ → ℕ). in_pairs (table f 0 0 8)) (fun_ext (tally-reordered r))

pub counts-put : (l : Loan) (ls : List Loan) → counts_bytes (put l ls) ≡ counts_bytes (l ∷ ls)
counts-put l ls = counts-reordered (put l ls) (l ∷ ls) (put-reordered l ls)

pub counts-snoc : (l : Loan) (ls : List Loan) → counts_bytes (ls ++ (l ∷ [])) ≡ counts_bytes (l ∷ ls)
counts-snoc l ls = counts-reordered (ls ++ (l ∷ [])) (l ∷ ls) (snoc-reordered l ls)

-- ---- one more and one less: the first number and one main type's become those of other loans

length-table : (f : ℕ → ℕ) (i n : ℕ) → length (table f 0 i n) ≡ n
length-table f i zero = refl
length-table f i (suc n) = ap suc (length-table f (suc i) n)

-- a table whose function changes at m alone
table-set : (n m : ℕ) (f g : ℕ → ℕ) → m < n → ((k : ℕ) → (k ≡ m → ⊥) → f k ≡ g k) → set (table f 0 0 n) m (g m) ≡ table g 0 0 n
table-set n m f g h e =
    ext_get_or 0 (set (table f 0 0 n) m (g m)) (table g 0 0 n) (sizes ∙ sym (length-table g 0 n)) (λ i b. at i (omega (arith, b, sizes)))
  where
    sizes : length (set (table f 0 0 n) m (g m)) ≡ n
    sizes = length-set (table f 0 0 n) m (g m) ∙ length-table f 0 n

    at : (i : ℕ) → i < n → get_or (set (table f 0 0 n) m (g m)) i 0 ≡ get_or (table g 0 0 n) i 0
    at i b =
        elim (ℕ_discrete i m) [
          | yes p ↦ rw p (get_or-set_same (table f 0 0 n) m (g m) 0 (omega (arith, length-table f 0 n, h)) ∙ sym (entry g 0 n m h))
          | no d ↦ get_or-set_other (table f 0 0 n) m i (g m) 0 d ∙ entry f 0 n i b ∙ e i d ∙ sym (entry g 0 n i b)
        ]

module _ (ls ks : List Loan) (m : ℕ) (h : m ≤ 6) (others : (k : ℕ) → (k ≡ m → ⊥) → count_of k ls ≡ count_of k ks) where
  both-set : with_number (suc m) (count_of m ks) (with_number 0 (length ks) (counts_bytes ls)) ≡ counts_bytes ks
  unfolding counts_bytes
  both-set =
      rw (
        with-number (counts ls) 0 (length ks) (omega arith),
        with-number (length ks ∷ table (λ k. count_of k ls) 0 0 7) (suc m) (count_of m ks) (omega arith),
        table-set 7 m (λ k. count_of k ls) (λ k. count_of k ks) (omega arith) others,
      )

pub one_more-is : (l : Loan) (ls : List Loan) → code_type l.code ≤ 6 → length ls ≤ 256 → one_more (code_type l.code) (counts_bytes ls) ≡ counts_bytes (l ∷ ls)
unfolding one_more
one_more-is l ls t h =
    let m : ℕ = code_type l.code in
    let a : suc (number_at 0 (counts_bytes ls)) ≡ length (l ∷ ls) = ap suc (number_is ls h 0 (omega arith)) in
    let b : suc (number_at (suc m) (counts_bytes ls)) ≡ count_of m (l ∷ ls) = ap suc (type-number ls h m t) ∙ sym (count-more m l ls refl) in
    rw (a, b) (both-set ls (l ∷ ls) m t (λ k d. sym (count-others k l ls d)))

-- where a code is out, its loan is among those that are counted
module _ (c : List ℕ) (ls : List Loan) (o : is_out c ls ≡ true) where
  taken : TakenFrom c ls
  taken = taken-from c ls o

  type-taken : code_type taken.loan.code ≡ code_type c
  type-taken = ap code_type taken.code

  size-taken : length ls ≡ suc (length (without c ls))
  size-taken = length-reordered taken.order

  count-taken : count_of (code_type c) ls ≡ suc (count_of (code_type c) (without c ls))
  count-taken = count-reordered (code_type c) taken.order ∙ count-more (code_type c) taken.loan (without c ls) type-taken

  module _ (t : code_type c ≤ 6) (h : length ls ≤ 256) where
    first : number_at 0 (counts_bytes ls) ≡ suc (length (without c ls))
    first = number_is ls h 0 (omega arith) ∙ size-taken

    own : number_at (suc (code_type c)) (counts_bytes ls) ≡ suc (count_of (code_type c) (without c ls))
    own = type-number ls h (code_type c) t ∙ count-taken

    pub one_less-is : one_less (code_type c) (counts_bytes ls) ≡ counts_bytes (without c ls)
    unfolding one_less
    one_less-is =
        let a : number_at 0 (counts_bytes ls) - 1 ≡ length (without c ls) = omega (arith, first) in
        let b : number_at (suc (code_type c)) (counts_bytes ls) - 1 ≡ count_of (code_type c) (without c ls) = omega (arith, own) in
        rw (a, b)
        (both-set ls (without c ls) (code_type c) t
        (λ k d. count-reordered k taken.order ∙ count-others k taken.loan (without c ls) (λ e. d (e ∙ type-taken))))

    pub number-some : (0 < number_at 0 (counts_bytes ls)) × (0 < number_at (suc (code_type c)) (counts_bytes ls))
    number-some = (omega (arith, first), omega (arith, own))
