-- Promotion: what the walk over two registers' loans tells, and its steps; replay from an empty register; 23 and 15 before it.
use Prim.Native.Nat.{ℕ, suc, ◌≤◌, ◌<◌}
use mathlib.Core.Path.{◌≡◌, refl, sym, ◌∙◌, ap, ap₂, subst}
use mathlib.Core.Bool.{true, false}
use mathlib.Core.Option.{Option, none, some, none-ne-some, some-injective}
use mathlib.Core.List.{List, [], ◌∷◌}
use native.Mathlib.Decide.{ℕ_discrete}
use lib.ListN.{length, drop, drop_of_length-le}
use lib.Seq.{drop-cons}
use borrow.Author.Tests.{eq-eqb, ne_eqb, le-leb, lt-leb}
use Rattle.iscc.specs.Refusals.{area_too_short, not_register}
use Rattle.iscc.specs.Answer.{accept, refuse}
use Rattle.iscc.specs.Digits.{Below}
use Rattle.octets.specs.Order.{before}
use Rattle.octets.proofs.Total.{Compared, lower, equal, higher, compared, before-not}
use Rattle.loans.specs.Loan.{Loan, loan_of, find}
use Rattle.loans.specs.Halving.{loan_in}
use Rattle.loans.specs.Numbered.{nothing}
use Rattle.loans.specs.Contents.{is_register, contents_of, bytes_of, register, empty_register}
use Rattle.loans.specs.Good.{AllBehind, Rising, GoodContents}
use Rattle.loans.specs.Replay.{in_bytes, replayed}
use Rattle.loans.specs.PendingLog.{apply_record, replay_log}
use Rattle.loans.specs.Promotion.{difference, from_empty, trial_replay}
use Rattle.loans.specs.PromotionPromises.{SameLoans, Least}
use Rattle.loans.proofs.Loan.{Same?, same, other, same?, find-here, find-there}
use Rattle.loans.proofs.Map.{find-cons}
use Rattle.loans.proofs.Order.{behind-trans, find-behind}
use Rattle.loans.proofs.Contents.{register-sound, register-known, held-good, nothing-held, no-loans}
use Rattle.loans.proofs.PendingLog.{replay-good}

-- ---- the least code that differs

-- c is the first code's: only one list has it, or with another borrower
module _ (l : Loan) (ls : List Loan) (r : Rising (l ∷ ls)) where
  none_before : (d : List ℕ) → before d l.code ≡ true → find d (l ∷ ls) ≡ none
  none_before d b = find-behind d (l ∷ ls) (b, behind-trans d l.code ls b r.0)

  only_here : (ks : List Loan) → AllBehind l.code ks → Least l.code (l ∷ ls) ks
  only_here ks a =
      record {
        differs = λ e. none-ne-some l.borrower (sym (find-behind l.code ks a) ∙ sym e ∙ find-here l.code l ls refl);
        least = λ d b. none_before d b ∙ sym (find-behind d ks (behind-trans d l.code ks b a));
      }

least-sym : (c : List ℕ) (ls ks : List Loan) → Least c ls ks → Least c ks ls
least-sym c ls ks h = record { differs = λ e. h.differs (sym e); least = λ d b. sym (h.least d b) }

-- both start with one loan: what is behind it decides
module _ (l : Loan) (ls ks : List Loan) (a : AllBehind l.code ls) (b : AllBehind l.code ks) where
  further : (c : List ℕ) → Least c ls ks → Least c (l ∷ ls) (l ∷ ks)
  further c h = record { differs = apart (same? c l.code); least = λ d w. find-cons l ls ks d (h.least d w) }
    where
      apart : Same? c l.code → find c (l ∷ ls) ≡ find c (l ∷ ks) → ⊥
      apart (same e t) w = h.differs (rw e (find-behind l.code ls a ∙ sym (find-behind l.code ks b)))
      apart (other e t) w = h.differs (sym (find-there c l ls e) ∙ w ∙ find-there c l ks e)

-- what the walk tells: nothing where the lists are equal, and else the least code that differs
abbrev pub Told : List Loan → List Loan → Option (List ℕ) → Type 0
Told ls ks none = ls ≡ ks
Told ls ks (some c) = Rising ls → Rising ks → Least c ls ks

pub told : (ls ks : List Loan) → Told ls ks (difference ls ks)
unfolding difference
told [] [] = refl
told [] (k ∷ ks) = λ r q. least-sym k.code (k ∷ ks) [] (only_here k ks q [] tt)
told (l ∷ ls) [] = λ r q. only_here l ls r [] tt
told (l ∷ ls) (k ∷ ks) = go (same? l.code k.code) (ℕ_discrete l.borrower k.borrower) (compared l.code k.code) (told ls ks)
  where
    more : (o : Option (List ℕ)) → l ≡ k → Told ls ks o → Told (l ∷ ls) (k ∷ ks) o
    more none e h = ap₂ (λ (x : Loan) (xs : List Loan). x ∷ xs) e h
    more (some c) e h =
        subst (λ (x : Loan). Rising (l ∷ ls) → Rising (x ∷ ks) → Least c (l ∷ ls) (x ∷ ks)) e
        (λ r q. further l ls ks r.0 q.0 c (h r.1 q.1))

    go : Same? l.code k.code → Dec (l.borrower ≡ k.borrower) → Compared l.code k.code → Told ls ks (difference ls ks)
        → Told (l ∷ ls) (k ∷ ks) (difference (l ∷ ls) (k ∷ ks))
    go (same p t) (yes b) w ih = rw (t, eq-eqb l.borrower k.borrower b) (more (difference ls ks) (λ i. record { code = p i; borrower = b i }) ih)
    go (same p t) (no b) w ih =
        rw (t, ne_eqb l.borrower k.borrower b)
        (λ r q. record {
          differs = λ e. b (some-injective l.borrower k.borrower (sym (find-here l.code l ls refl) ∙ e ∙ find-here l.code k ks p));
          least = λ d w. none_before l ls r d w ∙ sym (none_before k ks q d (subst (λ (x : List ℕ). before d x ≡ true) p w));
        })
    go (other p t) b (lower w) ih = rw (t, w) (λ r q. only_here l ls r (k ∷ ks) (w, behind-trans l.code k.code ks w q.0))
    go (other p t) b (equal w) ih = absurd (p w)
    go (other p t) b (higher w) ih =
        rw (t, before-not k.code l.code w)
        (λ r q. least-sym k.code (k ∷ ks) (l ∷ ls) (only_here k ks q (l ∷ ls) (w, behind-trans k.code l.code ls w r.0)))

-- it is one code
least-one : (c d : List ℕ) (ls ks : List Loan) → Least c ls ks → Least d ls ks → c ≡ d
least-one c d ls ks h g =
    elim (compared c d) [ lower w ↦ absurd (h.differs (g.least c w)) | equal w ↦ w | higher w ↦ absurd (g.differs (h.least d w)) ]

module _ (ls ks : List Loan) where
  pub same_none : Rising ls → Rising ks → SameLoans ls ks → difference ls ks ≡ none
  same_none r q h = go (difference ls ks) (told ls ks)
    where
      go : (o : Option (List ℕ)) → Told ls ks o → o ≡ none
      go none t = refl
      go (some c) t = absurd ((t r q).differs (h c))

  pub least-some : (c : List ℕ) → Rising ls → Rising ks → Least c ls ks → difference ls ks ≡ some c
  least-some c r q h = go (difference ls ks) (told ls ks)
    where
      go : (o : Option (List ℕ)) → Told ls ks o → o ≡ some c
      go none t = absurd (h.differs (ap (find c) t))
      go (some d) t = ap some (least-one d c ls ks (t r q) h)

-- ---- one step of the walk over both lists, from i on

module _ (ls ks : List Loan) (i : ℕ) where
  from : (xs : List Loan) → i < length xs → drop i xs ≡ loan_in xs i ∷ drop (suc i) xs
  from xs h = drop-cons xs i (loan_of [] 0) h

  pub difference-both : i < length ls → i < length ks
      → difference (drop i ls) (drop i ks) ≡ difference (loan_in ls i ∷ drop (suc i) ls) (loan_in ks i ∷ drop (suc i) ks)
  difference-both h g = ap₂ difference (from ls h) (from ks g)

  pub difference-only-first : i < length ls → length ks ≤ i → difference (drop i ls) (drop i ks) ≡ some (loan_in ls i).code
  unfolding difference
  difference-only-first h g = ap₂ difference (from ls h) (drop_of_length-le ks {i = i} g)

  pub difference-only-second : length ls ≤ i → i < length ks → difference (drop i ls) (drop i ks) ≡ some (loan_in ks i).code
  unfolding difference
  difference-only-second h g = ap₂ difference (drop_of_length-le ls {i = i} h) (from ks g)

  pub difference-end : length ls ≤ i → length ks ≤ i → difference (drop i ls) (drop i ks) ≡ none
  unfolding difference
  difference-end h g = ap₂ difference (drop_of_length-le ls {i = i} h) (drop_of_length-le ks {i = i} g)

-- ---- replay from an empty register

pub nothing-good : GoodContents nothing
nothing-good = held-good nothing nothing nothing-held

pub empty-valid : is_register empty_register ≡ true
empty-valid = ap is_register (sym no-loans) ∙ register-sound.valid nothing nothing-good

pub empty_holds : contents_of empty_register ≡ nothing
empty_holds = ap contents_of (sym no-loans) ∙ register-sound.back nothing nothing-good

pub empty-replayed : (log : List ℕ) → replay_log log empty_register ≡ accept (in_bytes register apply_record (from_empty log))
unfolding replayed
empty-replayed log = rw (empty-valid, empty_holds)

module _ (log : List ℕ) (k : Below 256 log) where
  pub from-good : GoodContents (from_empty log).state
  from-good = replay-good log nothing k nothing-good

  pub from-valid : is_register (bytes_of (from_empty log).state) ≡ true
  from-valid = register-sound.valid _ from-good

  pub from_back : contents_of (bytes_of (from_empty log).state) ≡ (from_empty log).state
  from_back = register-sound.back _ from-good

  pub from-size : length (bytes_of (from_empty log).state) ≡ 12308
  from-size = (register-known _ from-valid).size

-- ---- 23, 15, then the replay

module _ (log replica work : List ℕ) where
  pub trial-yes : is_register replica ≡ true → 12308 ≤ length work → trial_replay log replica work ≡ accept (from_empty log)
  unfolding trial_replay
  trial-yes v h = rw (v, le-leb 12308 (length work) h)

  pub trial-23 : is_register replica ≡ false → trial_replay log replica work ≡ refuse not_register
  unfolding trial_replay
  trial-23 v = rw v

  pub trial-15 : is_register replica ≡ true → length work < 12308 → trial_replay log replica work ≡ refuse area_too_short
  unfolding trial_replay
  trial-15 v h = rw (v, lt-leb 12308 (length work) h)
