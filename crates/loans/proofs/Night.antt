-- The last change about a code decides who has it: over any records, and so over a log from an empty register.
use Prim.Native.Nat.{ℕ}
use mathlib.Core.Path.{◌≡◌, refl, sym, ◌∙◌, ap, ap₂}
use mathlib.Core.Logic.{◌⊎◌, inl, inr, ◌↔◌}
use mathlib.Core.Bool.{cond, not}
use mathlib.Core.Option.{Option, none, some, none-ne-some, some-injective}
use mathlib.Core.List.{List, [], ◌∷◌, ◌++◌}
use lib.ListN.{length}
use lib.Dec.{ltb}
use borrow.Author.Tests.{not-true}
use Rattle.iscc.specs.Answer.{accept}
use Rattle.iscc.specs.Refusals.{already_out, all_out, not_out}
use Rattle.iscc.specs.Digits.{Below}
use Rattle.iscc.specs.Lists.{same_bytes}
use Rattle.iscc.proofs.Answer.{passed, accept-inj}
use Rattle.iscc.proofs.Demand3.{same_bytes-refl}
use Rattle.loans.specs.Loan.{Loan, loan_of, find, is_out, without}
use Rattle.loans.specs.Map.{Change, issue_code, return_code, change_with}
use Rattle.loans.specs.Order.{put}
use Rattle.loans.specs.Numbered.{Contents, nothing}
use Rattle.loans.specs.Contents.{changed_loans, register}
use Rattle.loans.specs.Good.{Rising, GoodContents}
use Rattle.loans.specs.Log.{Record, records_from}
use Rattle.loans.specs.Replay.{replay_all}
use Rattle.loans.specs.Records.{code_of}
use Rattle.loans.specs.PendingLog.{apply_record}
use Rattle.loans.specs.CodesOut.{applied_in, takes_record}
use Rattle.loans.specs.PromotionPromises.{made_loans, changes_in, NoneAbout, LastIsIssue}
use Rattle.loans.proofs.Loan.{Same?, same, other, same?, differ, find-without-other, find-without-same}
use Rattle.loans.proofs.Map.{not-out}
use Rattle.loans.proofs.Order.{put_same, rising-distinct}
use Rattle.loans.proofs.Fields.{BytesIn, bytes-in}
use Rattle.loans.proofs.PendingLog.{record-good}
use Rattle.loans.proofs.Balance.{replay-walk}
use Rattle.loans.proofs.CodesOut.{record-takes}
use Rattle.loans.proofs.Promotion.{nothing-good}

module _ (c : List ℕ) where
  -- who has the code after a change, and after changes, by who had it before
  abbrev decided : Change → Option ℕ → Option ℕ
  decided (issue_code d b) o = cond (same_bytes c d) (some b) o
  decided (return_code d) o = cond (same_bytes c d) none o

  abbrev pub decided_by : List Change → Option ℕ → Option ℕ
  decided_by [] o = o
  decided_by (ch ∷ chs) o = decided_by chs (decided ch o)

  change-decides : (ch : Change) (ls ls' : List Loan) → changed_loans ch ls ≡ accept ls' → Rising ls → find c ls' ≡ decided ch (find c ls)
  unfolding change_with find
  change-decides (issue_code d b) ls ls' e r =
      let p = passed (not (is_out d ls)) already_out _ e in
      let q = passed (ltb (length ls) 256) all_out (accept (put (loan_of d b) ls)) p.1 in
      ap (find c) (sym (accept-inj q.1)) ∙ (put_same (loan_of d b) ls (not-out d ls (not-true (is_out d ls) p.0))).finds c
  change-decides (return_code d) ls ls' e r = ap (find c) (sym (accept-inj (passed (is_out d ls) not_out (accept (without d ls)) e).1)) ∙ go (same? c d)
    where
      go : Same? c d → find c (without d ls) ≡ cond (same_bytes c d) none (find c ls)
      go (same p t) = rw (t, p) (find-without-same d ls (rising-distinct ls r))
      go (other p t) = rw t (find-without-other d c ls p)

  decided-more : (xs ys : List Change) (o : Option ℕ) → decided_by (xs ++ ys) o ≡ decided_by ys (decided_by xs o)
  decided-more [] ys o = refl
  decided-more (x ∷ xs) ys o = decided-more xs ys (decided x o)

  -- over any state and any records
  pub records-decide : (es : List Record) (tear : Option ℕ) (s : Contents) → BytesIn es → GoodContents s
      → find c (replay_all apply_record es tear s).state.loans ≡ decided_by (applied_in register apply_record takes_record es s) (find c s.loans)
  records-decide es tear s k g =
      (replay-walk register GoodContents apply_record takes_record record-good (λ s s' chs. find c s'.loans ≡ decided_by chs (find c s.loans)) (λ s. refl)
      (λ s t u xs ys p q. q ∙ ap (decided_by ys) p ∙ sym (decided-more xs ys (find c s.loans)))
      (λ f s s' h e. record-takes (λ ls ls' chs. Rising ls → find c ls' ≡ decided_by chs (find c ls)) (λ ls r. refl) change-decides f s s' e h.list.order)
      es tear s k g).1

  -- ---- that is the last one about it

  decided-other : (ch : Change) (o : Option ℕ) → (code_of ch ≡ c → ⊥) → decided ch o ≡ o
  decided-other (issue_code d b) o f = rw (differ c d (λ e. f (sym e)))
  decided-other (return_code d) o f = rw (differ c d (λ e. f (sym e)))

  none-decides : (chs : List Change) (o : Option ℕ) → NoneAbout c chs → decided_by chs o ≡ o
  none-decides [] o n = refl
  none-decides (ch ∷ chs) o n = ap (decided_by chs) (decided-other ch o n.0) ∙ none-decides chs o n.1

  last-or-none : (chs : List Change) (o : Option ℕ) (b : ℕ) → decided_by chs o ≡ some b → LastIsIssue c b chs ⊎ ((o ≡ some b) × NoneAbout c chs)
  last-or-none [] o b e = inr (e, tt)
  last-or-none (ch ∷ chs) o b e =
      elim (last-or-none chs (decided ch o) b e) [
        | inl l ↦ inl (record { earlier = ch ∷ l.earlier; later = l.later; parts = ap (λ (xs : List Change). ch ∷ xs) l.parts; none = l.none })
        | inr x ↦ here ch (same? c (code_of ch)) x.0 x.1
      ]
    where
      here : (ch : Change) → Same? c (code_of ch) → decided ch o ≡ some b → NoneAbout c chs → LastIsIssue c b (ch ∷ chs) ⊎ ((o ≡ some b) × NoneAbout c (ch ∷ chs))
      here (issue_code d b') (same p t) w n =
          inl (record { earlier = []; later = chs; parts = ap₂ (λ (d : List ℕ) (b : ℕ). issue_code d b ∷ chs) (sym p) (some-injective b' b (rw t at w)); none = n })
      here (return_code d) (same p t) w n = absurd (none-ne-some b (rw t at w))
      here ch (other p t) w n = inr (sym (decided-other ch o (λ e. p (sym e))) ∙ w, ((λ e. p (sym e)), n))

  issue-decides : (b : ℕ) (chs : List Change) → LastIsIssue c b chs → decided_by chs none ≡ some b
  issue-decides b chs l =
      rw (l.parts, decided-more l.earlier (issue_code c b ∷ l.later) none, same_bytes-refl c) (none-decides l.later (some b) l.none)

  pub last-decides : (log : List ℕ) (b : ℕ) → Below 256 log → (find c (made_loans log) ≡ some b) ↔ LastIsIssue c b (changes_in log)
  unfolding find
  last-decides log b k =
      let e : find c (made_loans log) ≡ decided_by (changes_in log) none = records-decide (records_from 0 log).whole (records_from 0 log).tear nothing (bytes-in 0 log k) nothing-good in (
        λ w. elim (last-or-none (changes_in log) none b (sym e ∙ w)) [ inl l ↦ l | inr x ↦ absurd (none-ne-some b x.0) ],
        λ l. e ∙ issue-decides b (changes_in log) l,
      )
