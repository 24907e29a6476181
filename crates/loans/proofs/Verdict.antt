-- What each verdict of a promotion says, and where it is given; what the work area holds.
use Rattle.iscc.specs.Refusals.{refusal_number}
use Prim.Native.Nat.{ℕ}
use mathlib.Core.Path.{◌≡◌, refl, ◌∙◌, ap, ap₂}
use mathlib.Core.Logic.{◌⊎◌, inl, inr}
use mathlib.Core.Bool.{Bool, true, false}
use mathlib.Core.Option.{Option, none, some}
use mathlib.Core.List.{List, ◌++◌}
use native.Mathlib.Omega.{arith}
use lib.ListN.{length, take, drop, length-append, length-drop}
use lib.Seq.{take_at, drop_at}
use lib.Dec.{eqb, leb}
use borrow.Author.Tests.{eq-eqb, ne_eqb, eqb-true, eqb-false, leb-true}
use Rattle.iscc.specs.Refusals.{Refusal, area_too_short, not_register, last_numbers_differ, log_torn, loans_differ}
use Rattle.iscc.specs.Answer.{accept, ◌>>◌, ◌otherwise◌}
use Rattle.iscc.specs.Digits.{Below}
use Rattle.loans.specs.Loan.{find}
use Rattle.loans.specs.Numbered.{Contents, nothing}
use Rattle.loans.specs.Contents.{is_register, contents_of, bytes_of}
use Rattle.loans.specs.Replay.{End, ended, torn, stopped}
use Rattle.loans.specs.PendingLog.{apply_record}
use Rattle.loans.specs.Promotion.{Verdict, granted, refused, refused_at, refused_for, difference, by_difference, compared, from_empty, trial_replay, by_end, verdict_of, promotion, work_left, work_after}
use Rattle.loans.specs.PromotionPromises.{SameLoans, Admitted, Ran, May, LastAlone, LoansApart, NotRan}
use Rattle.loans.proofs.Contents.{contents-rising}
use Rattle.loans.proofs.Numbers.{Within}
use Rattle.loans.proofs.Settled.{stop-number}
use Rattle.loans.proofs.LogPromises.{record-numbers}
use Rattle.loans.proofs.Promotion.{Told, told, same_none, least-some, from-good, from-size, trial-yes}

module _ (log replica work : List ℕ) where
  abbrev made : Contents
  made = (from_empty log).state

  abbrev held : Contents
  held = contents_of replica

  -- its number; and what it says of the log and the replica
  abbrev pub Means : Verdict → Type 0
  Means granted = May log replica work × (made ≡ held)
  Means (refused q) = Within 15 27 q × ((refusal_number q) ≡ refusal_number last_numbers_differ → LastAlone log replica work)
  Means (refused_at q offset) = (Within 20 25 q ⊎ ((q ≡ log_torn) × ((from_empty log).end ≡ torn offset))) × NotRan log replica work q offset
  Means (refused_for q c) = (q ≡ loans_differ) × (Below 256 log → LoansApart log replica work c)

  compared-means : Ran log replica work → (o : Option (List ℕ)) (b : Bool) → Told made.loans held.loans o → eqb made.last held.last ≡ b → Means (by_difference o b)
  compared-means r none true t e =
      let n : made.last ≡ held.last = eqb-true made.last held.last e in
      (record { end = r; same = λ c. ap (find c) t; last = n }, λ i. record { loans = t i; last = n i })
  compared-means r none false t e =
      ((omega arith, omega arith), λ z. record { end = r; same = λ c. ap (find c) t; last = eqb-false made.last held.last e })
  compared-means r (some c) b t e =
      (refl, λ k. record { end = r; code = t (from-good log k).list.order (contents-rising replica r.admitted.valid) })

  end-means : Admitted replica work → (x : End) → (from_empty log).end ≡ x → Means (by_end x (compared made held))
  unfolding compared
  end-means a ended e = compared-means (record { admitted = a; ran = e }) (difference made.loans held.loans) _ (told made.loans held.loans) refl
  end-means a (torn offset) e = (inr (refl, e), record { admitted = a; told = inr (e, refl) })
  end-means a (stopped q offset) e =
      (inl (stop-number apply_record (Within 20 25) record-numbers log nothing q offset e), record { admitted = a; told = inl e })

  pub means : Means (promotion log replica work)
  unfolding promotion trial_replay
  means = go (is_register replica) (leb 12308 (length work)) refl refl
    where
      go : (a b : Bool) → is_register replica ≡ a → leb 12308 (length work) ≡ b
          → Means (verdict_of held (a otherwise not_register >> (b otherwise area_too_short >> accept (from_empty log))))
      go true true p w = end-means (record { valid = p; room = leb-true 12308 (length work) w }) (from_empty log).end refl
      go true false p w = ((omega arith, omega arith), λ e. absurd (omega (arith, e)))
      go false b p w = ((omega arith, omega arith), λ e. absurd (omega (arith, e)))

  -- ---- and the other way round

  module _ (a : Admitted replica work) where
    pub by_end-is : promotion log replica work ≡ by_end (from_empty log).end (compared made held)
    unfolding promotion
    by_end-is = ap (verdict_of held) (trial-yes log replica work a.valid a.room)

    pub work-is : work_after log replica work ≡ bytes_of made ++ drop 12308 work
    unfolding work_after
    work-is = ap (work_left work) (trial-yes log replica work a.valid a.room)

  by_difference-is : Ran log replica work → promotion log replica work ≡ by_difference (difference made.loans held.loans) (eqb made.last held.last)
  unfolding compared
  by_difference-is r = by_end-is r.admitted ∙ ap (λ (x : End). by_end x (compared made held)) r.ran

  pub told_at : (q : Refusal) (offset : ℕ) → NotRan log replica work q offset → promotion log replica work ≡ refused_at q offset
  told_at q offset n = by_end-is n.admitted ∙ elim n.told [ inl e ↦ rw e | inr e ↦ rw (e.0, e.1) ]

  module _ (k : Below 256 log) where
    none_told : Ran log replica work → SameLoans made.loans held.loans → difference made.loans held.loans ≡ none
    none_told r s = same_none made.loans held.loans (from-good log k).list.order (contents-rising replica r.admitted.valid) s

    pub may-granted : May log replica work → promotion log replica work ≡ granted
    may-granted m = by_difference-is m.end ∙ ap₂ by_difference (none_told m.end m.same) (eq-eqb made.last held.last m.last)

    pub last-told : LastAlone log replica work → promotion log replica work ≡ refused last_numbers_differ
    last-told m = by_difference-is m.end ∙ ap₂ by_difference (none_told m.end m.same) (ne_eqb made.last held.last m.last)

    pub code-told : (c : List ℕ) → LoansApart log replica work c → promotion log replica work ≡ refused_for loans_differ c
    code-told c m =
        by_difference-is m.end
        ∙ ap (λ (o : Option (List ℕ)). by_difference o (eqb made.last held.last))
        (least-some made.loans held.loans c (from-good log k).list.order (contents-rising replica m.end.admitted.valid) m.code)

    -- ---- the work area

    pub work-front : Admitted replica work → take 12308 (work_after log replica work) ≡ bytes_of made
    work-front a = ap (take 12308) (work-is a) ∙ take_at (bytes_of made) (drop 12308 work) 12308 (from-size log k)

    -- how long it is, and its rest, whatever the answer
    pub work-rest : (length (work_after log replica work) ≡ length work) × (drop 12308 (work_after log replica work) ≡ drop 12308 work)
    unfolding work_after trial_replay
    work-rest = go (is_register replica) (leb 12308 (length work)) refl
      where
        go : (a b : Bool) → leb 12308 (length work) ≡ b
            → let after = work_left work (a otherwise not_register >> (b otherwise area_too_short >> accept (from_empty log))) in
            (length after ≡ length work) × (drop 12308 after ≡ drop 12308 work)
        go true true w =
            let n : length (bytes_of made) ≡ 12308 = from-size log k in (
              length-append (bytes_of made) (drop 12308 work) ∙ omega (arith, n, length-drop 12308 work, leb-true 12308 (length work) w),
              drop_at (bytes_of made) (drop 12308 work) 12308 n,
            )
        go true false w = (refl, refl)
        go false b w = (refl, refl)
