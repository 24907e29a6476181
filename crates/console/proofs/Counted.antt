-- The counts for C, from those of the register.
use Rattle.iscc.specs.Refusals.{refusal_number}
use Prim.Native.Nat.{ℕ}
use mathlib.Core.Path.{◌≡◌, sym, ap}
use mathlib.Core.Bool.{Bool, true, false, true≢false}
use mathlib.Core.List.{List, []}
use Rattle.std.specs.Prelude.{Result, Ok, Err}
use Rattle.iscc.specs.Answer.{Answer, accept, refuse}
use Rattle.iscc.specs.Refusals.{Refusal}
use Rattle.register.specs.declared.answer.Counts as kept
use Rattle.register.specs.Representation.{counts_of, counts_as}
use Rattle.console.specs.declared.lending.Counts.{Counts}
use Rattle.console.specs.Representation.{counts_answer_as}

abbrev is_told : Result kept.Counts Refusal → Bool
is_told (Ok n) = true
is_told (Err q) = false

abbrev kept_in : Result kept.Counts Refusal → kept.Counts
kept_in (Ok n) = n
kept_in (Err q) = counts_of []

abbrev why_not : Result kept.Counts Refusal → ℕ
why_not (Ok n) = 0
why_not (Err q) = (refusal_number q)

abbrev with_zero : kept.Counts → Counts
with_zero n = record { number = 0; out = n.out; meta = n.meta; semantic = n.semantic; content = n.content; «data» = n.«data»; instance = n.instance; iscc = n.iscc; id = n.id }

abbrev with_zeros : ℕ → Counts
with_zeros k = record { number = k; out = 0; meta = 0; semantic = 0; content = 0; «data» = 0; instance = 0; iscc = 0; id = 0 }

pub counts-told : (x : Answer (List ℕ)) (n : kept.Counts) → Ok n ≡ counts_as x
    → record { number = 0; out = n.out; meta = n.meta; semantic = n.semantic; content = n.content; «data» = n.«data»; instance = n.instance; iscc = n.iscc; id = n.id }
    ≡ counts_answer_as x
counts-told (accept ns) n e = ap with_zero (ap kept_in e)
counts-told (refuse q) n e = absurd (true≢false (ap is_told e))

pub counts-refused : (x : Answer (List ℕ)) (q : Refusal) → Err q ≡ counts_as x
    → record { number = (refusal_number q); out = 0; meta = 0; semantic = 0; content = 0; «data» = 0; instance = 0; iscc = 0; id = 0 } ≡ counts_answer_as x
counts-refused (accept ns) q e = absurd (true≢false (sym (ap is_told e)))
counts-refused (refuse p) q e = ap with_zeros (ap why_not e)
