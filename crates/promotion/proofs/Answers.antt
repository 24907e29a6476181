-- The checker's answers: a code that is copied, and what they tell.
use Prim.Native.Nat.{ℕ, ◌-◌}
use mathlib.Core.Path.{◌≡◌, refl, sym, ◌∙◌, ap, subst}
use mathlib.Core.List.{List, ◌++◌}
use native.Mathlib.Omega.{arith}
use lib.ListN.{length, take, drop, replicate}
use lib.Seq.{take-append_seam}
use Rattle.iscc.specs.Answer.{number_of}
use Rattle.iscc.specs.Lists.{zero_filled}
use Rattle.iscc.specs.Representation.{code_as}
use Rattle.iscc.specs.declared.code.Code.{Code}
use Rattle.iscc.proofs.Codes.{code-value}
use Rattle.loans.specs.Promotion as verdicts
use Rattle.loans.specs.Promotion.{granted, refused, refused_at, refused_for}
use Rattle.loans.specs.PromotionOrder.{verdict_answer}
use Rattle.promotion.specs.Representation.{Promotion, code_told, offset_told, promotion_as, promotion_number, promotion_offset, promotion_code}

-- a code copied over zeros
pub copied : (c held front : List ℕ) → c ≡ held → front ≡ c
    → ◌≡◌ {A = Code} (record { bytes = front ++ drop (length c - 0) (replicate 42 0); length = length c }) (code_as held)
copied c held front e f =
    let k : length c - 0 ≡ length c = omega arith in
    code-value c (front ++ drop (length c - 0) (replicate 42 0)) (length c) (rw (f, k)) refl ∙ ap code_as e

-- ---- number, offset and code are told by the answer

code-front : (c : List ℕ) → take (code_as c).length (code_as c).bytes ≡ c
unfolding code_as zero_filled
code-front c = take-append_seam c _

told : (v : verdicts.Verdict)
    → (promotion_number (promotion_as v) ≡ number_of (verdict_answer v)) × (promotion_offset (promotion_as v) ≡ offset_told v) × (promotion_code (promotion_as v) ≡ code_told v)
told granted = (refl, refl, refl)
told (refused q) = (refl, refl, refl)
told (refused_at q offset) = (refl, refl, refl)
told (refused_for q c) = (refl, refl, code-front c)

pub all_told-is : (v : verdicts.Verdict) (p : Promotion) → p ≡ promotion_as v
    → (promotion_number p ≡ number_of (verdict_answer v)) × (promotion_offset p ≡ offset_told v) × (promotion_code p ≡ code_told v)
all_told-is v p e =
    subst (λ (x : Promotion). (promotion_number x ≡ number_of (verdict_answer v)) × (promotion_offset x ≡ offset_told v) × (promotion_code x ≡ code_told v)) (sym e) (told v)
